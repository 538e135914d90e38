-- What one more thing that is handed in takes of the clock and of the random words.
use Rattle.std.proofs.Common.{◌≡◌, ◌==◌, ℕ, Bool, true, false, List, [], ◌∷◌, ◌++◌, sym, append-nil, map}
use Rattle.std.specs.Prelude.{reverse, filter, if◌then◌else◌}
use Rattle.std.proofs.lemmas.List.{reverse-append}
use Rattle.authority_model.specs.Given.{Given}
use Rattle.pipe_run.specs.declared.served.TheConstants.{CONNECTION}
use Rattle.pipe_run.specs.Handed.{moments_of, words_of}

pub one_moment : (g : Given) (given : List Given) → moments_of (g ∷ given) ≡ moments_of given ++ g.moment ∷ []
one_moment g given = reverse-append (g.moment ∷ []) (map (λ g. g.moment) given)

-- the random word of the connection's own
abbrev pub word_for : Bool → Given → List ℕ
word_for true g = g.salt ∷ []
word_for false g = []

pub one_word : (g : Given) (given : List Given) → words_of (g ∷ given) ≡ words_of given ++ word_for (g.caller == CONNECTION) g
one_word g given = of (g.caller == CONNECTION)
  where
    of : (b : Bool) → reverse (map (λ g. g.salt) (if b then g ∷ filter (λ g. g.caller == CONNECTION) given else filter (λ g. g.caller == CONNECTION) given)) ≡ words_of given ++ word_for b g
    of true = reverse-append (g.salt ∷ []) (map (λ g. g.salt) (filter (λ g. g.caller == CONNECTION) given))
    of false = sym (append-nil (words_of given))
