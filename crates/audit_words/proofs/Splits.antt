-- How the words that are left follow from a cut.
use Rattle.std.proofs.Common.{◌≡◌, [], ◌∷◌, List, ℕ, Bool, true, false, not, cond, ◌==◌, refl, ◌∙◌, ap}
use Rattle.pk_types.specs.Pieces.{Lacks, IsCut, onto_first, pieces_of}
use Rattle.pk_types.proofs.Cuts.{pieces_of-cut, pieces_of-last}
use Rattle.audit_words.specs.Codecs.{is_done}
use Rattle.audit_words.specs.Lines.{words_left}

pub words_cut : (more : Bool) (rest word after : List ℕ) → more ≡ true → IsCut 32 rest word after → words_left more rest ≡ word ∷ words_left more after
words_cut true rest word after m cut = ap (pieces_of 32) cut.whole ∙ pieces_of-cut 32 word after cut.first
words_cut false rest word after m cut = absurd cc

pub words_last : (more : Bool) (rest : List ℕ) → more ≡ true → Lacks 32 rest → words_left more rest ≡ rest ∷ []
words_last true rest m lacks = pieces_of-last 32 rest lacks
words_last false rest m lacks = absurd cc

none_done : (p : Bool) (b : ℕ) (ps qs : List (List ℕ)) → false ≡ is_done (cond p ([] ∷ ps) (onto_first b qs))
none_done true b ps qs = refl
none_done false b ps [] = refl
none_done false b ps (q ∷ qs) = refl

pub done_is : (more : Bool) (rest : List ℕ) → not more ≡ is_done (words_left more rest)
done_is false rest = refl
done_is true [] = refl
done_is true (b ∷ bs) = none_done (b == 32) b (pieces_of 32 bs) (pieces_of 32 bs)
