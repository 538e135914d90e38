-- What was written of what was sent, and what is kept to be written.
use Rattle.std.proofs.Common.{◌≡◌, ◌++◌, [], List, ℕ, Option, refl, sym, ◌∙◌, ap, subst, append_assoc, append-nil}
use Rattle.pk_outside.specs.Streams.{Got, GotUpTo}
use Rattle.pk_outside.proofs.Written.{Got-more, Got-none}
use Rattle.pk_outside.specs.Allowing.{IsFront}
use Rattle.pipe_run.specs.Stages.{IsPosted}

-- nothing was sent
pub posted_none : (held : Option (List ℕ)) → IsPosted held held [] []
posted_none held = record { written = []; got = Got-none held; all_is = refl }

-- more was sent, and is kept
pub posted_more : (before held : Option (List ℕ)) (unsent unsent' all all' bytes : List ℕ) → IsPosted before held unsent all → unsent' ≡ unsent ++ bytes → all' ≡ all ++ bytes → IsPosted before held unsent' all'
posted_more before held unsent unsent' all all' bytes p kept sent = record {
  written = p.written;
  got = p.got;
  all_is = ap (λ r. p.written ++ r) kept ∙ sym (append_assoc p.written unsent bytes) ∙ ap (λ r. r ++ bytes) p.all_is ∙ sym sent;
}

-- the first of what was kept was written
pub posted_out : (before held held' : Option (List ℕ)) (unsent unsent' all : List ℕ) → IsPosted before held unsent all → GotUpTo held held' unsent unsent' → IsPosted before held' unsent' all
posted_out before held held' unsent unsent' all p out = record {
  written = p.written ++ out.0;
  got = Got-more before held held' p.written out.0 p.got out.2;
  all_is = append_assoc p.written out.0 unsent' ∙ ap (λ r. p.written ++ r) (sym out.1) ∙ p.all_is;
}

-- nothing is kept
pub posted_all : (before held : Option (List ℕ)) (unsent all : List ℕ) → IsPosted before held unsent all → unsent ≡ [] → Got before held all
posted_all before held unsent all p none = subst (Got before held) (sym (append-nil p.written) ∙ ap (λ r. p.written ++ r) (sym none) ∙ p.all_is) p.got

-- what was written is a prefix of what was sent, and of what is sent with more
pub posted_front : {before held : Option (List ℕ)} {unsent all : List ℕ} (p : IsPosted before held unsent all) → IsFront p.written all
posted_front {unsent = unsent} p = (unsent, sym p.all_is)

pub posted_before : {before held : Option (List ℕ)} {unsent all : List ℕ} (all' bytes : List ℕ) (p : IsPosted before held unsent all) → all' ≡ all ++ bytes → IsFront p.written all'
posted_before {unsent = unsent} all' bytes p more = (unsent ++ bytes, more ∙ ap (λ r. r ++ bytes) (sym p.all_is) ∙ append_assoc p.written unsent bytes)
