-- Who knows the kept cause. No entry comes once a cause is kept, so whoever knows the cause knows the whole history.
use Rattle.std.specs.Prelude.{◌≡◌, List, Option, Some, None}
use Rattle.history_lock.specs.declared.machine.EndCause.{EndCause}

-- the cause that one knows, or what it is told, where it knows none
abbrev pub known_or : Option EndCause → Option EndCause → Option EndCause
known_or None told = told
known_or (Some cause) told = Some cause

-- A cause that is known beside the history h is the kept one, and h is the whole history.
abbrev pub KnowsEnd : {I : Type 0} → Option EndCause → List I → Option EndCause → List I → Type 0
KnowsEnd known h kept whole = (cause : EndCause) → known ≡ Some cause → (kept ≡ Some cause) × (h ≡ whole)
