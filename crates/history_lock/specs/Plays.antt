-- What a step at the word tells its seat.
use Rattle.std.specs.Prelude.{◌≡◌, ℕ, List, [], ◌∷◌, ◌++◌}
use Rattle.atomic_table.specs.Table.{Step, Me}
use Rattle.history_lock.specs.declared.view.View.{View}
use Rattle.history_lock.specs.Rule.{IsTold}
use Rattle.history_lock.specs.Views.{view_of, with_view}
use Rattle.history_lock.specs.Kinds.{appended, ended_by}
use Rattle.history_lock.specs.declared.machine.EndCause.{EndCause}

-- A read changes no view, and tells what the rule says of the seat's own.
abbrev pub Told : {S I : Type 0} → (I → ℕ) → (List I → Type 0) → Step S → Me S (View I) → ℕ → Me S (View I) → Type 0
Told caller_of Legal step me found after = (after ≡ me) × IsTold caller_of Legal (view_of me)

-- An append puts some entry behind the book's history, which then is the list that is written.
abbrev pub Appended : {S I : Type 0} → (I → ℕ) → List I → Step S → Me S (View I) → ℕ → Me S (View I) → Type 0
Appended {S} {I} caller_of written step me found after = (e : I) × (written ≡ (view_of me).history ++ e ∷ []) × (after ≡ with_view (appended caller_of (view_of me) e) me)

-- An end changes no word, and the book knows the cause.
abbrev pub EndedBy : {S I : Type 0} → EndCause → Step S → Me S (View I) → ℕ → Me S (View I) → Type 0
EndedBy cause step me found after = after ≡ with_view (ended_by (view_of me) cause) me
