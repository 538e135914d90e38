-- What a Collect that does not wait has told.
use Rattle.std.proofs.Common.{◌≡◌, ℕ, Option, Some, Result, Ok, Err, refl, subst}
use Rattle.std.specs.Result.{result_err}
use Rattle.history_lock.specs.Known.{Known}
use Rattle.authority_model.specs.declared.journal.Item.{Item}
use Rattle.authority_model.specs.declared.journal.Limits.{Limits}
use Rattle.shared_authority.specs.declared.collecting.Collected.{Collected}
use Rattle.shared_authority.specs.declared.collecting.CollectRefused.{CollectRefused}
use Rattle.shared_authority.specs.Passes.{Collects, CollectIsRefused, CollectsNow}
use Rattle.connection_writer.specs.declared.ends.WriterEnd.{WriterEnd}
use Rattle.connection_writer.specs.Writing.{end_in}

-- it told of something
answered : (limits : Limits) (v w : Known Item) (of : ℕ) (now : Option (Result Collected CollectRefused)) (answer : Result Collected CollectRefused) → now ≡ Some answer → CollectsNow limits v of now w → CollectsNow limits v of (Some answer) w
answered limits v w of now answer is collects = subst (λ (n : Option (Result Collected CollectRefused)). CollectsNow limits v of n w) is collects

-- this was collected
pub told : (limits : Limits) (v w : Known Item) (of : ℕ) (now : Option (Result Collected CollectRefused)) (answer : Result Collected CollectRefused) (collected what : Collected) → now ≡ Some answer → answer ≡ Ok collected → collected ≡ what → CollectsNow limits v of now w → Collects v of what w
told limits v w of now answer collected what is ok same collects =
    subst (λ (c : Collected). Collects v of c w) same
    (subst (λ (a : Result Collected CollectRefused). CollectsNow limits v of (Some a) w) ok (answered limits v w of now answer is collects))

-- this was refused
pub refused_so : (limits : Limits) (v w : Known Item) (of : ℕ) (now : Option (Result Collected CollectRefused)) (answer : Result Collected CollectRefused) (refused : CollectRefused) → now ≡ Some answer → answer ≡ Err refused → CollectsNow limits v of now w → CollectIsRefused limits v refused w
refused_so limits v w of now answer refused is err collects = subst (λ (a : Result Collected CollectRefused). CollectsNow limits v of (Some a) w) err (answered limits v w of now answer is collects)

-- how writing ended is the error of the answer
pub end_is_error : {A : Type 0} (answer : Result A WriterEnd) → end_in answer ≡ result_err answer
end_is_error (Ok more) = refl
end_is_error (Err end) = refl
