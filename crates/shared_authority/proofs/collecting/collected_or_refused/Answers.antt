use Rattle.std.proofs.Common.{Result, Some, subst}
use Rattle.history_lock.specs.declared.refused.CallRefused.{CallRefused}
use Rattle.shared_authority.specs.declared.operation.Op.{Op}
use Rattle.shared_authority.specs.declared.operation.Op.TheVariants.{Collect}
use Rattle.shared_authority.specs.declared.operation.Refusal.{Refusal}
use Rattle.shared_authority.specs.declared.operation.Reply.{Reply}
use Rattle.shared_authority.specs.Passes.{CalledNow}
use Rattle.shared_authority.proofs.Entering.{collects, had_room}
use Rattle.shared_authority.proofs.collecting.collected_or_refused.Goals as goal

pub returns-in-Ok-clause-collects : goal.returns-in-Ok-clause-collects
returns-in-Ok-clause-collects c = λ limits v w of called.
    collects limits v w of c.in-Ok.reply c.into_batch.result c.of_batch.result c.into_batch.ensures
    (subst (λ (answer : Result Reply (CallRefused Op Refusal)). CalledNow limits v (Collect of) (Some answer) w) c.in-Ok.is called)
    c.of_batch.ensures

pub returns-in-Ok-clause-room : goal.returns-in-Ok-clause-room
returns-in-Ok-clause-room c = λ limits v w of called.
    had_room limits v w (Collect of) c.in-Ok.reply
    (subst (λ (answer : Result Reply (CallRefused Op Refusal)). CalledNow limits v (Collect of) (Some answer) w) c.in-Ok.is called)
