use Rattle.std.proofs.Common.{Option, Result, subst}
use Rattle.history_lock.specs.declared.refused.CallRefused.{CallRefused}
use Rattle.shared_authority.specs.declared.operation.Op.{Op}
use Rattle.shared_authority.specs.declared.operation.Op.TheVariants.{Collect}
use Rattle.shared_authority.specs.declared.operation.Refusal.{Refusal}
use Rattle.shared_authority.specs.declared.operation.Reply.{Reply}
use Rattle.shared_authority.specs.Passes.{CalledNow}
use Rattle.shared_authority.proofs.collecting.collected_now.Goals as goal

pub returns-in-Some : goal.returns-in-Some
returns-in-Some c = λ limits v w of called.
    c.collected_or_refused.ensures.collects limits v w of
    (subst (λ (answer : Option (Result Reply (CallRefused Op Refusal))). CalledNow limits v (Collect of) answer w) c.in-Some.is called)
