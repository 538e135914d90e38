use Rattle.std.proofs.Common.{◌∙◌}
use Rattle.event_answers.proofs.Callers.{may_is}
use Rattle.event_answers.proofs.asking.Asking.may_for.Goals as goal

pub returns : goal.returns
returns c = record { may = λ past is. c.may_for.ensures.may ∙ may_is past c.args.self.to.caller c.args.self.peer is c.args.uid }
