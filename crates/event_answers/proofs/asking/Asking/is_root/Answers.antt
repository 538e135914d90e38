use Rattle.std.proofs.Common.{◌∙◌}
use Rattle.event_answers.proofs.Callers.{root_is}
use Rattle.event_answers.proofs.asking.Asking.is_root.Goals as goal

pub returns : goal.returns
returns c = record { root = λ past is. c.is_root.ensures.root ∙ root_is past c.args.self.to.caller c.args.self.peer is }
