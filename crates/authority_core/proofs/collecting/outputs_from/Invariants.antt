use Rattle.std.proofs.Common.{◌≡◌, drop, take}
use Rattle.authority_model.specs.Items.{items_of}
use Rattle.authority_model.specs.Sent.{sent_to}
use Rattle.authority_core.proofs.collecting.outputs_from.Given as goal

abbrev pub invariant-loop-before : goal.invariant-loop-before
invariant-loop-before l = l.outputs ≡ drop l.first (take l.before (sent_to (items_of l.history) l.caller))
