use Rattle.std.proofs.Common.{map, take}
use Rattle.std.specs.Prelude.{codes}
use Rattle.authority_messages.specs.Values.{description}
use Rattle.authority_messages.specs.Built.{Items}
use Rattle.authority_messages.proofs.actions.description_items.Given as goal

abbrev pub invariant-loop-action : goal.invariant-loop-action
invariant-loop-action l = Items 3 (codes "(ssssssuuua{ss})") l.items (map (description l.locale) (take l.action-index l.actions))
