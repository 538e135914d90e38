use Rattle.std.proofs.Common.{map, take}
use Rattle.std.specs.Prelude.{codes}
use Rattle.authority_messages.specs.Values.{pair}
use Rattle.authority_messages.specs.Built.{Items}
use Rattle.authority_messages.proofs.pairs.pair_items.Given as goal

abbrev pub invariant-loop-one : goal.invariant-loop-one
invariant-loop-one l = Items 1 (codes "{ss}") l.items (map pair (take l.one-index l.from))
