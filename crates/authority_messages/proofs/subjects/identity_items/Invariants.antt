use Rattle.std.proofs.Common.{map, take}
use Rattle.std.specs.Prelude.{codes}
use Rattle.authority_messages.specs.Values.{identity}
use Rattle.authority_messages.specs.Built.{Items}
use Rattle.authority_messages.proofs.subjects.identity_items.Given as goal

abbrev pub invariant-loop-one : goal.invariant-loop-one
invariant-loop-one l = Items 4 (codes "(sa{sv})") l.items (map identity (take l.one-index l.from))
