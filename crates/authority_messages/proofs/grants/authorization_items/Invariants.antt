use Rattle.std.proofs.Common.{map, take}
use Rattle.std.specs.Prelude.{codes}
use Rattle.authority_messages.specs.Values.{authorization}
use Rattle.authority_messages.specs.Built.{Items}
use Rattle.authority_messages.proofs.grants.authorization_items.Given as goal

abbrev pub invariant-loop-row : goal.invariant-loop-row
invariant-loop-row l = Items 5 (codes "(ss(sa{sv})tt)") l.items (map authorization (take l.row-index l.rows))
