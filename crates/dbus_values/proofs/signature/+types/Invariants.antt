use Rattle.std.proofs.Common.{◌≡◌, length, ◌+◌, ◌-◌, ◌*◌}
use Rattle.dbus_values.specs.Signatures.{members_end, type_end}
use Rattle.dbus_values.proofs.signature.+types.Given as goal

abbrev pub decreases-entry_end : goal.decreases-entry_end
decreases-entry_end l = 4 * l.level + 1

abbrev pub decreases-item_end : goal.decreases-item_end
decreases-item_end l = 4 * l.level + 2

abbrev pub decreases-members_end : goal.decreases-members_end
decreases-members_end l = 4 * l.level + 1

abbrev pub decreases-type_end : goal.decreases-type_end
decreases-type_end l = 4 * l.level

abbrev pub invariant-members_end-loop-i : goal.invariant-members_end-loop-i
invariant-members_end-loop-i l = members_end (type_end l.level l.arrays l.structs) (length l.fn.sig - l._i) l.here ≡ members_end (type_end l.level l.arrays l.structs) (length l.fn.sig) l.fn.sig
