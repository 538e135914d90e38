use Rattle.std.proofs.Common.{◌≡◌, take}
use Rattle.std.specs.Prelude.{flat_map, fold}
use Rattle.admin_identities.specs.Adding.{added, member_of}
use Rattle.admin_identities.proofs.members.add_members.Given as goal

-- those of the users so far are added
abbrev pub invariant-loop-user : goal.invariant-loop-user
invariant-loop-user l = l.found ≡ fold added l.initial.found (flat_map (member_of l.gid) (take l.user-index l.users))
