use Rattle.std.proofs.Common.{◌≡◌, map, take}
use Rattle.table_files.specs.Groups.{member_of}
use Rattle.table_files.specs.Kept.{listing_in}
use Rattle.table_files.proofs.memberships.joined.Given as goal

abbrev pub invariant-loop-user : goal.invariant-loop-user
invariant-loop-user l = l.joined ≡ map (member_of (map listing_in l.rows)) (take l.user-index l.users)
