-- How many temporary authorizations a change makes.
use Rattle.std.specs.Prelude.{ℕ}
use Rattle.entry_changes.specs.declared.change.GrantChange.{GrantChange}

-- one where it adds one
abbrev pub additions : GrantChange → ℕ
additions (GrantChange.Add g) = 1
additions _ = 0
