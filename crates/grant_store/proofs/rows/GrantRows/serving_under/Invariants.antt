use Rattle.std.proofs.Common.{◌≡◌, drop}
use Rattle.std.specs.Prelude.{find}
use Rattle.authority_model.specs.Keys.{key_seen}
use Rattle.authority_model.specs.Deciding.{serves}
use Rattle.grant_store.specs.Listed.{rows_under}
use Rattle.grant_store.proofs.rows.GrantRows.serving_under.Given as goal

-- it is not under the numbers that were looked at
abbrev pub invariant-loop-number : goal.invariant-loop-number
invariant-loop-number l = find (serves (key_seen l.key) l.action l.moment) (rows_under l.self.items (drop l.number-index l.numbers)) ≡ find (serves (key_seen l.key) l.action l.moment) (rows_under l.self.items l.numbers)
