-- What a service that is not live leaves of looks at processes: nothing.
use Rattle.std.specs.Prelude.{◌≡◌, List, None}
use Rattle.authority_model.specs.declared.journal.Item.{Item}
use Rattle.connection_serve.specs.declared.ends.LiveEnd.TheVariants as live
use Rattle.connection_serve.specs.Ends.{plain_of}
use Rattle.journal_scan.specs.Counts.{totals_of}
use Rattle.service_slots.specs.declared.line.Line.{Line}

-- The connection never looked at a process.
pub record NeverLooked (line : Line) : Type 0 where
  -- it had no sighter
  pub sighter : line.sighter ≡ None
  -- and no look of it failed
  pub plain : line.end ≡ live.Plain (plain_of line.end)

-- no load of a history is by a sighter
abbrev pub HasNoUnlisted : List Item → Type 0
HasNoUnlisted past = (totals_of past).unlisted ≡ 0
