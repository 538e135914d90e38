-- The registrations as rows.
use Rattle.std.specs.Prelude.{ℕ, Bool, not, ◌||◌, List}
use Rattle.authority_model.specs.declared.journal.Entry.{Entry}
use Rattle.authority_model.specs.declared.pending.Agent.{Agent}
use Rattle.authority_model.specs.declared.world.World.{World}
use Rattle.entry_changes.specs.Changes.{leaves, unlisted}

-- the registrations in their order, and for how many more there is room
pub record Rows : Type 0 where
  pub items : List Agent
  pub room : ℕ

-- whether an entry leaves a registration alone: it is not its connection's departure, nor a load whose world does not list its key
abbrev pub stays : Entry → World → Agent → Bool
stays e world a = not (leaves e a.caller || unlisted e world a.key)
