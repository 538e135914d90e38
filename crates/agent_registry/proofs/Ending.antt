-- An entry that is neither a departure nor a load ends no registration by itself.
use Rattle.std.proofs.Common.{◌≡◌, ◌==◌, true, false, ◌||◌, not}
use Rattle.std.proofs.lemmas.Bool.{and_left, and_right, or_from, not_from_false}
use Rattle.authority_model.specs.declared.journal.Entry.{Entry}
use Rattle.authority_model.specs.declared.pending.Agent.{Agent}
use Rattle.authority_model.specs.declared.world.World.{World}
use Rattle.authority_model.specs.Worlds.{lists_key}
use Rattle.authority_model.specs.Items.{is_load}
use Rattle.authority_model.specs.Peers.{is_depart}
use Rattle.entry_changes.specs.Changes.{leaves, unlisted}
use Rattle.agent_registry.specs.Rows.{stays}

-- the registration stays
pub all_stay : (e : Entry) (world : World) → is_depart e.event ≡ false → is_load e.event ≡ false → (a : Agent) → stays e world a ≡ true
all_stay e world depart load a = not_from_false (leaves e a.caller || unlisted e world a.key) (or_from (leaves e a.caller) (unlisted e world a.key) (and_right (e.caller == a.caller) (is_depart e.event) depart) (and_left (is_load e.event) (not (lists_key world a.key)) load))
