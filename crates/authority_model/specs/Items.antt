-- The history as the definitions see it: its items, the newest first. What stands behind an item is the history before it.
use Rattle.std.specs.Prelude.{ℕ, ◌+◌, ◌==◌, Bool, true, false, if◌then◌else◌, List, [], ◌∷◌, Option, Some, None, reverse, take}
use Rattle.std.specs.Option.{option_map_or}
use Rattle.pk_types.specs.declared.values.Implicit.{Implicit}
use Rattle.authority_model.specs.declared.world.World.{World}
use Rattle.authority_model.specs.declared.policy.Policy.{Policy}
use Rattle.authority_model.specs.declared.load.Loaded.{Loaded}
use Rattle.authority_model.specs.declared.event.Event.{Event}
use Rattle.authority_model.specs.declared.event.Event.TheVariants.{Load}
use Rattle.authority_model.specs.declared.message.Output.{Output}
use Rattle.authority_model.specs.declared.journal.Entry.{Entry}
use Rattle.authority_model.specs.declared.journal.History.{History}
use Rattle.authority_model.specs.declared.verdict.RuleSource.{RuleSource}
pub use Rattle.authority_model.specs.declared.journal.Item.{Item}
use Rattle.authority_model.specs.Words.{Bytes}
use Rattle.authority_model.specs.Facts.{Facts}
use Rattle.authority_model.specs.Rules.{implicit}

-- whether an event is a load
abbrev pub is_load : Event → Bool
is_load (Load load) = true
is_load _ = false

-- an entry with the first of these loads if it is a load itself, and then what the rest gives
abbrev pub pair_up : Entry → Bool → List Loaded → (List Loaded → List Item) → List Item
pair_up e false loads rest = record { entry = e; loaded = None } ∷ rest loads
pair_up e true [] rest = record { entry = e; loaded = None } ∷ rest []
pair_up e true (l ∷ loads) rest = record { entry = e; loaded = Some l } ∷ rest loads

-- entries with their loads, the oldest first: the j-th Load has the j-th load
abbrev pub paired : List Entry → List Loaded → List Item
paired [] loads = []
paired (e ∷ es) loads = pair_up e (is_load e.event) loads (paired es)

-- the items of a history, the newest first
abbrev pub items_of : History → List Item
items_of h = reverse (paired h.entries h.loads)

-- the items of a history's first k entries, the newest first
abbrev pub before : History → ℕ → List Item
before h k = reverse (take k (paired h.entries h.loads))

-- load 0: the empty policy and world
abbrev pub empty_loaded : Loaded
empty_loaded = record {
  policy = record { actions = []; entries = []; admins = [] };
  world = record { users = []; groups = []; sessions = []; processes = [] };
  faults = [];
}

-- the last load, or load 0
abbrev pub loaded_of : List Item → Loaded
loaded_of [] = empty_loaded
loaded_of (i ∷ past) = option_map_or (λ l. l) i.loaded (loaded_of past)

-- the world in force
abbrev pub world_of : List Item → World
world_of past = (loaded_of past).world

-- the policy in force
abbrev pub policy_of : List Item → Policy
policy_of past = (loaded_of past).policy

-- the implicit value of an action for a subject of these facts
abbrev pub implicit_for : List Item → Facts → Bytes → Option (Implicit × RuleSource)
implicit_for past f action = implicit (policy_of past) (world_of past) f.uid f.category action

-- how many of the outputs go to a connection
abbrev pub count_to : ℕ → List Output → ℕ
count_to c [] = 0
count_to c (o ∷ outputs) = (if o.to == c then 1 else 0) + count_to c outputs

-- how many outputs went to a connection
abbrev pub sent : List Item → ℕ → ℕ
sent [] c = 0
sent (i ∷ past) c = sent past c + count_to c i.entry.outputs
