-- How many actions a load has, by the counts of all loads.
use Rattle.std.specs.Prelude.{ℕ, ◌-◌, ◌==◌, List, length, map, slice_get, if◌then◌else◌}
use Rattle.std.specs.Prelude.{unwrap_or}
use Rattle.authority_model.specs.declared.load.Loaded.{Loaded}
use Rattle.authority_model.specs.declared.message.Answer.{Answer}
use Rattle.authority_model.specs.declared.message.Answer.TheVariants as answer
use Rattle.authority_model.specs.declared.message.Message.{Message}
use Rattle.authority_model.specs.declared.message.Message.TheVariants as message

-- how many actions a load has
abbrev pub actions_of : Loaded → ℕ
actions_of loaded = length loaded.policy.actions

-- the count of the load with this number, or 0 where there is none
abbrev pub count_at : List ℕ → ℕ → ℕ
count_at counts load = if load == 0 then 0 else unwrap_or (slice_get counts (load - 1)) 0

-- the same of the load that an answer lists, and 0 where it lists none
abbrev pub answer_at : List ℕ → Answer → ℕ
answer_at counts (answer.Actions load locale) = count_at counts load
answer_at counts _ = 0

-- the same of a message
abbrev pub listed_at : List ℕ → Message → ℕ
listed_at counts (message.Reply serial answer) = answer_at counts answer
listed_at counts _ = 0
