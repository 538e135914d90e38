-- The text of a history: the answer lines of its outputs, one after another.
use Rattle.std.specs.Prelude.{◌≡◌, ℕ, ◌+◌, ◌==◌, List, [], ◌∷◌, ◌++◌, if◌then◌else◌}
use Rattle.std.specs.Option.{option_to_list}
use Rattle.authority_model.specs.declared.journal.Item.{Item}
use Rattle.authority_model.specs.declared.load.Loaded.{Loaded}
use Rattle.authority_model.specs.declared.message.Output.{Output}
use Rattle.authority_model.specs.Items.{sent}
use Rattle.scenario_text.specs.Answers.{message_line}

-- the outputs of the newest item
abbrev pub last_outputs : List Item → List Output
last_outputs [] = []
last_outputs (i ∷ past) = i.entry.outputs

-- the loads of the items, the oldest first
abbrev pub loads_of : List Item → List Loaded
loads_of [] = []
loads_of (i ∷ past) = loads_of past ++ option_to_list i.loaded

-- the counts of outputs by connection, with one more for this one
abbrev pub one_more : (ℕ → ℕ) → ℕ → ℕ → ℕ
one_more counts to = λ c. if to == c then counts c + 1 else counts c

-- the lines of outputs, where so many were sent to each connection before
abbrev pub outputs_text : List Loaded → (ℕ → ℕ) → List Output → List ℕ
outputs_text loads counts [] = []
outputs_text loads counts (o ∷ outputs) = message_line loads o.to (counts o.to + 1) o.message ++ outputs_text loads (one_more counts o.to) outputs

-- the counts after these outputs
abbrev pub counts_after : (ℕ → ℕ) → List Output → ℕ → ℕ
counts_after counts [] = counts
counts_after counts (o ∷ outputs) = counts_after (one_more counts o.to) outputs

-- the lines of all outputs, each by the loads that were there when it was sent
abbrev pub text_of : List Item → List ℕ
text_of [] = []
text_of (i ∷ past) = text_of past ++ outputs_text (loads_of (i ∷ past)) (sent past) i.entry.outputs

-- One new item is on top, and nothing that has a text came in between.
pub record IsEntered (old new : List Item) : Type 0 where
  pub item : Item
  pub past : List Item
  pub whole : new ≡ item ∷ past
  pub text : text_of past ≡ text_of old
  pub counts : sent past ≡ sent old
