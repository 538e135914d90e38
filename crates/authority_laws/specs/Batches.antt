-- What a Collect takes: the outputs to a connection that the caller has not collected, and copies of the first loads, up to the greatest that these outputs name.
-- Each definition here speaks of items with the newest first, as `authority_model` does; `in_order` alone has them from the first to the last.
use Rattle.std.specs.Prelude.{◌≡◌, ◌≢◌, ℕ, ◌+◌, ◌≤◌, ⊤, max, List, [], ◌∷◌, ◌++◌, Option, Some, None, length, take}
use Rattle.authority_model.specs.declared.event.Event.TheVariants.{Collect}
use Rattle.authority_model.specs.declared.journal.History.{History}
use Rattle.authority_model.specs.declared.journal.Item.{Item}
use Rattle.authority_model.specs.declared.load.Loaded.{Loaded}
use Rattle.authority_model.specs.declared.message.Answer.{Answer}
use Rattle.authority_model.specs.declared.message.Message.{Message}
use Rattle.authority_model.specs.declared.message.Output.{Output}
use Rattle.authority_model.specs.Given.{Given, event_given}
use Rattle.authority_model.specs.Items.{paired}
use Rattle.authority_model.specs.Lists.{Each}
use Rattle.authority_model.specs.Sent.{sent_to, collected, batch}
use Rattle.pk_types.specs.declared.decimals.TheConstants.{MAX_NUMBER}

-- the items of a history, from the first to the last
abbrev pub in_order : History → List Item
in_order h = paired h.entries h.loads

-- what a Collect by one connection of the outputs to another hands in: the moment 0 and the salt 0
abbrev pub collect_given : ℕ → ℕ → Given
collect_given by c = event_given by 0 0 (Collect c)

-- loads, and one more if there is one
abbrev pub with_load : List Loaded → Option Loaded → List Loaded
with_load loads None = loads
with_load loads (Some l) = loads ++ l ∷ []

-- the loads of items, from the first to the last
abbrev pub loads_in : List Item → List Loaded
loads_in [] = []
loads_in (i ∷ past) = with_load (loads_in past) i.loaded

-- the number of the load that an answer names, or 0
abbrev pub load_in_answer : Answer → ℕ
load_in_answer (Answer.Actions load locale) = load
load_in_answer _ = 0

-- the number of the load that a message names, or 0
abbrev pub load_in_message : Message → ℕ
load_in_message (Message.Reply serial answer) = load_in_answer answer
load_in_message _ = 0

-- the number of the load that an output names, or 0
abbrev pub load_of : Output → ℕ
load_of o = load_in_message o.message

-- the greatest number of a load that some outputs name, or 0
abbrev pub greatest_load : List Output → ℕ
greatest_load [] = 0
greatest_load (o ∷ outputs) = max (load_of o) (greatest_load outputs)

-- a message can be written to a connection: it is not for the loader, and it does not reply to the serial 0
abbrev pub IsSendable : Message → Type 0
IsSendable Message.LoadWanted = ⊥
IsSendable Message.StopWanted = ⊥
IsSendable (Message.Reply serial answer) = serial ≢ 0
IsSendable _ = ⊤

-- the message of each output can be written to a connection
abbrev pub AreSendable : List Output → Type 0
AreSendable outputs = Each (λ o. IsSendable o.message) outputs

-- the outputs to a connection that another one has collected
abbrev pub taken : List Item → ℕ → ℕ → List Output
taken past by c = take (collected past by c) (sent_to past c)

-- What a Collect takes, in three parts: the number of the first of these outputs among all outputs to the connection, counted from 1; the outputs; and the loads.
-- `few`, `named` and `sendable` hold of every legal history that is not full.
pub record IsBatch (past : List Item) (by c first : ℕ) (sent : List Output) (copies : List Loaded) : Type 0 where
  pub from : first ≡ collected past by c + 1
  pub outputs : sent ≡ batch past by c
  pub loads : copies ≡ take (greatest_load sent) (loads_in past)
  pub few : first + length sent ≤ MAX_NUMBER
  pub named : greatest_load (sent_to past c) ≤ length (loads_in past)
  pub sendable : c ≢ 0 → AreSendable sent
