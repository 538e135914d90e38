-- What a connection is sent, as bytes.
use Rattle.std.specs.Prelude.{◌≡◌, ℕ, ◌+◌, ◌==◌, if◌then◌else◌, List, [], ◌∷◌, ◌++◌}
use Rattle.authority_model.specs.declared.journal.Item.{Item}
use Rattle.authority_model.specs.declared.load.Loaded.{Loaded}
use Rattle.authority_model.specs.declared.message.Output.{Output}
use Rattle.authority_model.specs.Items.{sent}
use Rattle.authority_laws.specs.Batches.{IsSendable, loads_in}
use Rattle.authority_messages.specs.Texts.{message_text}

-- the messages of those of some outputs that go to a connection, to which so many were sent before; each has its number among all of them as its serial
abbrev pub output_bytes : List Loaded → ℕ → ℕ → List Output → List ℕ
output_bytes loads c before [] = []
output_bytes loads c before (o ∷ outputs) =
    if o.to == c then message_text loads (before + 1) o ++ output_bytes loads c (before + 1) outputs
    else output_bytes loads c before outputs

-- the messages of an item's outputs to a connection, by the loads up to this item
abbrev pub item_bytes : ℕ → Item → List Item → List ℕ
item_bytes c i past = output_bytes (loads_in (i ∷ past)) c (sent past c) i.entry.outputs

-- the messages of all outputs to a connection, one after another
abbrev pub sent_bytes : ℕ → List Item → List ℕ
sent_bytes c [] = []
sent_bytes c (i ∷ past) = sent_bytes c past ++ item_bytes c i past

-- the messages of the newest item's outputs to a connection
abbrev pub newest_bytes : ℕ → List Item → List ℕ
newest_bytes c [] = []
newest_bytes c (i ∷ past) = item_bytes c i past

-- how many outputs a connection was sent before the newest item
abbrev pub sent_before : ℕ → List Item → ℕ
sent_before c [] = 0
sent_before c (i ∷ past) = sent past c

-- those of some outputs that go to a connection can be written to it
abbrev pub AreSendableTo : ℕ → List Output → Type 0
AreSendableTo c [] = Unit {0}
AreSendableTo c (o ∷ outputs) = (o.to ≡ c → IsSendable o.message) × AreSendableTo c outputs
