-- The bytes of the messages that outputs are.
use Rattle.std.specs.Prelude.{ℕ, ◌+◌, false, List, [], ◌∷◌, ◌++◌}
use Rattle.authority_model.specs.declared.load.Loaded.{Loaded}
use Rattle.authority_model.specs.declared.message.Output.{Output}
use Rattle.dbus_values.specs.Form.{message_bytes}
use Rattle.authority_messages.specs.Messages.{message_for}
use Rattle.authority_messages.specs.Outgoing.{under}

-- the message of an output, little-endian, with this serial
unfoldable pub message_text : List Loaded → ℕ → Output → List ℕ
message_text loads serial o = message_bytes false (under serial (message_for loads o.message))

-- the messages of outputs, one after another; the first has this serial, and each other the next one
abbrev pub texts : List Loaded → ℕ → List Output → List ℕ
texts loads serial [] = []
texts loads serial (o ∷ outputs) = message_text loads serial o ++ texts loads (serial + 1) outputs
