-- Messages without their serials, and the four types of the D-Bus Specification, "Message Types".
use Rattle.std.specs.Prelude.{ℕ, ◌<◌, ◌≤◌, ◌^◌, false, List, [], ◌∷◌, ◌++◌, length, Some, None}
use Rattle.dbus_values.specs.declared.wire_out.HeaderOut.{HeaderOut}
use Rattle.dbus_values.specs.declared.wire_out.WireOut.{WireOut}
use Rattle.dbus_values.specs.Trees.{Tree, Trees, types_of}
use Rattle.dbus_values.specs.Form.{Field, Message, IsMessage, message_bytes}
use Rattle.dbus_values.specs.Written.{list_trees, text_field, number_field, signature_field}
use Rattle.authority_model.specs.Words.{Bytes}
use Rattle.dbus_values.specs.declared.codes.TheConstants.{METHOD_CALL, METHOD_RETURN, ERROR, SIGNAL, MAX_MESSAGE}
use Rattle.authority_calls.specs.declared.event.TheConstants.{NO_REPLY_EXPECTED}
use Rattle.authority_messages.specs.declared.outgoing.TheConstants.{INVALID}
use Rattle.authority_messages.specs.Values.{string, row}

-- a message without its serial: its type, its flags, its header fields but for SIGNATURE, and the values of its body
pub record Outgoing : Type 0 where
  pub kind : ℕ
  pub flags : ℕ
  pub head : HeaderOut
  pub body : Trees

-- the fields by rising code; SIGNATURE is that of the body
abbrev pub fields_of : Outgoing → List Field
fields_of o = text_field 1 111 o.head.path ++ (text_field 2 115 o.head.interface ++ (text_field 3 115 o.head.member ++ (text_field 4 115 o.head.error_name ++ (number_field o.head.reply_serial ++ signature_field (types_of o.body)))))

-- the message under a serial
abbrev pub under : ℕ → Outgoing → Message
under serial o = record { kind = o.kind; flags = o.flags; serial = serial; fields = fields_of o; body = o.body }

-- what is written, as a message without its serial
abbrev pub outgoing : WireOut → Outgoing
outgoing out = record { kind = out.kind; flags = out.flags; head = out.fields; body = list_trees out.body.items.items }

-- METHOD_RETURN to the call with a serial
abbrev pub return_to : ℕ → List Tree → Outgoing
return_to answered values = record {
  kind = METHOD_RETURN;
  flags = NO_REPLY_EXPECTED;
  head = record { path = None; interface = None; member = None; error_name = None; reply_serial = Some answered };
  body = row values;
}

-- ERROR to the call with a serial: its name, and a text
abbrev pub error_to : ℕ → Bytes → Bytes → Outgoing
error_to answered name text = record {
  kind = ERROR;
  flags = NO_REPLY_EXPECTED;
  head = record { path = None; interface = None; member = None; error_name = Some name; reply_serial = Some answered };
  body = row (string text ∷ []);
}

-- METHOD_CALL of a member of an interface, to the object at a path
abbrev pub call_at : ℕ → Bytes → Bytes → Bytes → List Tree → Outgoing
call_at flags path interface member values = record {
  kind = METHOD_CALL;
  flags = flags;
  head = record { path = Some path; interface = Some interface; member = Some member; error_name = None; reply_serial = None };
  body = row values;
}

-- SIGNAL of a member of an interface, from the object at a path, without a body
abbrev pub signal_of : Bytes → Bytes → Bytes → Outgoing
signal_of path interface member = record {
  kind = SIGNAL;
  flags = NO_REPLY_EXPECTED;
  head = record { path = Some path; interface = Some interface; member = Some member; error_name = None; reply_serial = None };
  body = row [];
}

-- no message at all: INVALID is the type of none
abbrev pub nothing : Outgoing
nothing = record {
  kind = INVALID;
  flags = 0;
  head = record { path = None; interface = None; member = None; error_name = None; reply_serial = None };
  body = row [];
}

-- under each serial but 0 it is a message, as far as it is short enough
abbrev pub MayBeSent : Outgoing → Type 0
MayBeSent o = (serial : ℕ) → 0 < serial → serial < 2 ^ 32 → length (message_bytes false (under serial o)) ≤ MAX_MESSAGE → IsMessage false (under serial o)

-- under each serial but 0 it is a message
abbrev pub IsSent : Outgoing → Type 0
IsSent o = (serial : ℕ) → 0 < serial → serial < 2 ^ 32 → IsMessage false (under serial o)
