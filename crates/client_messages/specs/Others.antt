-- Which messages tell nothing of a call, apart from any reading.
use Rattle.std.specs.Prelude.{ℕ, ◌==◌, ◌&&◌, ◌||◌, nat_lt, Bool, true, false, not, length}
use Rattle.std.specs.List.{list_any}
use Rattle.std.specs.Str.{bytes_eq}
use Rattle.dbus_values.specs.Next.{Seen}
use Rattle.dbus_values.specs.Parts.{Piece, Text}
use Rattle.authority_model.specs.Words.{Bytes}
use Rattle.dbus_values.specs.declared.codes.TheConstants.{METHOD_RETURN, ERROR}
use Rattle.authority_calls.specs.declared.methods.Method.TheVariants as method
use Rattle.authority_calls.specs.Methods.{row_of}
use Rattle.client_messages.specs.declared.answer.ClientAnswer.{ClientAnswer}
use Rattle.client_messages.specs.declared.answer.ClientAnswer.TheVariants as answer
use Rattle.client_messages.specs.Answers.{is_serial}

-- whether a message replies to the call with a serial
abbrev pub is_reply : ℕ → Seen → Bool
is_reply serial m = is_serial serial m.reply_serial && ((m.kind == METHOD_RETURN) || (m.kind == ERROR))

-- whether a signature is that of a check's return, of an announcement's, or of none
abbrev pub is_answer : Bytes → Bool
is_answer signature = bytes_eq (row_of method.CheckAuthorization).gives signature || (bytes_eq (row_of method.Announce).gives signature || (length signature == 0))

-- whether a part is a text over 65,535 bytes
abbrev pub is_long : Piece → Bool
is_long (Text c bytes) = nat_lt 65535 (length bytes)
is_long _ = false

-- It does not reply to the call, or it is a return with another body, or with a text over 65,535 bytes in its body.
abbrev pub tells_nothing : ℕ → Seen → Bool
tells_nothing serial m = not (is_reply serial m) || ((m.kind == METHOD_RETURN) && (not (is_answer m.signature) || list_any is_long m.parts))

-- whether an answer says nothing of the call
abbrev pub is_other : ClientAnswer → Bool
is_other answer.Other = true
is_other _ = false
