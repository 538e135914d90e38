-- What a message tells a client about its call.
use Rattle.std.specs.Prelude.{ℕ, ◌==◌, Bool, false, if◌then◌else◌, Option, Some, None, length}
use Rattle.std.specs.Option.{option_map_or}
use Rattle.std.specs.Str.{bytes_eq}
use Rattle.dbus_values.specs.Next.{Seen}
use Rattle.dbus_values.specs.Parts.{Piece, Number}
use Rattle.dbus_values.specs.declared.codes.TheConstants.{METHOD_RETURN, ERROR}
use Rattle.authority_calls.specs.declared.methods.Method.TheVariants as method
use Rattle.authority_calls.specs.Methods.{row_of}
use Rattle.authority_calls.specs.Arguments.{Reading, ◌>>=◌, given, as_enter, as_leave, part_as, text}
use Rattle.authority_calls.specs.Dictionaries.{pairs}
use Rattle.authority_calls.specs.Events.{error_name}
use Rattle.client_messages.specs.declared.answer.TheConstants.{BOOLEAN}
use Rattle.client_messages.specs.declared.answer.ClientAnswer.{ClientAnswer}
use Rattle.client_messages.specs.declared.answer.ClientAnswer.TheVariants as answer

-- what a part is as a BOOLEAN, which is 0 or 1
abbrev pub as_boolean : Piece → Option Bool
as_boolean (Number c n) = if c == BOOLEAN then Some (n == 1) else None
as_boolean _ = None

-- AuthorizationResult of the reference manual: whether the subject is authorized, whether a challenge would do, and the details
unfoldable pub verdict : Reading ClientAnswer
verdict = do
  begins ← part_as as_enter
  authorized ← part_as as_boolean
  challenged ← part_as as_boolean
  details ← pairs
  ends ← part_as as_leave
  given (answer.Verdict authorized challenged details)

-- a bus name
abbrev pub name : Reading ClientAnswer
name = text >>= λ bytes. given (answer.Name bytes)

-- what a body is read as; one with a text over 65,535 bytes is another
abbrev pub read_as : Reading ClientAnswer → Seen → ClientAnswer
read_as reading m = option_map_or (λ (told, _). told) (reading m.parts) answer.Other

-- what a return tells, by the signature of its body: that of a check's reply, that of an announcement's, or none
abbrev pub returned : Seen → ClientAnswer
returned m =
    if bytes_eq (row_of method.CheckAuthorization).gives m.signature then read_as verdict m else
    (if bytes_eq (row_of method.Announce).gives m.signature then read_as name m else
    (if length m.signature == 0 then answer.Done else answer.Other))

-- what a reply tells; an error tells its name, whatever its body is
abbrev pub replied : Seen → ClientAnswer
replied m = if m.kind == METHOD_RETURN then returned m else (if m.kind == ERROR then answer.ErrorNamed (error_name m.error_name) else answer.Other)

-- whether a REPLY_SERIAL is this serial
abbrev pub is_serial : ℕ → Option ℕ → Bool
is_serial serial None = false
is_serial serial (Some named) = named == serial

-- What a message tells of the call with a serial. Only a return and an error reply to a call.
abbrev pub answer_of : ℕ → Seen → ClientAnswer
answer_of serial m = if is_serial serial m.reply_serial then replied m else answer.Other
