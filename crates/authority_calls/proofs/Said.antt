-- What a call says, once its arguments are read.
use Rattle.std.proofs.Common.{◌≡◌, List, true, Some, refl}
use Rattle.std.specs.Str.{bytes_eq}
use Rattle.dbus_values.specs.Parts.{Piece}
use Rattle.dbus_values.specs.Next.{Seen}
use Rattle.authority_model.specs.declared.event.Call.{Call}
use Rattle.authority_calls.specs.declared.methods.Method.{Method}
use Rattle.authority_calls.specs.Methods.{row_of}
use Rattle.authority_calls.specs.Calls.{arguments}
use Rattle.authority_calls.specs.Events.{call_with}

pub call_made : (m : Seen) (asked : Method) (said : Call) (rest : List Piece) → bytes_eq (row_of asked).takes m.signature ≡ true → arguments asked m.parts ≡ Some (said, rest) → said ≡ call_with m asked
call_made m asked said rest fits read = rw (fits, read) refl
