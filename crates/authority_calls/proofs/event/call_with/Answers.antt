use Rattle.std.proofs.Common.{◌≡◌, true, Some}
use Rattle.std.specs.Str.{bytes_eq}
use Rattle.dbus_values.specs.Next.{seen, parts_of}
use Rattle.authority_calls.specs.Methods.{row_of}
use Rattle.authority_calls.specs.Calls.{arguments}
use Rattle.authority_calls.proofs.Said.{call_made}
use Rattle.authority_calls.proofs.event.call_with.Goals as goal

pub returns-in-Ok : goal.returns-in-Ok
returns-in-Ok c =
    let fits : bytes_eq (row_of c.args.method).takes c.args.message.now.signature.now ≡ true = cc in
    let read : arguments c.args.method (parts_of c.args.message.now) ≡ Some (c.in-Ok.call, c.arguments.new.parts) = rw c.body-parts.ensures.parts at c.in-Ok.ensures.exact in
    record { exact = call_made (seen c.args.message.now) c.args.method c.in-Ok.call c.arguments.new.parts fits read }
