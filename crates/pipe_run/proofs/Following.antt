-- Messages that follow one another.
use Rattle.std.proofs.Common.{◌≡◌, ◌<◌, ℕ, Bool, List, [], ◌∷◌, ◌++◌, refl, ap, sym, ◌∙◌, subst, append_assoc, take, drop, length, length-append, arith}
use Rattle.std.proofs.lemmas.List.{take-append-drop}
use Rattle.dbus_values.specs.Form.{Message, message_bytes}
use Rattle.dbus_values.specs.declared.fault.FaultKind.{FaultKind}
use Rattle.dbus_values.specs.Next.{Seen, Whole, Partial, Bad, next_of}
use Rattle.dbus_values.specs.Streams.{Follow, IsForm, NoneWhole, Stream}
use Rattle.dbus_values.proofs.Streaming.{form_whole}

-- a message has bytes
message_some : (big : Bool) (m : Message) → 0 < length (message_bytes big m)
message_some big m = omega arith

-- so fewer bytes are left behind it
pub left_fewer : (bytes : List ℕ) (used : ℕ) (m : Seen) → IsForm (take used bytes) m → length (drop used bytes) < length bytes
left_fewer bytes used m form =
    let some : 0 < length (take used bytes) = subst (λ (b : List ℕ). 0 < length b) (sym form.1.bytes_are) (message_some form.1.big form.0) in
    let all : length (take used bytes ++ drop used bytes) ≡ length bytes = ap (λ (b : List ℕ). length b) (take-append-drop used bytes) in
    omega (arith, some, all, length-append (take used bytes) (drop used bytes))
