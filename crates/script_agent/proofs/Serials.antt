-- What asks an agent to begin has a serial above 0.
use Rattle.std.proofs.Common.{◌≡◌, ℕ, ◌<◌, Bool, true, false, List, Option, Some, None, refl, ap, sym, ◌∙◌, subst, if◌then◌else◌}
use Rattle.std.specs.Option.{option_map}
use Rattle.dbus_values.specs.Next.{Seen}
use Rattle.dbus_values.specs.Parts.{Piece}
use Rattle.dbus_values.specs.Streams.{IsForm}
use Rattle.authority_model.specs.Words.{Bytes}
use Rattle.authority_calls.specs.Arguments.{Reading, ◌>>=◌, go_on, given, as_bytes, as_enter, part_as, text, behind}
use Rattle.client_messages.specs.declared.agent.AgentBegin.{AgentBegin}
use Rattle.client_messages.specs.Agents.{begin_of, is_begin, question}
use Rattle.script_agent.proofs.Firsts.{some_none, some_same}

-- what a reading gives has this serial
abbrev pub GivesSerial : ℕ → Reading AgentBegin → Type 0
GivesSerial serial reading = (parts : List Piece) (y : AgentBegin × List Piece) → reading parts ≡ Some y → y.0.serial ≡ serial

behind_one : {A : Type 0} (serial : ℕ) (read : Reading A) (more : A → Reading AgentBegin) → ((a : A) → GivesSerial serial (more a)) → GivesSerial serial (read >>= more)
behind_one {A = A} serial read more h parts y e = go (read parts) e
  where
    go : (x : Option (A × List Piece)) → go_on more x ≡ Some y → y.0.serial ≡ serial
    go None e = absurd (some_none (sym e))
    go (Some x) e = h x.0 x.1 y e

-- the question, from its last argument on, and so on
abbrev from_cookie : ℕ → Bytes → Reading AgentBegin
from_cookie serial action = text >>= λ cookie. given (record { serial = serial; action = action; cookie = cookie })

abbrev from_end : ℕ → Bytes → Reading AgentBegin
from_end serial action = behind 1 >>= λ ends. from_cookie serial action

abbrev from_details : ℕ → Bytes → Reading AgentBegin
from_details serial action = part_as as_enter >>= λ details. from_end serial action

abbrev from_icon : ℕ → Bytes → Reading AgentBegin
from_icon serial action = part_as as_bytes >>= λ icon. from_details serial action

abbrev from_message : ℕ → Bytes → Reading AgentBegin
from_message serial action = part_as as_bytes >>= λ message. from_icon serial action

cookie_serial : (serial : ℕ) (action : Bytes) → GivesSerial serial (from_cookie serial action)
cookie_serial serial action = behind_one serial text (λ cookie. given (record { serial = serial; action = action; cookie = cookie }))
    (λ cookie parts y e. ap (λ (z : AgentBegin × List Piece). z.0.serial) (some_same (sym e)))

end_serial : (serial : ℕ) (action : Bytes) → GivesSerial serial (from_end serial action)
end_serial serial action = behind_one serial (behind 1) (λ ends. from_cookie serial action) (λ ends. cookie_serial serial action)

details_serial : (serial : ℕ) (action : Bytes) → GivesSerial serial (from_details serial action)
details_serial serial action = behind_one serial (part_as as_enter) (λ details. from_end serial action) (λ details. end_serial serial action)

icon_serial : (serial : ℕ) (action : Bytes) → GivesSerial serial (from_icon serial action)
icon_serial serial action = behind_one serial (part_as as_bytes) (λ icon. from_details serial action) (λ icon. details_serial serial action)

message_serial : (serial : ℕ) (action : Bytes) → GivesSerial serial (from_message serial action)
message_serial serial action = behind_one serial (part_as as_bytes) (λ message. from_icon serial action) (λ message. icon_serial serial action)

question_serial : (serial : ℕ) → GivesSerial serial (question serial)
unfolding question
question_serial serial = behind_one serial text (from_message serial) (message_serial serial)

begin_serial : (m : Seen) (b : AgentBegin) → begin_of m ≡ Some b → b.serial ≡ m.serial
begin_serial m b e = go (is_begin m) (question m.serial m.parts) (λ y q. question_serial m.serial m.parts y q) e
  where
    go : (t : Bool) (q : Option (AgentBegin × List Piece)) → ((y : AgentBegin × List Piece) → q ≡ Some y → y.0.serial ≡ m.serial)
        → (if t then option_map (λ (x : AgentBegin × List Piece). x.0) q else None) ≡ Some b → b.serial ≡ m.serial
    go false q h e = absurd (some_none (sym e))
    go true None h e = absurd (some_none (sym e))
    go true (Some y) h e = ap (λ (x : AgentBegin). x.serial) (some_same (sym e)) ∙ h y refl

pub serial_above : (m : Seen) (text : Bytes) (b : AgentBegin) → IsForm text m → Some b ≡ begin_of m → 0 < b.serial
serial_above m text b form e =
    subst (λ (n : ℕ). 0 < n) (sym (begin_serial m b (sym e)))
    (subst (λ (s : Seen). 0 < s.serial) (sym form.2) form.1.is.serial.0)
