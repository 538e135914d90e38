-- Messages at the front of a stream of bytes, and streams of messages.
use Rattle.std.specs.Prelude.{◌≡◌, ℕ, ◌<◌, List, [], ◌∷◌, ◌++◌, slice_index}
use Rattle.dbus_values.specs.Next.{Seen, Answer, Whole, Partial, Bad}
use Rattle.dbus_values.specs.Form.{Message, WireForm, shown_of}

-- what holds of a whole message and of its length
abbrev pub IfWhole : Answer → (Seen → ℕ → Type 0) → Type 0
IfWhole (Whole seen used) P = P seen used
IfWhole Partial P = Unit {0}
IfWhole (Bad _ _) P = Unit {0}

-- the bytes have the form of a message that is shown so
abbrev pub IsForm : List ℕ → Seen → Type 0
IsForm bytes seen = (m : Message) × WireForm bytes m × (seen ≡ shown_of m)

-- no front of the bytes is a whole message
abbrev pub NoneWhole : List ℕ → Type 0
NoneWhole bytes = (text more : List ℕ) (seen : Seen) → IsForm text seen → bytes ≡ text ++ more → ⊥

-- the bytes begin with these messages, one after the other, and the rest follows
abbrev pub Follow : List ℕ → List Seen → List ℕ → Type 0
Follow bytes [] rest = bytes ≡ rest
Follow bytes (m ∷ messages) rest = (text : List ℕ) × (more : List ℕ) × IsForm text m × (bytes ≡ text ++ more) × Follow more messages rest

-- the bytes are these messages one after the other, and then a rest that begins with none
abbrev pub Stream : List ℕ → List Seen → List ℕ → Type 0
Stream bytes [] rest = (bytes ≡ rest) × NoneWhole rest
Stream bytes (s ∷ ss) rest = (text : List ℕ) × (more : List ℕ) × IsForm text s × (bytes ≡ text ++ more) × Stream more ss rest

abbrev pub IsBytes : List ℕ → Type 0
IsBytes bytes = (i : ℕ) → slice_index bytes i < 256
