-- Messages that follow one another.
use Rattle.std.specs.Prelude.{◌≡◌, Bool, true, false, List, [], ◌∷◌, ◌++◌, ℕ}
use Rattle.std.specs.List.{All}
use Rattle.dbus_values.specs.Next.{Seen}
use Rattle.dbus_values.specs.Streams.{Follow, IsForm}

-- none of these messages is such a one
abbrev pub NoneIs : (Seen → Bool) → List Seen → Type 0
NoneIs test [] = Unit {0}
NoneIs test (m ∷ messages) = (test m ≡ false) × NoneIs test messages

-- Messages that are no such ones stand at the front of the bytes, and were passed over.
pub record Passes (test : Seen → Bool) (bytes rest : List ℕ) : Type 0 where
  pub passed : List Seen
  pub follow : Follow bytes passed rest
  pub none_is : NoneIs test passed

-- The first such message of the bytes, behind those that were passed over.
pub record IsFirst (test : Seen → Bool) (bytes : List ℕ) (message : Seen) (rest : List ℕ) : Type 0 where
  pub behind : List ℕ
  pub text : List ℕ
  pub passes : Passes test bytes behind
  pub form : IsForm text message
  pub cut : behind ≡ text ++ rest
  pub is : test message ≡ true
