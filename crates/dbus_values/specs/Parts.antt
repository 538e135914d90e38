-- What the code's places and parts are, apart from where they lie in memory.
use Rattle.std.specs.Prelude.{ℕ, List}
use Rattle.dbus_values.specs.declared.cursor.Cursor.{Cursor}
use Rattle.dbus_values.specs.declared.part.Part.{Part}
use Rattle.dbus_values.specs.declared.part.Part.TheVariants as part
use Rattle.dbus_values.specs.Reading.{Spot}

-- A part of a body: a number or a text under its type code, the beginning or the end of an array, a
-- structure or a dict entry, and the signature of a variant, whose value comes behind it.
pub data Piece : Type 0 where
  Number : ℕ → ℕ → Piece
  Text : ℕ → List ℕ → Piece
  Enter : ℕ → Piece
  Leave : ℕ → Piece
  Variant : List ℕ → Piece

abbrev pub piece : Part → Piece
piece (part.Number kind value) = Number kind value
piece (part.Text kind bytes) = Text kind bytes.now
piece (part.Enter kind) = Enter kind
piece (part.Leave kind) = Leave kind
piece (part.Variant signature) = Variant signature.now

abbrev pub spot : Cursor → Spot
spot c = record { at = c.at; rest = c.rest.now }
