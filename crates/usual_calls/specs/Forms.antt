-- Which subject and which check the values of a body are.
use Rattle.std.specs.Prelude.{◌≡◌, ℕ, false, List, [], ◌++◌, Some, codes}
use Rattle.pk_types.specs.declared.values.Subject.{Subject}
use Rattle.dbus_values.specs.Parts.{Piece}
use Rattle.dbus_values.specs.Trees.{Tree, Trees, type_of, types_of, marshalled, all_marshalled, pieces, all_pieces, FitsAs, Each}
use Rattle.authority_model.specs.declared.event.Call.{Call}
use Rattle.authority_calls.specs.Calls.{check}
use Rattle.authority_calls.specs.Subjects.{subject}

-- the value is that of a subject, whatever follows it
pub record IsSubject (s : Subject) (t : Tree) : Type 0 where
  pub type : type_of t ≡ codes "(sa{sv})"
  pub fits : FitsAs false 64 t
  pub read : (rest : List Piece) → subject (pieces t ++ rest) ≡ Some (s, rest)

-- the bytes begin with the value of a subject, which the rest follows
abbrev pub BeginsWithSubject : Subject → List ℕ → List ℕ → Type 0
BeginsWithSubject s bytes rest = (t : Tree) × IsSubject s t × (bytes ≡ marshalled false 0 t ++ rest)

-- the values are the arguments of a check
pub record AreArguments (said : Call) (ts : Trees) : Type 0 where
  pub types : types_of ts ≡ codes "(sa{sv})sa{ss}us"
  pub fits : Each (FitsAs false 64) ts
  pub read : check (all_pieces ts) ≡ Some (said, [])

-- the bytes of a body are the arguments of a check
abbrev pub IsBody : Call → List ℕ → Type 0
IsBody said body = (ts : Trees) × AreArguments said ts × (body ≡ all_marshalled false 0 ts)
