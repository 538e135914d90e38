-- The header fields of a check.
use Rattle.std.specs.Prelude.{◌≡◌, ℕ, ◌<◌, ◌≤◌, Bool, true, false, List, ◌∷◌, ◌++◌, length, Some, codes}
use Rattle.std.specs.Int.{w32}
use Rattle.std.specs.Option.{option_and_then}
use Rattle.dbus_values.specs.Basics.{gap}
use Rattle.dbus_values.specs.Header.{Header, no_fields, lacks}
use Rattle.dbus_values.specs.Messages.{signature_of}
use Rattle.dbus_values.specs.Trees.{bytes_of, padding}
use Rattle.dbus_values.specs.Form.{Field, AreFields, fields_bytes, header_from}
use Rattle.authority_calls.specs.declared.methods.Method.TheVariants as method
use Rattle.authority_calls.specs.Methods.{method_named}
use Rattle.authority_calls.specs.Events.{is_authority, method_of}
use Rattle.dbus_values.specs.Next.{Seen}

-- a message asks CheckAuthorization of the authority by its header
pub record SeenAsCheck (m : Seen) : Type 0 where
  pub kind : m.kind ≡ 1
  pub path : is_authority m.path ≡ true
  pub method : method_of m ≡ Some method.CheckAuthorization
  pub signature : m.signature ≡ codes "(sa{sv})sa{ss}us"

-- a header asks CheckAuthorization of the authority
pub record AsksCheck (h : Header) : Type 0 where
  pub path : is_authority h.path ≡ true
  pub method : option_and_then (method_named h.interface) h.member ≡ Some method.CheckAuthorization
  pub signature : signature_of h ≡ codes "(sa{sv})sa{ss}us"

-- the bytes are the header fields of a check
pub record AreOfCheck (bytes : List ℕ) : Type 0 where
  pub fields : List Field
  pub are : bytes ≡ fields_bytes false 16 fields
  pub form : AreFields no_fields fields
  pub needs : lacks 1 (header_from no_fields fields) ≡ false
  pub asks : AsksCheck (header_from no_fields fields)

-- the bytes are none, or the header fields of a check, and they are few
pub record AreRemembered (bytes : List ℕ) : Type 0 where
  pub few : length bytes ≤ 4096
  pub check : 0 < length bytes → AreOfCheck bytes

-- the bytes begin as a little-endian message with these header fields
abbrev pub BeginsWithFields : List ℕ → List ℕ → Type 0
BeginsWithFields fields bytes = (front : List ℕ) × (rest : List ℕ) × (length front ≡ 11) × (bytes ≡ 108 ∷ (front ++ (bytes_of false w32 (length fields) ++ (fields ++ rest))))

-- the first bytes of a call with these header fields and these flags, under a serial, up to its body of so many bytes
abbrev pub call_start : List ℕ → ℕ → ℕ → ℕ → List ℕ → List ℕ
call_start fields flags serial size rest =
    108 ∷ 1 ∷ flags ∷ 1 ∷ (bytes_of false w32 size ++ (bytes_of false w32 serial ++ (bytes_of false w32 (length fields) ++ (fields ++ (padding (gap 8 (length fields)) ++ rest)))))
