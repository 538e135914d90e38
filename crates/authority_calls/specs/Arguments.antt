-- Reading the arguments of a call one after the other, from the parts of its body.
use Rattle.std.specs.Prelude.{◌≡◌, ℕ, zero, suc, ◌+◌, ◌-◌, ◌^◌, ◌==◌, ◌&&◌, nat_lt, if◌then◌else◌, List, [], ◌∷◌, Option, Some, None, is_none, Result, Ok, Err}
use Rattle.std.specs.Option.{option_and_then}
use Rattle.pk_types.specs.Text.{text_fault_of}
use Rattle.dbus_values.specs.Basics.{is_path}
use Rattle.dbus_values.specs.Parts.{Piece, Number, Text, Enter, Leave, Variant}
use Rattle.authority_model.specs.Words.{Bytes}
use Rattle.authority_calls.specs.declared.arguments.TheConstants.{STRING, UINT32, UINT64, DEEPEST}
use Rattle.authority_calls.specs.declared.fault.ArgumentFault.{ArgumentFault}
use Rattle.authority_calls.specs.declared.fault.ArgumentFault.TheVariants as fault

-- the value of the next arguments, and the parts behind them; nothing, where they are out of form
abbrev pub Reading : Type 0 → Type 0
Reading A = List Piece → Option (A × List Piece)

abbrev pub go_on : {A B : Type 0} → (A → Reading B) → Option (A × List Piece) → Option (B × List Piece)
go_on more None = None
go_on more (Some (value, parts)) = more value parts

-- one reading, and then another
infixl 10 ◌>>=◌
abbrev pub ◌>>=◌ : {A B : Type 0} → Reading A → (A → Reading B) → Reading B
read >>= more = λ parts. go_on more (read parts)

abbrev pub given : {A : Type 0} → A → Reading A
given x parts = Some (x, parts)

abbrev pub out_of_form : {A : Type 0} → Reading A
out_of_form parts = None

-- the value that there is
abbrev pub chosen : {A : Type 0} → Option A → Reading A
chosen None parts = None
chosen (Some x) parts = Some (x, parts)

abbrev pub part : Reading Piece
part [] = None
part (p ∷ parts) = Some (p, parts)

-- the bytes of a text of at most 65,535 bytes
abbrev pub text_of : Bytes → Option Bytes
text_of bytes = if is_none (text_fault_of bytes) then Some bytes else None

-- what a part is as a STRING, a UINT32 and a UINT64
abbrev pub as_text : Piece → Option Bytes
as_text (Text c bytes) = if c == STRING then text_of bytes else None
as_text _ = None

abbrev pub as_u32 : Piece → Option ℕ
as_u32 (Number c n) = if (c == UINT32) && nat_lt n (2 ^ 32) then Some n else None
as_u32 _ = None

abbrev pub as_u64 : Piece → Option ℕ
as_u64 (Number c n) = if c == UINT64 then Some n else None
as_u64 _ = None

-- the bytes of a text of any length
abbrev pub as_bytes : Piece → Option Bytes
as_bytes (Text c bytes) = Some bytes
as_bytes _ = None

abbrev pub as_enter : Piece → Option (Unit {0})
as_enter (Enter c) = Some tt
as_enter _ = None

abbrev pub as_leave : Piece → Option (Unit {0})
as_leave (Leave c) = Some tt
as_leave _ = None

abbrev pub as_variant : Piece → Option (Unit {0})
as_variant (Variant signature) = Some tt
as_variant _ = None

-- the next part as a value
abbrev pub part_as : {A : Type 0} → (Piece → Option A) → Reading A
part_as read = part >>= λ p. chosen (read p)

abbrev pub text : Reading Bytes
text = part_as as_text

abbrev pub uint32 : Reading ℕ
uint32 = part_as as_u32

abbrev pub uint64 : Reading ℕ
uint64 = part_as as_u64

-- a text that is an object path
abbrev pub path : Reading Bytes
path = text >>= λ bytes. if is_path bytes then given bytes else out_of_form

-- how many containers are open behind a part
abbrev pub open_behind : Piece → ℕ → Option ℕ
open_behind (Enter c) n = if nat_lt n DEEPEST then Some (n + 1) else None
open_behind (Leave c) n = Some (n - 1)
open_behind _ n = Some n

-- what follows so many open containers
unfoldable pub behind : ℕ → Reading (Unit {0})
behind n [] = if n == 0 then Some (tt, []) else None
behind n (p ∷ parts) = if n == 0 then Some (tt, p ∷ parts) else option_and_then (λ m. behind m parts) (open_behind p n)

-- an item in front of the others, or the end of them
abbrev pub another : {A : Type 0} → Reading (List A) → Option A → Reading (List A)
another rest None = given []
another rest (Some x) = rest >>= λ xs. given (x ∷ xs)

-- items up to the first place where there is none; at most n
unfoldable pub many : {A : Type 0} → ℕ → Reading (Option A) → Reading (List A)
many zero item parts = None
many (suc n) item parts = go_on (another (many n item)) (item parts)

-- what a function returned, seen by view, is the value that is due, and want of memory is free
abbrev pub GivesAs : {X Y : Type 0} → (X → Y) → Result X ArgumentFault → Option Y → Type 0
GivesAs view (Ok x) due = due ≡ Some (view x)
GivesAs view (Err fault.OutOfForm) due = due ≡ None
GivesAs view (Err fault.NoMemory) due = Unit {0}

abbrev pub Gives : {X : Type 0} → Result X ArgumentFault → Option X → Type 0
Gives result due = GivesAs (λ x. x) result due

-- what a function returned, seen by view, was read from the old parts, and the new ones are those behind it
abbrev pub TakesAs : {X Y : Type 0} → (X → Y) → Reading Y → List Piece → List Piece → Result X ArgumentFault → Type 0
TakesAs view read old new (Ok x) = read old ≡ Some (view x, new)
TakesAs view read old new (Err fault.OutOfForm) = read old ≡ None
TakesAs view read old new (Err fault.NoMemory) = Unit {0}

abbrev pub Takes : {X : Type 0} → Reading X → List Piece → List Piece → Result X ArgumentFault → Type 0
Takes read old new result = TakesAs (λ x. x) read old new result
