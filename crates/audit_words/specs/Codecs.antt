-- Spelling a value by the words of a line, and reading it again.
use Rattle.std.specs.Prelude.{◌≡◌, ◌<◌, ◌^◌, ◌-◌, ℕ, zero, suc, Bool, true, false, List, [], ◌∷◌, ◌++◌, length, Result, Ok, Err, Option, Some, None, if◌then◌else◌, decimal, codes}
use Rattle.std.specs.Str.{bytes_eq}
use Rattle.pk_types.specs.Decimals.{decimal_up_to}
use Rattle.audit_words.specs.declared.fault.Kind.{Kind}
use Rattle.audit_words.specs.declared.fault.Kind.TheVariants.{Count, Number, Value}

-- a word of a line: a number in decimal digits, or another word
pub data Piece : Type 0 where
  Numeral : ℕ → Piece
  Plain : List ℕ → Piece

abbrev pub text_of : Piece → List ℕ
text_of (Numeral n) = decimal n
text_of (Plain word) = word

abbrev pub texts : List Piece → List (List ℕ)
texts [] = []
texts (p ∷ ps) = text_of p ∷ texts ps

-- the kind of a word that is wrong where this one is due
abbrev pub kind_of : Piece → Kind
kind_of (Numeral n) = Number
kind_of (Plain word) = Value

-- a value and the words behind it, or the kind of the first fault
abbrev pub Reading : Type 0 → Type 0
Reading V = Result (V × List (List ℕ)) Kind

infixl 10 ◌>>=◌
abbrev pub ◌>>=◌ : {A B : Type 0} → Reading A → (A × List (List ℕ) → Reading B) → Reading B
(Ok x) >>= f = f x
(Err k) >>= f = Err k

-- how values are spelled, how they are read from the front of a line's words, and which of them are read again
pub record Codec (V : Type 0) : Type 1 where
  pub spell : V → List Piece
  pub take : List (List ℕ) → Reading V
  pub fits : V → Type 0

-- ---- one word

abbrev pub word_value : {V : Type 0} → Kind → List (List ℕ) → Option V → Reading V
word_value kind rest (Some v) = Ok (v, rest)
word_value kind rest None = Err kind

abbrev pub take_word : {V : Type 0} → Kind → (List ℕ → Option V) → List (List ℕ) → Reading V
take_word kind value [] = Err Count
take_word kind value (w ∷ ws) = word_value kind ws (value w)

abbrev pub one : {V : Type 0} → (V → Piece) → Kind → (List ℕ → Option V) → (V → Type 0) → Codec V
one piece kind value fits = record { spell = λ v. piece v ∷ []; take = take_word kind value; fits = fits }

-- a number below 2^bits
abbrev pub number : ℕ → Codec ℕ
number bits = one (λ n. Numeral n) Number (decimal_up_to (2 ^ bits - 1)) (λ n. n < 2 ^ bits)

abbrev pub boolean_word : Bool → List ℕ
boolean_word true = codes "1"
boolean_word false = codes "0"

abbrev pub boolean_of : List ℕ → Option Bool
boolean_of w = if bytes_eq w (codes "1") then Some true else if bytes_eq w (codes "0") then Some false else None

abbrev pub boolean : Codec Bool
boolean = one (λ b. Plain (boolean_word b)) Value boolean_of (λ b. Unit {0})

-- the value that has this name
abbrev pub named_in : {V : Type 0} → List (List ℕ × V) → List ℕ → Option V
named_in [] w = None
named_in (x ∷ xs) w = if bytes_eq w x.0 then Some x.1 else named_in xs w

-- one of these values, by its name
abbrev pub name_among : {V : Type 0} → (V → List ℕ) → List (List ℕ × V) → Codec V
name_among name all = one (λ v. Plain (name v)) Value (named_in all) (λ v. Unit {0})

-- ---- parts one after the other

abbrev pub take_nothing : List (List ℕ) → Reading (Unit {0})
take_nothing ws = Ok (tt, ws)

abbrev pub nothing : Codec (Unit {0})
nothing = record { spell = λ u. []; take = take_nothing; fits = λ u. Unit {0} }

infixr 30 ◌&◌
abbrev pub ◌&◌ : {A B : Type 0} → Codec A → Codec B → Codec (A × B)
a & b = record {
  spell = λ x. a.spell x.0 ++ b.spell x.1;
  take = λ ws. a.take ws >>= λ x. b.take x.1 >>= λ y. Ok ((x.0, y.0), y.1);
  fits = λ x. a.fits x.0 × b.fits x.1;
}

-- the parts of a value, how it is made of them, and which they are
pub record Shape (V : Type 0) : Type 1 where
  pub Parts : Type 0
  pub parts : Codec Parts
  pub make : Parts → V
  pub parts_of : V → Parts

abbrev pub shape : {A V : Type 0} → Codec A → (A → V) → (V → A) → Shape V
shape {A} parts make parts_of = record { Parts = A; parts = parts; make = make; parts_of = parts_of }

-- a value that is made of its parts
abbrev pub made : {V : Type 0} → Shape V → Codec V
made s = record {
  spell = λ v. s.parts.spell (s.parts_of v);
  take = λ ws. s.parts.take ws >>= λ x. Ok (s.make x.0, x.1);
  fits = λ v. (s.make (s.parts_of v) ≡ v) × s.parts.fits (s.parts_of v);
}

-- ---- one of several cases, by a name

-- a case: its name, its parts, and the value that it makes of them
pub record Case (V : Type 0) : Type 1 where
  pub name : List ℕ
  pub Parts : Type 0
  pub parts : Codec Parts
  pub make : Parts → V

abbrev pub case : {A V : Type 0} → List ℕ → Codec A → (A → V) → Case V
case {A} name parts make = record { name = name; Parts = A; parts = parts; make = make }

abbrev pub take_parts : {V : Type 0} → Case V → List (List ℕ) → Reading V
take_parts c ws = c.parts.take ws >>= λ x. Ok (c.make x.0, x.1)

abbrev pub of_cases : {V : Type 0} → List (Case V) → List ℕ → List (List ℕ) → Reading V
of_cases [] name ws = Err Value
of_cases (c ∷ cs) name ws = if bytes_eq name c.name then take_parts c ws else of_cases cs name ws

abbrev pub take_case : {V : Type 0} → List (Case V) → List (List ℕ) → Reading V
take_case all [] = Err Count
take_case all (w ∷ ws) = of_cases all w ws

-- the words of a value, and whether it is read again
pub record Spelled : Type 1 where
  pub pieces : List Piece
  pub fits : Type 0

abbrev pub named : {A : Type 0} → List ℕ → Codec A → A → Spelled
named name parts a = record { pieces = Plain name ∷ parts.spell a; fits = parts.fits a }

abbrev pub cases : {V : Type 0} → (V → Spelled) → List (Case V) → Codec V
cases spelled all = record { spell = λ v. (spelled v).pieces; take = take_case all; fits = λ v. (spelled v).fits }

abbrev pub spelled_option : {V : Type 0} → Codec V → Option V → Spelled
spelled_option c None = named (codes "-") nothing tt
spelled_option c (Some v) = named (codes "+") c v

abbrev pub option_cases : {V : Type 0} → Codec V → List (Case (Option V))
option_cases c = case (codes "-") nothing (λ u. None) ∷ case (codes "+") c (λ v. Some v) ∷ []

abbrev pub option : {V : Type 0} → Codec V → Codec (Option V)
option c = cases (spelled_option c) (option_cases c)

-- ---- lists

-- as many values, one after the other
abbrev pub take_items : {V : Type 0} → Codec V → ℕ → List (List ℕ) → Reading (List V)
take_items c zero ws = Ok ([], ws)
take_items c (suc n) ws = c.take ws >>= λ x. take_items c n x.1 >>= λ y. Ok (x.0 ∷ y.0, y.1)

abbrev pub spell_items : {V : Type 0} → Codec V → List V → List Piece
spell_items c [] = []
spell_items c (v ∷ vs) = c.spell v ++ spell_items c vs

abbrev pub AllFit : {V : Type 0} → Codec V → List V → Type 0
AllFit c [] = Unit {0}
AllFit c (v ∷ vs) = c.fits v × AllFit c vs

-- the length, and the items
abbrev pub list : {V : Type 0} → Codec V → Codec (List V)
list c = record {
  spell = λ vs. Numeral (length vs) ∷ spell_items c vs;
  take = λ ws. (number 32).take ws >>= λ n. take_items c n.0 n.1;
  fits = λ vs. (length vs < 2 ^ 32) × AllFit c vs;
}

-- ---- a whole line

abbrev pub is_done : List (List ℕ) → Bool
is_done [] = true
is_done (w ∷ ws) = false

abbrev pub ended : {V : Type 0} → V × List (List ℕ) → Result V Kind
ended (v, []) = Ok v
ended (v, w ∷ ws) = Err Count

abbrev pub and_ended : {V : Type 0} → Reading V → Result V Kind
and_ended (Ok x) = ended x
and_ended (Err k) = Err k

-- all of the words
abbrev pub whole : {V : Type 0} → Codec V → List (List ℕ) → Result V Kind
whole c ws = and_ended (c.take ws)
