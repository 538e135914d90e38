-- Values that lines spell: how they are written, and how they are read from the front of bytes.
use Rattle.std.specs.Prelude.{◌≡◌, ◌==◌, ℕ, zero, suc, List, [], ◌∷◌, ◌++◌, length, Result, Ok, Err, Option, Some, None, if◌then◌else◌}
use Rattle.std.specs.Str.{bytes_eq}
use Rattle.pk_types.specs.Pieces.{pieces_of}
use Rattle.audit_words.specs.declared.fault.Kind as words_kind
use Rattle.audit_words.specs.declared.fault.Kind.TheVariants as of_words
use Rattle.audit_words.specs.Codecs.{Codec, whole}
use Rattle.audit_words.specs.Lines.{written, cut_at}
use Rattle.audit_text.specs.declared.fault.LineKind.{LineKind}
use Rattle.audit_text.specs.declared.fault.LineKind.TheVariants as kind

-- the number of the next line, and the bytes from it on
abbrev pub Place : Type 0
Place = ℕ × List ℕ

-- a value and the place behind it, or the first faulty line and its kind
abbrev pub Reading : Type 0 → Type 0
Reading V = Result (V × Place) (ℕ × LineKind)

infixl 10 ◌then◌
abbrev pub ◌then◌ : {A B : Type 0} → Reading A → (A × Place → Reading B) → Reading B
(Ok x) then f = f x
(Err e) then f = Err e

-- how values are spelled by lines, how they are read, and which of them are read again
pub record LineCodec (V : Type 0) : Type 1 where
  pub spell : V → List ℕ
  pub take : Place → Reading V
  pub fits : V → Type 0

-- how many lines end in these bytes
abbrev pub lines_in : List ℕ → ℕ
lines_in [] = 0
lines_in (b ∷ bs) = if b == 10 then suc (lines_in bs) else lines_in bs

-- ---- one line

abbrev pub kind_of_words : words_kind.Kind → LineKind
kind_of_words of_words.Count = kind.Count
kind_of_words of_words.Number = kind.Number
kind_of_words of_words.Value = kind.Value

abbrev pub of_whole : {V : Type 0} → Result V words_kind.Kind → Result V LineKind
of_whole (Ok v) = Ok v
of_whole (Err k) = Err (kind_of_words k)

-- what the words of a line say: the word that is due, and then those of a value, all of them
abbrev pub value_of : {V : Type 0} → List ℕ → Codec V → List (List ℕ) → Result V LineKind
value_of word c [] = Err kind.Word
value_of word c (w ∷ ws) = if bytes_eq w word then of_whole (whole c ws) else Err kind.Word

abbrev pub on_line : {V : Type 0} → ℕ → List ℕ → Result V LineKind → Reading V
on_line n rest (Ok v) = Ok (v, (suc n, rest))
on_line n rest (Err k) = Err (n, k)

-- a line ends with LF; where no LF comes the input has ended too early
abbrev pub take_line : {V : Type 0} → List ℕ → Codec V → ℕ → Option (List ℕ × List ℕ) → Reading V
take_line word c n None = Err (n, kind.End)
take_line word c n (Some x) = on_line n x.1 (value_of word c (pieces_of 32 x.0))

abbrev pub line : {V : Type 0} → List ℕ → Codec V → LineCodec V
line word c = record {
  spell = λ v. (word ++ written (c.spell v)) ++ 10 ∷ [];
  take = λ p. take_line word c p.0 (cut_at 10 p.1);
  fits = c.fits;
}

-- ---- lines one after the other

infixr 30 ◌↵◌
abbrev pub ◌↵◌ : {A B : Type 0} → LineCodec A → LineCodec B → LineCodec (A × B)
a ↵ b = record {
  spell = λ x. a.spell x.0 ++ b.spell x.1;
  take = λ p. a.take p then λ x. b.take x.1 then λ y. Ok ((x.0, y.0), y.1);
  fits = λ x. a.fits x.0 × b.fits x.1;
}

abbrev pub take_items : {V : Type 0} → LineCodec V → ℕ → Place → Reading (List V)
take_items c zero p = Ok ([], p)
take_items c (suc n) p = c.take p then λ x. take_items c n x.1 then λ y. Ok (x.0 ∷ y.0, y.1)

abbrev pub spell_items : {V : Type 0} → LineCodec V → List V → List ℕ
spell_items c [] = []
spell_items c (v ∷ vs) = c.spell v ++ spell_items c vs

abbrev pub AllFit : {V : Type 0} → LineCodec V → List V → Type 0
AllFit c [] = Unit {0}
AllFit c (v ∷ vs) = c.fits v × AllFit c vs

-- as many values as are told
abbrev pub items : {V : Type 0} → LineCodec V → ℕ → LineCodec (List V)
items c n = record { spell = spell_items c; take = take_items c n; fits = λ vs. (length vs ≡ n) × AllFit c vs }

-- what a head tells of a value, what stands behind it then, and how the value is made of that
pub record Headed (V : Type 0) : Type 1 where
  pub Head : Type 0
  pub head : LineCodec Head
  pub Parts : Type 0
  pub parts : Head → LineCodec Parts
  pub make : Parts → V
  pub parts_of : V → Parts
  pub head_of : V → Head

abbrev pub take_parts : {V : Type 0} → (s : Headed V) → s.Head × Place → Reading V
take_parts s h = (s.parts h.0).take h.1 then λ x. Ok (s.make x.0, x.1)

abbrev pub headed : {V : Type 0} → Headed V → LineCodec V
headed s = record {
  spell = λ v. s.head.spell (s.head_of v) ++ (s.parts (s.head_of v)).spell (s.parts_of v);
  take = λ p. s.head.take p then take_parts s;
  fits = λ v. (s.make (s.parts_of v) ≡ v) × s.head.fits (s.head_of v) × (s.parts (s.head_of v)).fits (s.parts_of v);
}
