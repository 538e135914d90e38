-- A text as one word: each byte outside of 0x21 to 0x7E, and `%` (37), as `%` and two hexadecimal digits.
use Rattle.std.specs.Prelude.{◌≡◌, ◌<◌, ℕ, ◌+◌, ◌*◌, ◌/◌, ◌%◌, ◌==◌, ◌&&◌, not, Bool, true, false, nat_le, length, List, [], ◌∷◌, ◌++◌, Option, Some, None, if◌then◌else◌}
use Rattle.pk_types.specs.Text.{text_fault_of}
use Rattle.pk_types.specs.ActionId.{id_fault_of}
use Rattle.pk_types.specs.declared.text.TextFault.{TextFault}
use Rattle.audit_words.specs.declared.digits.Letters.TheVariants.{Upper}
use Rattle.audit_words.specs.declared.fault.Kind.TheVariants.{Value}
use Rattle.audit_words.specs.declared.texts.TheConstants.{MAX_NAME}
use Rattle.audit_words.specs.Codecs.{Plain, Codec, one}
use Rattle.audit_words.specs.Digits.{digit_in, value_in}

abbrev pub is_plain : ℕ → Bool
is_plain b = nat_le 33 b && (nat_le b 126 && not (b == 37))

-- an upper-case hexadecimal digit
abbrev pub digit_of : ℕ → ℕ
digit_of n = digit_in Upper n

-- its value
abbrev pub digit_value : ℕ → Option ℕ
digit_value c = value_in Upper c

abbrev pub escaped_byte : ℕ → List ℕ
escaped_byte b = if is_plain b then b ∷ [] else 37 ∷ digit_of (b / 16) ∷ digit_of (b % 16) ∷ []

abbrev pub escaped : List ℕ → List ℕ
escaped [] = []
escaped (b ∷ bs) = escaped_byte b ++ escaped bs

-- the empty text is `%` alone
abbrev pub text_word : List ℕ → List ℕ
text_word [] = 37 ∷ []
text_word (b ∷ bs) = escaped (b ∷ bs)

abbrev pub onto : ℕ → Option (List ℕ) → Option (List ℕ)
onto b (Some bs) = Some (b ∷ bs)
onto b None = None

-- a byte that had to be escaped
abbrev pub unless_plain : ℕ → Option (List ℕ) → Option (List ℕ)
unless_plain b more = if is_plain b then None else onto b more

abbrev pub onto_escape : Option ℕ → Option ℕ → Option (List ℕ) → Option (List ℕ)
onto_escape (Some high) (Some low) more = unless_plain (high * 16 + low) more
onto_escape (Some high) None more = None
onto_escape None low more = None

-- the bytes of which this is the escaped form
abbrev pub unescaped : List ℕ → Option (List ℕ)
unescaped [] = Some []
unescaped (b ∷ []) = if is_plain b then Some (b ∷ []) else None
unescaped (b ∷ c ∷ []) = if is_plain b then onto b (unescaped (c ∷ [])) else None
unescaped (b ∷ c ∷ d ∷ rest) =
    if is_plain b then onto b (unescaped (c ∷ d ∷ rest))
    else if b == 37 then onto_escape (digit_value c) (digit_value d) (unescaped rest)
    else None

-- the byte that stands first in an escaped text, and what follows
abbrev pub byte_unless_plain : ℕ → List ℕ → Option (ℕ × List ℕ)
byte_unless_plain b rest = if is_plain b then None else Some (b, rest)

abbrev pub escape_of : Option ℕ → Option ℕ → List ℕ → Option (ℕ × List ℕ)
escape_of (Some high) (Some low) rest = byte_unless_plain (high * 16 + low) rest
escape_of (Some high) None rest = None
escape_of None low rest = None

abbrev pub escape_at : List ℕ → Option (ℕ × List ℕ)
escape_at [] = None
escape_at (c ∷ []) = None
escape_at (c ∷ d ∷ rest) = escape_of (digit_value c) (digit_value d) rest

abbrev pub first_byte : List ℕ → Option (ℕ × List ℕ)
first_byte [] = None
first_byte (b ∷ rest) = if is_plain b then Some (b, rest) else if b == 37 then escape_at rest else None

abbrev pub onto_all : List ℕ → Option (List ℕ) → Option (List ℕ)
onto_all front (Some bs) = Some (front ++ bs)
onto_all front None = None

abbrev pub text_unless : Option TextFault → List ℕ → Option (List ℕ)
text_unless None bytes = Some bytes
text_unless (Some fault) bytes = None

abbrev pub text_if : Option (List ℕ) → Option (List ℕ)
text_if None = None
text_if (Some bytes) = text_unless (text_fault_of bytes) bytes

abbrev pub text_value : List ℕ → Option (List ℕ)
text_value [] = None
text_value (b ∷ []) = if b == 37 then Some [] else text_if (unescaped (b ∷ []))
text_value (b ∷ c ∷ cs) = text_if (unescaped (b ∷ c ∷ cs))

-- the bytes of a text
abbrev pub AreBytes : List ℕ → Type 0
AreBytes [] = Unit {0}
AreBytes (b ∷ bs) = (b < 256) × AreBytes bs

-- a text, by its bytes
abbrev pub IsTextWord : List ℕ → Type 0
IsTextWord t = AreBytes t × (text_fault_of t ≡ None)

-- a text
abbrev pub text : Codec (List ℕ)
text = one (λ t. Plain (text_word t)) Value text_value IsTextWord

abbrev pub kept_if : (List ℕ → Bool) → Option (List ℕ) → Option (List ℕ)
kept_if test None = None
kept_if test (Some t) = if test t then Some t else None

-- a text that passes a test
abbrev pub text_such : (List ℕ → Bool) → Codec (List ℕ)
text_such test = one (λ t. Plain (text_word t)) Value (λ w. kept_if test (text_value w)) (λ t. IsTextWord t × (test t ≡ true))

abbrev pub is_nothing : {A : Type 0} → Option A → Bool
is_nothing None = true
is_nothing (Some x) = false

-- an action id
abbrev pub action_id : Codec (List ℕ)
action_id = text_such (λ t. is_nothing (id_fault_of t))

-- a name of at most 4,096 bytes
abbrev pub short_text : Codec (List ℕ)
short_text = text_such (λ t. nat_le (length t) MAX_NAME)
