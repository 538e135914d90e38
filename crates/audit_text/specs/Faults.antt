-- Which line of a text is the first faulty one, and why.
use Rattle.std.specs.Prelude.{◌≡◌, ◌≢◌, ◌+◌, ℕ, List, ◌∷◌, ◌++◌}
use Rattle.std.proofs.Common.{◌⊎◌}
use Rattle.pk_types.specs.Pieces.{Lacks, pieces_of}
use Rattle.audit_words.specs.Codecs.{Piece, texts, kind_of}
use Rattle.audit_words.specs.Lines.{written}
use Rattle.audit_text.specs.declared.fault.LineKind.{LineKind}
use Rattle.audit_text.specs.declared.fault.LineKind.TheVariants as kind
use Rattle.audit_text.specs.Lines.{Place, LineCodec, lines_in, kind_of_words}

-- the first word is not the one that is due
pub record OtherWord (word : List ℕ) (Refused : List (List ℕ) → Type 0) (words : List (List ℕ)) (k : LineKind) : Type 0 where
  pub first : List ℕ
  pub others : List (List ℕ)
  pub is : words ≡ first ∷ others
  pub other : first ≢ word
  pub word_kind : k ≡ kind.Word
  pub refused : (after : List (List ℕ)) → Refused (first ∷ after)

-- the words are those that are due, and end where another one is due
pub record Missing (word : List ℕ) (pieces : List Piece) (Refused : List (List ℕ) → Type 0) (words : List (List ℕ)) (k : LineKind) : Type 0 where
  pub front : List Piece
  pub next : Piece
  pub more : List Piece
  pub due : pieces ≡ front ++ next ∷ more
  pub is : words ≡ word ∷ texts front
  pub count : k ≡ kind.Count
  pub refused : Refused (word ∷ texts front)

-- a word stands where a number or another word is due, with which no text goes on
pub record Wrong (word : List ℕ) (pieces : List Piece) (Refused : List (List ℕ) → Type 0) (words : List (List ℕ)) (k : LineKind) : Type 0 where
  pub front : List Piece
  pub next : Piece
  pub more : List Piece
  pub due : pieces ≡ front ++ next ∷ more
  pub wrong : List ℕ
  pub others : List (List ℕ)
  pub is : words ≡ word ∷ (texts front ++ wrong ∷ others)
  pub kind_due : k ≡ kind_of_words (kind_of next)
  pub refused : (after : List (List ℕ)) → Refused (word ∷ (texts front ++ wrong ∷ after))

-- all words that are due are there, and others follow
pub record LeftOver (word : List ℕ) (pieces : List Piece) (Refused : List (List ℕ) → Type 0) (words : List (List ℕ)) (k : LineKind) : Type 0 where
  pub first : List ℕ
  pub others : List (List ℕ)
  pub is : words ≡ word ∷ (texts pieces ++ first ∷ others)
  pub count : k ≡ kind.Count
  pub refused : (after : List (List ℕ)) → Refused (word ∷ (texts pieces ++ first ∷ after))

abbrev pub Cause : List ℕ → List Piece → (List (List ℕ) → Type 0) → List (List ℕ) → LineKind → Type 0
Cause word pieces Refused words k = (OtherWord word Refused words k ⊎ Missing word pieces Refused words k) ⊎ (Wrong word pieces Refused words k ⊎ LeftOver word pieces Refused words k)

-- a line stands there, and its words have a fault of this kind
pub record BadWords (word : List ℕ) (pieces : List Piece) (Refused : List (List ℕ) → Type 0) (left : List ℕ) (k : LineKind) : Type 0 where
  pub line : List ℕ
  pub behind : List ℕ
  pub stands : left ≡ line ++ 10 ∷ behind
  pub lacks : Lacks 10 line
  pub cause : Cause word pieces Refused (pieces_of 32 line) k

-- no line stands there any more, or its words are at fault
abbrev pub IsBad : List ℕ → List Piece → (List (List ℕ) → Type 0) → List ℕ → LineKind → Type 0
IsBad word pieces Refused left k = ((k ≡ kind.End) × Lacks 10 left) ⊎ BadWords word pieces Refused left k

-- The lines before the faulty one are the first lines of some value's text, of which the next line has this word and these
-- pieces; and no value's text goes on with the faulty line, up to its first wrong word.
pub record Stops {V : Type 0} (c : LineCodec V) (Refused : List ℕ → List (List ℕ) → Type 0) (p : Place) (e : ℕ × LineKind) : Type 0 where
  pub front : List ℕ
  pub left : List ℕ
  pub whole : p.1 ≡ front ++ left
  pub number : e.0 ≡ p.0 + lines_in front
  pub value : V
  pub fits : c.fits value
  pub word : List ℕ
  pub pieces : List Piece
  pub more : List ℕ
  pub goes_on : c.spell value ≡ front ++ ((word ++ written pieces) ++ 10 ∷ more)
  pub bad : IsBad word pieces (Refused front) left e.1
