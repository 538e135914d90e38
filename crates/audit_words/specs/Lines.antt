-- The bytes of a line.
use Rattle.std.specs.Prelude.{ℕ, ◌==◌, Bool, true, false, if◌then◌else◌, List, [], ◌∷◌, ◌++◌, Option, Some, None, option_map}
use Rattle.pk_types.specs.Pieces.{Lacks, pieces_of}
use Rattle.audit_words.specs.Codecs.{Piece, Codec, text_of}

-- each word behind a space
abbrev pub spaced : List (List ℕ) → List ℕ
spaced [] = []
spaced (w ∷ ws) = 32 ∷ (w ++ spaced ws)

-- the words of a value, each behind a space
unfoldable pub written : List Piece → List ℕ
written [] = []
written (p ∷ ps) = 32 ∷ (text_of p ++ written ps)

-- words with a space between them
abbrev pub joined : List (List ℕ) → List ℕ
joined [] = []
joined (w ∷ ws) = w ++ spaced ws

-- a word has no space and no LF
abbrev pub IsClean : List ℕ → Type 0
IsClean word = Lacks 32 word × Lacks 10 word

abbrev pub AreClean : List Piece → Type 0
AreClean [] = Unit {0}
AreClean (p ∷ ps) = IsClean (text_of p) × AreClean ps

-- the words that are left of a line
abbrev pub words_left : Bool → List ℕ → List (List ℕ)
words_left false rest = []
words_left true rest = pieces_of 32 rest

-- the line of a value: its first word, and the value's words
abbrev pub line_of : {V : Type 0} → List ℕ → Codec V → V → List ℕ
line_of word c v = word ++ written (c.spell v)

abbrev pub onto_front : ℕ → List ℕ × List ℕ → List ℕ × List ℕ
onto_front b x = (b ∷ x.0, x.1)

-- what stands before and behind the first separator
abbrev pub cut_at : ℕ → List ℕ → Option (List ℕ × List ℕ)
cut_at separator [] = None
cut_at separator (b ∷ bs) = if b == separator then Some ([], bs) else option_map (onto_front b) (cut_at separator bs)
