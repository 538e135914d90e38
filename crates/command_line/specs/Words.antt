-- Words as texts.
use Rattle.std.specs.Prelude.{◌≡◌, ℕ, List, Some, Result, Ok, Err, slice_get}
use Rattle.pk_types.specs.Text.{IsText}
use Rattle.command_line.specs.declared.reading.WordsRefused.{WordsRefused}
use Rattle.command_line.specs.declared.reading.WordsRefused.TheVariants as refused

-- one of the words is not a text
pub record HasOther (words : List (List ℕ)) : Type 0 where
  pub place : ℕ
  pub word : List ℕ
  pub among : slice_get words place ≡ Some word
  pub other : IsText word → ⊥

-- the word is read as itself, or it is not a text; want of memory is free
abbrev pub ReadsText : List ℕ → Result (List ℕ) WordsRefused → Type 0
ReadsText word (Ok text) = text ≡ word
ReadsText word (Err refused.NotText) = IsText word → ⊥
ReadsText word (Err refused.NoMemory) = Unit {0}

-- the same of each of the words
abbrev pub Reads : List (List ℕ) → Result (List (List ℕ)) WordsRefused → Type 0
Reads words (Ok texts) = texts ≡ words
Reads words (Err refused.NotText) = HasOther words
Reads words (Err refused.NoMemory) = Unit {0}
