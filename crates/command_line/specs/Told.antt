-- What a program tells of itself.
use Rattle.std.specs.Prelude.{ℕ, List, [], ◌∷◌, Option, Some, None, if◌then◌else◌}
use Rattle.std.specs.Str.{bytes_eq}
use Rattle.command_line.specs.declared.told.ProgramTexts.{ProgramTexts}
use Rattle.command_line.specs.declared.told.TheConstants.{HELP, VERSION}

-- the text that a word asks for
abbrev pub asked_by_word : ProgramTexts → List ℕ → Option (List ℕ)
asked_by_word texts word =
    if bytes_eq word HELP.now then Some texts.help.now
    else (if bytes_eq word VERSION.now then Some texts.version.now else None)

-- the text that the only word asks for
abbrev pub asked_of : ProgramTexts → List (List ℕ) → Option (List ℕ)
asked_of texts [] = None
asked_of texts (word ∷ []) = asked_by_word texts word
asked_of texts (word ∷ (other ∷ words)) = None
