-- The options of a command line, and what words give them.
use Rattle.std.specs.Prelude.{◌≡◌, ℕ, List, [], ◌∷◌, Option, Some, None, Result, Ok, Err, true}
use Rattle.clap.specs.Words.{App, Kinds, Row, Rule, fault_of, found_of, matches_of, new_app, new_rule, rows_of}
use Rattle.clap.specs.Simple.{on_top}
use Rattle.clap.specs.declared.builder.action.ArgAction.TheVariants.{Set, SetTrue}
use Rattle.clap.specs.declared.parser.matches.ArgMatches.{ArgMatches}
use Rattle.client_commands.specs.declared.words.WordsFault.{WordsFault}
use Rattle.client_commands.specs.declared.words.WordsFault.TheVariants as fault

-- the second step, where the first gave a value
infixl 10 ◌>>=◌
abbrev pub ◌>>=◌ : {A B : Type 0} → Option A → (A → Option B) → Option B
(Some value) >>= next = next value
None >>= next = None

-- an option `--NAME VALUE`, which is required and takes one value
abbrev pub option_rule : List ℕ → Rule
option_rule name = record (new_rule name) { long = Some name; required = true; action = Some Set }

-- a flag `--NAME`
abbrev pub flag_rule : List ℕ → Rule
flag_rule name = record (new_rule name) { long = Some name; action = Some SetTrue }

-- a command without an argument, whose words do not begin with its name, and which has no `--help` and no `--version`
abbrev pub bare_command : List ℕ → App
bare_command program = on_top (λ s. record s { no_binary_name = true; disable_help_flag = true; disable_version_flag = true }) (new_app program)

-- the values, where nothing speaks against the words
abbrev pub rows_unless : Kinds → List Row → Option (List Row)
rows_unless [] rows = Some rows
rows_unless (refusal ∷ refusals) rows = None

-- the values of the options by their names, where the words are such options as the command line has
unfoldable pub rows_in : App → List (List ℕ) → Option (List Row)
rows_in app words = rows_unless (fault_of app words) (matches_of app words)

-- what is due was read, or a fault exactly where nothing is; want of memory is free
abbrev pub Gives : {A : Type 0} → Option A → Result A WordsFault → Type 0
Gives due (Ok value) = due ≡ Some value
Gives due (Err fault.NoMemory) = Unit {0}
Gives due (Err other) = due ≡ None

-- the same of the values of options
abbrev pub GivesRows : Option (List Row) → Result ArgMatches WordsFault → Type 0
GivesRows due (Ok matches) = due ≡ Some (rows_of (found_of matches))
GivesRows due (Err fault.NoMemory) = Unit {0}
GivesRows due (Err other) = due ≡ None
