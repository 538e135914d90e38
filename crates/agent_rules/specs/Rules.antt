-- The lines of a rule file, and which of them decides.
use Rattle.std.specs.Prelude.{◌≡◌, ◌||◌, nat_lt, List, [], ◌∷◌, length, find, Option, None, Some, option_and_then, is_some, Result, Ok, Err, codes, if◌then◌else◌}
use Rattle.std.specs.Option.{option_map, option_map_or}
use Rattle.std.specs.Str.{bytes_eq}
use Rattle.pk_types.specs.Decimals.{is_empty, number_of}
use Rattle.pk_types.specs.Text.{text_fault_of}
use Rattle.pk_types.specs.Pieces.{pieces_of, lines_of}
use Rattle.glob_match.specs.Glob.{matches}
use Rattle.authority_model.specs.Words.{Bytes, after_front}
use Rattle.agent_rules.specs.declared.line.Handling.{Handling}
use Rattle.agent_rules.specs.declared.line.Handling.TheVariants as handling
use Rattle.agent_rules.specs.declared.line.Rule.{Rule}
use Rattle.agent_rules.specs.declared.rules.RuleFault.{RuleFault}
use Rattle.agent_rules.specs.declared.rules.RuleFault.TheVariants as fault
use Rattle.agent_rules.specs.declared.rules.TheConstants.{MAX_RULE_FILE, MAX_RULES}

-- what was read is what is due, or nothing is due; want of memory is free
abbrev pub Reads : {A : Type 0} → Result A RuleFault → Option A → Type 0
Reads (Ok value) due = due ≡ Some value
Reads (Err fault.OutOfForm) due = due ≡ None
Reads (Err fault.NoMemory) due = Unit {0}

-- the second step, where the first gave a value
infixl 10 ◌>>=◌
abbrev pub ◌>>=◌ : {A B : Type 0} → Option A → (A → Option B) → Option B
(Some value) >>= next = next value
None >>= next = None

-- `user:UID`: the number of 32 bits behind `user:`
abbrev pub authenticated_in : Bytes → Option Handling
authenticated_in word = option_map (λ uid. handling.Authenticate uid) (option_and_then number_of (after_front (codes "user:") word))

-- the second word of a line: `dismiss`, `fail` or `user:UID`
abbrev pub handling_in : Bytes → Option Handling
handling_in word = if bytes_eq word (codes "dismiss") then Some handling.Dismiss else (if bytes_eq word (codes "fail") then Some handling.Fail else authenticated_in word)

-- the first word of a line: a text that is not empty
abbrev pub glob_in : Bytes → Option Bytes
glob_in word = if is_empty word || is_some (text_fault_of word) then None else Some word

-- the rule of two words
abbrev pub rule_of_words : List Bytes → Option Rule
rule_of_words (first ∷ second ∷ []) = do
  glob ← glob_in first
  handling ← handling_in second
  Some (record { glob = glob; handling = handling })
rule_of_words _ = None

-- the rule of a line, whose words have one space (32) between them
abbrev pub rule_in : Bytes → Option Rule
rule_in line = rule_of_words (pieces_of 32 line)

-- the rules of lines, where each of them is a rule
abbrev pub rules_in_lines : List Bytes → Option (List Rule)
rules_in_lines [] = Some []
rules_in_lines (line ∷ lines) = do
  rule ← rule_in line
  rules ← rules_in_lines lines
  Some (rule ∷ rules)

-- the rules of a file, which has neither too many bytes nor too many lines
abbrev pub rules_in : Bytes → Option (List Rule)
rules_in bytes = if nat_lt MAX_RULE_FILE (length bytes) || nat_lt MAX_RULES (length (lines_of bytes)) then None else rules_in_lines (lines_of bytes)

-- how a challenge for an action is handled: as the first rule says whose glob has the action, and as a failure where there is none
abbrev pub handling_for : List Rule → Bytes → Handling
handling_for rules action = option_map_or (λ rule. rule.handling) (find (λ rule. matches rule.glob action) rules) handling.Fail
