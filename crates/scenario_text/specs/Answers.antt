-- The line that answers with an output.
use Rattle.std.specs.Prelude.{true, false, ℕ, ◌-◌, ◌==◌, Bool, List, [], ◌++◌, Option, None, Some, codes, length, if◌then◌else◌, slice_get}
use Rattle.std.specs.Option.{option_map_or}
use Rattle.std.specs.Fmt.{decimal}
use Rattle.authority_model.specs.declared.journal.History.{History}
use Rattle.authority_model.specs.declared.load.Loaded.{Loaded}
use Rattle.authority_model.specs.declared.message.Answer.{Answer}
use Rattle.authority_model.specs.declared.message.Answer.TheVariants as answer
use Rattle.authority_model.specs.declared.message.ErrorCause.{ErrorCause}
use Rattle.authority_model.specs.declared.message.Message.{Message}
use Rattle.authority_model.specs.declared.message.Message.TheVariants as message
use Rattle.authority_model.specs.declared.message.Output.{Output}
use Rattle.authority_model.specs.declared.verdict.Verdict.{Verdict}
use Rattle.authority_model.specs.Causes.{error_last_part, error_word}
use Rattle.authority_model.specs.Cookies.{cookie_text, grant_text}
use Rattle.authority_model.specs.Reasons.{reason_text}
use Rattle.scenario_text.specs.Escapes.{escaped, identities_text, grants_text, pairs_text}

-- yes, challenge or no
abbrev pub verdict_word : Verdict → List ℕ
verdict_word verdict = if verdict.yes then codes "yes" else if verdict.challenge then codes "challenge" else codes "no"

-- the authorization of a challenge would be kept
abbrev pub keep_text : Bool → List ℕ
keep_text true = codes " keep"
keep_text false = []

-- the temporary authorization that a verdict made
abbrev pub made_text : Option ℕ → List ℕ
made_text None = []
made_text (Some id) = codes " grant=" ++ grant_text id

-- the words of a verdict
abbrev pub verdict_text : Verdict → List ℕ
verdict_text verdict =
    verdict_word verdict ++ (codes " " ++ (escaped (reason_text verdict.reason) ++ (keep_text verdict.keep ++ (made_text verdict.grant ++ pairs_text verdict.pairs))))

-- the last part of the error's name, and the word of the cause
abbrev pub cause_text : ErrorCause → List ℕ
cause_text cause = error_last_part cause ++ (codes " " ++ error_word cause)

-- How many actions the load with this number has. Loads are counted from 1, load 0 is empty, and a number of no load counts as that.
abbrev pub action_count : List Loaded → ℕ → ℕ
action_count loads n = if n == 0 then 0 else option_map_or (λ (loaded : Loaded). length loaded.policy.actions) (slice_get loads (n - 1)) 0

-- how many actions the load has that an answer lists, and 0 where it lists none
abbrev pub answer_actions : List Loaded → Answer → ℕ
answer_actions loads (answer.Actions load locale) = action_count loads load
answer_actions loads _ = 0

-- how many actions the load has that a message lists, and 0 where it lists none
abbrev pub listed_actions : List Loaded → Message → ℕ
listed_actions loads (message.Reply answered answer) = answer_actions loads answer
listed_actions loads _ = 0

-- the words of an answer, which lists so many actions where it lists some
abbrev pub answer_words : ℕ → Answer → List ℕ
answer_words actions (answer.Verdict verdict) = verdict_text verdict
answer_words actions answer.Done = codes "done"
answer_words actions (answer.Name name) = codes "name " ++ escaped name
answer_words actions (answer.Actions load locale) = codes "actions " ++ decimal actions
answer_words actions (answer.Grants rows) = codes "grants " ++ grants_text rows
answer_words actions (answer.Refused cause) = codes "error " ++ cause_text cause

-- two words and what follows them, ended by LF
abbrev pub words_line : List ℕ → List ℕ → List ℕ → List ℕ
words_line first second rest = first ++ (codes " " ++ (second ++ (codes " " ++ (rest ++ codes "\n"))))

-- the line of a message to a connection, which lists so many actions where it lists some, and is the one with this serial among those sent to it
abbrev pub counted_line : ℕ → ℕ → ℕ → Message → List ℕ
counted_line actions to serial (message.Reply answered answer) = words_line (decimal to) (decimal answered) (answer_words actions answer)
counted_line actions to serial (message.Begin path action text icon details cookie identities) =
    words_line (decimal to) (codes "begin") (decimal serial ++ (codes " " ++ (cookie_text cookie ++ (codes " " ++ (escaped action ++ (codes " " ++ identities_text identities))))))
counted_line actions to serial (message.CancelBegin path cookie) = words_line (decimal to) (codes "end") (cookie_text cookie)
counted_line actions to serial message.Changed = decimal to ++ codes " changed\n"
counted_line actions to serial message.LoadWanted = []
counted_line actions to serial message.StopWanted = []

-- the line of a message to a connection, where these are the loads
abbrev pub message_line : List Loaded → ℕ → ℕ → Message → List ℕ
message_line loads to serial message = counted_line (listed_actions loads message) to serial message

-- the line of an output, which lists so many actions where it lists some, and is the one with this serial among those to its connection
abbrev pub answer_line : Output → ℕ → ℕ → List ℕ
answer_line output actions serial = counted_line actions output.to serial output.message

-- the line of an output of a history
abbrev pub output_line : Output → History → ℕ → List ℕ
output_line output history serial = message_line history.loads output.to serial output.message
