-- What a line of a scenario says, or what is wrong with it.
use Rattle.std.specs.Prelude.{ℕ, Bool, ◌==◌, ◌||◌, nat_lt, List, [], ◌∷◌, length, slice_index, Option, None, Some, Result, Ok, Err, codes, if◌then◌else◌}
use Rattle.std.specs.Option.{option_map}
use Rattle.std.specs.Str.{bytes_eq}
use Rattle.pk_types.specs.Pieces.{pieces_of}
use Rattle.authority_model.specs.Lists.{or_else}
use Rattle.scenario_text.specs.declared.lines.TheConstants.{MAX_LINE}
use Rattle.scenario_text.specs.declared.fault.LineKind.{LineKind}
use Rattle.scenario_text.specs.declared.fault.LineKind.TheVariants as kind
use Rattle.scenario_text.specs.declared.first_word.CallerWord.{CallerWord}
use Rattle.scenario_text.specs.declared.first_word.CallerWord.TheVariants as caller_word
use Rattle.scenario_text.specs.declared.first_word.DraftWord.{DraftWord}
use Rattle.scenario_text.specs.declared.first_word.DraftWord.TheVariants as draft
use Rattle.scenario_text.specs.declared.first_word.FirstWord.{FirstWord}
use Rattle.scenario_text.specs.declared.first_word.FirstWord.TheVariants as first
use Rattle.scenario_text.specs.declared.step.Step.{Step}
use Rattle.scenario_text.specs.declared.step.Step.TheVariants as step
use Rattle.scenario_text.specs.DraftLines.{draft_line}
use Rattle.scenario_text.specs.CallerLines.{caller_line}

-- the words that a line of the draft begins with
abbrev pub draft_word_of : List ℕ → Option DraftWord
draft_word_of word =
    if bytes_eq word (codes "at") then Some draft.At
    else if bytes_eq word (codes "action") then Some draft.Action
    else if bytes_eq word (codes "imply") then Some draft.Imply
    else if bytes_eq word (codes "owner") then Some draft.Owner
    else if bytes_eq word (codes "entry") then Some draft.Entry
    else if bytes_eq word (codes "admins") then Some draft.Admins
    else if bytes_eq word (codes "user") then Some draft.User
    else if bytes_eq word (codes "group") then Some draft.Group
    else if bytes_eq word (codes "session") then Some draft.Session
    else if bytes_eq word (codes "process") then Some draft.Process
    else if bytes_eq word (codes "gone-process") then Some draft.GoneProcess
    else if bytes_eq word (codes "gone-session") then Some draft.GoneSession
    else if bytes_eq word (codes "gone-action") then Some draft.GoneAction
    else if bytes_eq word (codes "reload") then Some draft.Reload
    else None

-- the words that a line of a connection begins with
abbrev pub caller_word_of : List ℕ → Option CallerWord
caller_word_of word =
    if bytes_eq word (codes "peer") then Some caller_word.Peer
    else if bytes_eq word (codes "depart") then Some caller_word.Depart
    else if bytes_eq word (codes "announce") then Some caller_word.Announce
    else if bytes_eq word (codes "check") then Some caller_word.Check
    else if bytes_eq word (codes "cancel") then Some caller_word.Cancel
    else if bytes_eq word (codes "register") then Some caller_word.Register
    else if bytes_eq word (codes "unregister") then Some caller_word.Unregister
    else if bytes_eq word (codes "respond") then Some caller_word.Respond
    else if bytes_eq word (codes "return") then Some caller_word.Return
    else if bytes_eq word (codes "dismiss") then Some caller_word.Dismiss
    else if bytes_eq word (codes "fail") then Some caller_word.Fail
    else if bytes_eq word (codes "actions") then Some caller_word.Actions
    else if bytes_eq word (codes "grants") then Some caller_word.Grants
    else if bytes_eq word (codes "revoke") then Some caller_word.Revoke
    else if bytes_eq word (codes "revoke-id") then Some caller_word.RevokeId
    else None

-- the words that a line begins with
abbrev pub first_word_of : List ℕ → Option FirstWord
first_word_of word = or_else (option_map first.Draft (draft_word_of word)) (option_map first.Caller (caller_word_of word))

-- a line by its first word and the words after it
abbrev pub line_of : FirstWord → List (List ℕ) → Result Step LineKind
line_of (first.Draft word) args = draft_line word args
line_of (first.Caller word) args = caller_line word args

-- a line by the word that it begins with, if it is one
abbrev pub line_from : Option FirstWord → List (List ℕ) → Result Step LineKind
line_from None args = Err kind.Word
line_from (Some word) args = line_of word args

-- a line by its words
abbrev pub step_of_words : List (List ℕ) → Result Step LineKind
step_of_words [] = Err kind.Word
step_of_words (word ∷ args) = line_from (first_word_of word) args

-- an empty line, or one that begins with `#`
abbrev pub is_blank : List ℕ → Bool
is_blank line = (length line == 0) || (slice_index line 0 == 35)

-- a line of at most 4,096 bytes, whose words have one space between them
unfoldable pub step_of : List ℕ → Result Step LineKind
step_of line =
    if nat_lt MAX_LINE (length line) then Err kind.TooLong
    else if is_blank line then Ok step.Blank
    else step_of_words (pieces_of 32 line)
