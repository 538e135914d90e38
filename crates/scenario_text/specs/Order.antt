-- Which fault a line has, by the order of the kinds over all its words.
use Rattle.std.specs.Prelude.{ℕ, Bool, true, false, ◌^◌, nat_lt, List, [], ◌∷◌, length, Option, None, Some, if◌then◌else◌}
use Rattle.std.specs.List.{list_any}
use Rattle.pk_types.specs.Pieces.{pieces_of}
use Rattle.scenario_text.specs.declared.lines.TheConstants.{MAX_LINE}
use Rattle.scenario_text.specs.declared.fault.LineKind.{LineKind}
use Rattle.scenario_text.specs.declared.fault.LineKind.TheVariants as kind
use Rattle.scenario_text.specs.declared.first_word.CallerWord.{CallerWord}
use Rattle.scenario_text.specs.declared.first_word.CallerWord.TheVariants as caller_word
use Rattle.scenario_text.specs.declared.first_word.DraftWord.{DraftWord}
use Rattle.scenario_text.specs.declared.first_word.DraftWord.TheVariants as draft
use Rattle.scenario_text.specs.declared.first_word.FirstWord.{FirstWord}
use Rattle.scenario_text.specs.declared.first_word.FirstWord.TheVariants as first
use Rattle.scenario_text.specs.Faults.{fault_in}
use Rattle.scenario_text.specs.Words.{number_in, number_32_in, number_64_in, caller_in, serial_in, implicit_in, optional_implicit_in, some_value_in, text_in, id_in, local_in, active_in, session_in, texts_in, gids_in}
use Rattle.scenario_text.specs.Subjects.{subject_in, identity_in}
use Rattle.scenario_text.specs.CallerLines.{options_in}
use Rattle.scenario_text.specs.Lines.{first_word_of, is_blank}

-- the faults of words
abbrev pub Faults : Type 0
Faults = List (Option LineKind)

-- whether the fault of a word is that it is not a number, or one out of its range
abbrev pub is_number : Option LineKind → Bool
is_number (Some kind.Number) = true
is_number other = false

-- whether a word has a fault
abbrev pub is_fault : Option LineKind → Bool
is_fault None = false
is_fault (Some k) = true

-- the fault of a line whose words have these faults: Number wherever one is, and else Value
abbrev pub kind_of_faults : Faults → Option LineKind
kind_of_faults faults = if list_any is_number faults then Some kind.Number else if list_any is_fault faults then Some kind.Value else None

-- the faults of N S and of the words after them
abbrev pub behind_call : List ℕ → List ℕ → Faults → Option Faults
behind_call caller serial faults = Some (fault_in (caller_in caller) ∷ fault_in (serial_in serial) ∷ faults)

-- the faults of a line of the draft, unless the count of its words is wrong
abbrev pub draft_faults : DraftWord → List (List ℕ) → Option Faults
draft_faults draft.At (moment ∷ []) = Some (fault_in (number_in (2 ^ 62) moment) ∷ [])
draft_faults draft.Action (id ∷ any ∷ inactive ∷ active ∷ []) =
    Some (fault_in (id_in id) ∷ fault_in (implicit_in any) ∷ fault_in (implicit_in inactive) ∷ fault_in (implicit_in active) ∷ [])
draft_faults draft.Imply (id ∷ implied ∷ []) = Some (fault_in (id_in id) ∷ fault_in (id_in implied) ∷ [])
draft_faults draft.Owner (id ∷ identities ∷ []) = Some (fault_in (id_in id) ∷ fault_in (texts_in identities) ∷ [])
draft_faults draft.Entry (identities ∷ actions ∷ any ∷ inactive ∷ active ∷ []) =
    Some (fault_in (texts_in identities) ∷ fault_in (texts_in actions) ∷ fault_in (optional_implicit_in any) ∷ fault_in (optional_implicit_in inactive) ∷ fault_in (optional_implicit_in active) ∷ fault_in (some_value_in any inactive active) ∷ [])
draft_faults draft.Admins (items ∷ []) = Some (fault_in (texts_in items) ∷ [])
draft_faults draft.User (uid ∷ name ∷ gids ∷ []) = Some (fault_in (number_32_in uid) ∷ fault_in (text_in name) ∷ fault_in (gids_in gids) ∷ [])
draft_faults draft.Group (gid ∷ name ∷ []) = Some (fault_in (number_32_in gid) ∷ fault_in (text_in name) ∷ [])
draft_faults draft.Session (id ∷ uid ∷ local ∷ active ∷ []) =
    Some (fault_in (text_in id) ∷ fault_in (number_32_in uid) ∷ fault_in (local_in local) ∷ fault_in (active_in active) ∷ [])
draft_faults draft.Process (pid ∷ start ∷ uid ∷ session ∷ []) =
    Some (fault_in (number_32_in pid) ∷ fault_in (number_64_in start) ∷ fault_in (number_32_in uid) ∷ fault_in (session_in session) ∷ [])
draft_faults draft.GoneProcess (pid ∷ start ∷ []) = Some (fault_in (number_32_in pid) ∷ fault_in (number_64_in start) ∷ [])
draft_faults draft.GoneSession (id ∷ []) = Some (fault_in (text_in id) ∷ [])
draft_faults draft.GoneAction (id ∷ []) = Some (fault_in (id_in id) ∷ [])
draft_faults draft.Reload [] = Some []
draft_faults word other = None

-- the faults of a line of a connection, unless the count of its words is wrong
abbrev pub caller_faults : CallerWord → List (List ℕ) → Option Faults
caller_faults caller_word.Peer (caller ∷ uid ∷ []) = Some (fault_in (caller_in caller) ∷ fault_in (number_32_in uid) ∷ [])
caller_faults caller_word.Depart (caller ∷ []) = Some (fault_in (caller_in caller) ∷ [])
caller_faults caller_word.Announce (caller ∷ serial ∷ pid ∷ start ∷ []) =
    behind_call caller serial (fault_in (number_32_in pid) ∷ fault_in (number_64_in start) ∷ [])
caller_faults caller_word.Check (caller ∷ serial ∷ subject ∷ action ∷ more) =
    if nat_lt 2 (length more) then None else behind_call caller serial (fault_in (subject_in subject) ∷ fault_in (text_in action) ∷ fault_in (options_in more) ∷ [])
caller_faults caller_word.Cancel (caller ∷ serial ∷ id ∷ []) = behind_call caller serial (fault_in (text_in id) ∷ [])
caller_faults caller_word.Register (caller ∷ serial ∷ subject ∷ path ∷ []) =
    behind_call caller serial (fault_in (subject_in subject) ∷ fault_in (text_in path) ∷ [])
caller_faults caller_word.Unregister (caller ∷ serial ∷ subject ∷ path ∷ []) =
    behind_call caller serial (fault_in (subject_in subject) ∷ fault_in (text_in path) ∷ [])
caller_faults caller_word.Respond (caller ∷ serial ∷ cookie ∷ identity ∷ []) =
    behind_call caller serial (fault_in (text_in cookie) ∷ fault_in (identity_in identity) ∷ [])
caller_faults caller_word.Return (caller ∷ serial ∷ []) = behind_call caller serial []
caller_faults caller_word.Dismiss (caller ∷ serial ∷ []) = behind_call caller serial []
caller_faults caller_word.Fail (caller ∷ serial ∷ []) = behind_call caller serial []
caller_faults caller_word.Actions (caller ∷ serial ∷ locale ∷ []) = behind_call caller serial (fault_in (text_in locale) ∷ [])
caller_faults caller_word.Grants (caller ∷ serial ∷ subject ∷ []) = behind_call caller serial (fault_in (subject_in subject) ∷ [])
caller_faults caller_word.Revoke (caller ∷ serial ∷ subject ∷ []) = behind_call caller serial (fault_in (subject_in subject) ∷ [])
caller_faults caller_word.RevokeId (caller ∷ serial ∷ id ∷ []) = behind_call caller serial (fault_in (text_in id) ∷ [])
caller_faults word other = None

-- the faults of the words after the first one, unless their count is wrong
abbrev pub faults_of : FirstWord → List (List ℕ) → Option Faults
faults_of (first.Draft word) args = draft_faults word args
faults_of (first.Caller word) args = caller_faults word args

-- Count, or the fault of the words
abbrev pub count_or_kind : Option Faults → Option LineKind
count_or_kind None = Some kind.Count
count_or_kind (Some faults) = kind_of_faults faults

-- Word, or the fault of the words after the first one
abbrev pub word_or_kind : Option FirstWord → List (List ℕ) → Option LineKind
word_or_kind None args = Some kind.Word
word_or_kind (Some word) args = count_or_kind (faults_of word args)

-- the fault of a line by its words
abbrev pub kind_of_words : List (List ℕ) → Option LineKind
kind_of_words [] = Some kind.Word
kind_of_words (word ∷ args) = word_or_kind (first_word_of word) args

-- the fault of a line: TooLong, Word, Count, Number, Value, the first of them that it has
unfoldable pub line_kind : List ℕ → Option LineKind
line_kind line =
    if nat_lt MAX_LINE (length line) then Some kind.TooLong
    else if is_blank line then None
    else kind_of_words (pieces_of 32 line)
