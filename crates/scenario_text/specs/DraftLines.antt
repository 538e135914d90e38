-- The lines that change the draft or the moment, by the words after the first.
use Rattle.std.specs.Prelude.{ℕ, ◌^◌, List, [], ◌∷◌, Result, Ok, Err}
use Rattle.scenario_text.specs.declared.fault.LineKind.{LineKind}
use Rattle.scenario_text.specs.declared.fault.LineKind.TheVariants as kind
use Rattle.scenario_text.specs.declared.first_word.DraftWord.{DraftWord}
use Rattle.scenario_text.specs.declared.first_word.DraftWord.TheVariants as draft
use Rattle.scenario_text.specs.declared.step.Step.{Step}
use Rattle.scenario_text.specs.declared.step.Step.TheVariants as step
use Rattle.scenario_text.specs.Faults.{◌>>=◌}
use Rattle.scenario_text.specs.Words.{number_in, number_32_in, number_64_in, implicit_in, optional_implicit_in, some_value_in, text_in, id_in, local_in, active_in, session_in, texts_in, gids_in}

-- at T, where T is a moment in seconds up to 2^62
abbrev pub at_line : List (List ℕ) → Result Step LineKind
at_line (moment ∷ []) = do
  t ← number_in (2 ^ 62) moment
  Ok (step.At t)
at_line other = Err kind.Count

-- action ID ANY INACTIVE ACTIVE
abbrev pub action_line : List (List ℕ) → Result Step LineKind
action_line (id ∷ any ∷ inactive ∷ active ∷ []) = do
  i ← id_in id
  a ← implicit_in any
  b ← implicit_in inactive
  c ← implicit_in active
  Ok (step.Action i a b c)
action_line other = Err kind.Count

-- imply ID ID
abbrev pub imply_line : List (List ℕ) → Result Step LineKind
imply_line (id ∷ implied ∷ []) = do
  i ← id_in id
  j ← id_in implied
  Ok (step.Imply i j)
imply_line other = Err kind.Count

-- owner ID IDENTITIES
abbrev pub owner_line : List (List ℕ) → Result Step LineKind
owner_line (id ∷ identities ∷ []) = do
  i ← id_in id
  os ← texts_in identities
  Ok (step.Owner i os)
owner_line other = Err kind.Count

-- entry IDENTITIES ACTIONS ANY INACTIVE ACTIVE, where `-` stands for no value, and at least one value is given
abbrev pub entry_line : List (List ℕ) → Result Step LineKind
entry_line (identities ∷ actions ∷ any ∷ inactive ∷ active ∷ []) = do
  is ← texts_in identities
  os ← texts_in actions
  a ← optional_implicit_in any
  b ← optional_implicit_in inactive
  c ← optional_implicit_in active
  some ← some_value_in any inactive active
  Ok (step.Entry is os a b c)
entry_line other = Err kind.Count

-- admins LIST
abbrev pub admins_line : List (List ℕ) → Result Step LineKind
admins_line (items ∷ []) = do
  is ← texts_in items
  Ok (step.Admins is)
admins_line other = Err kind.Count

-- user UID NAME GIDS, whose numbers are read first
abbrev pub user_line : List (List ℕ) → Result Step LineKind
user_line (uid ∷ name ∷ gids ∷ []) = do
  u ← number_32_in uid
  gs ← gids_in gids
  n ← text_in name
  Ok (step.User u n gs)
user_line other = Err kind.Count

-- group GID NAME
abbrev pub group_line : List (List ℕ) → Result Step LineKind
group_line (gid ∷ name ∷ []) = do
  g ← number_32_in gid
  n ← text_in name
  Ok (step.Group g n)
group_line other = Err kind.Count

-- session ID UID local|remote active|idle, whose number is read first
abbrev pub session_line : List (List ℕ) → Result Step LineKind
session_line (id ∷ uid ∷ local ∷ active ∷ []) = do
  u ← number_32_in uid
  i ← text_in id
  l ← local_in local
  a ← active_in active
  Ok (step.Session (record { id = i; uid = u; local = l; active = a }))
session_line other = Err kind.Count

-- process PID START UID SESSION
abbrev pub process_line : List (List ℕ) → Result Step LineKind
process_line (pid ∷ start ∷ uid ∷ session ∷ []) = do
  p ← number_32_in pid
  s ← number_64_in start
  u ← number_32_in uid
  n ← session_in session
  Ok (step.Process (record { pid = p; start = s; uid = u; session = n }))
process_line other = Err kind.Count

-- gone-process PID START
abbrev pub gone_process_line : List (List ℕ) → Result Step LineKind
gone_process_line (pid ∷ start ∷ []) = do
  p ← number_32_in pid
  s ← number_64_in start
  Ok (step.GoneProcess p s)
gone_process_line other = Err kind.Count

-- gone-session ID
abbrev pub gone_session_line : List (List ℕ) → Result Step LineKind
gone_session_line (id ∷ []) = do
  i ← text_in id
  Ok (step.GoneSession i)
gone_session_line other = Err kind.Count

-- gone-action ID
abbrev pub gone_action_line : List (List ℕ) → Result Step LineKind
gone_action_line (id ∷ []) = do
  i ← id_in id
  Ok (step.GoneAction i)
gone_action_line other = Err kind.Count

-- reload
abbrev pub reload_line : List (List ℕ) → Result Step LineKind
reload_line [] = Ok step.Reload
reload_line other = Err kind.Count

-- a line of the draft by its first word and the words after it
abbrev pub draft_line : DraftWord → List (List ℕ) → Result Step LineKind
draft_line draft.At args = at_line args
draft_line draft.Action args = action_line args
draft_line draft.Imply args = imply_line args
draft_line draft.Owner args = owner_line args
draft_line draft.Entry args = entry_line args
draft_line draft.Admins args = admins_line args
draft_line draft.User args = user_line args
draft_line draft.Group args = group_line args
draft_line draft.Session args = session_line args
draft_line draft.Process args = process_line args
draft_line draft.GoneProcess args = gone_process_line args
draft_line draft.GoneSession args = gone_session_line args
draft_line draft.GoneAction args = gone_action_line args
draft_line draft.Reload args = reload_line args
