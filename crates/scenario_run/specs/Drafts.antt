-- What a line makes of the draft of the next load.
use Rattle.std.specs.Prelude.{ℕ, ◌&&◌, ◌==◌, List, [], ◌∷◌, ◌++◌, Option, None, Some, Result, Ok, Err, codes}
use Rattle.std.specs.List.{join_by}
use Rattle.std.specs.Option.{option_map_or}
use Rattle.std.specs.Str.{bytes_eq}
use Rattle.pk_types.specs.declared.values.Implicit.{Implicit}
use Rattle.authority_model.specs.declared.load.Loaded.{Loaded}
use Rattle.authority_model.specs.declared.policy.Action.{Action}
use Rattle.authority_model.specs.declared.policy.RuleEntry.{RuleEntry}
use Rattle.authority_model.specs.declared.world.Group.{Group}
use Rattle.authority_model.specs.declared.world.Process.{Process}
use Rattle.authority_model.specs.declared.world.Session.{Session}
use Rattle.authority_model.specs.declared.world.User.{User}
use Rattle.authority_model.specs.Deciding.{imply_key}
use Rattle.authority_model.specs.Rules.{action_of, annotation, plain_action}
use Rattle.authority_model.specs.Trust.{owner_key}
use Rattle.scenario_text.specs.declared.fault.LineKind.{LineKind}
use Rattle.scenario_text.specs.declared.fault.LineKind.TheVariants as kind
use Rattle.scenario_text.specs.declared.step.Step.{Step}
use Rattle.scenario_text.specs.declared.step.Step.TheVariants as step
use Rattle.scenario_text.specs.Faults.{◌>>=◌}
use Rattle.scenario_text.specs.Words.{any_text_in}
use Rattle.scenario_run.specs.Rows.{put_in, put_last, without_first, same_action, same_pair, same_user, same_group, same_session, same_process}

-- the draft with these actions
abbrev pub with_actions : Loaded → List Action → Loaded
with_actions draft actions = record draft { policy = record (draft.policy) { actions = actions } }

-- the draft with these rules
abbrev pub with_entries : Loaded → List RuleEntry → Loaded
with_entries draft entries = record draft { policy = record (draft.policy) { entries = entries } }

-- the draft with these administrators
abbrev pub with_admins : Loaded → List (List ℕ) → Loaded
with_admins draft admins = record draft { policy = record (draft.policy) { admins = admins } }

-- the draft with these users
abbrev pub with_users : Loaded → List User → Loaded
with_users draft users = record draft { world = record (draft.world) { users = users } }

-- the draft with these groups
abbrev pub with_groups : Loaded → List Group → Loaded
with_groups draft groups = record draft { world = record (draft.world) { groups = groups } }

-- the draft with these sessions
abbrev pub with_sessions : Loaded → List Session → Loaded
with_sessions draft sessions = record draft { world = record (draft.world) { sessions = sessions } }

-- the draft with these processes
abbrev pub with_processes : Loaded → List Process → Loaded
with_processes draft processes = record draft { world = record (draft.world) { processes = processes } }

-- a rule of an entry line: it has no pairs
abbrev pub plain_rule : List (List ℕ) → List (List ℕ) → Option Implicit → Option Implicit → Option Implicit → RuleEntry
plain_rule identities actions any inactive active = record { identities = identities; actions = actions; any = any; inactive = inactive; active = active; pairs = [] }

-- a rule is put last into the draft
abbrev pub add_rule : Loaded → RuleEntry → Result Loaded LineKind
add_rule draft rule = put_last draft.policy.entries rule >>= (λ rows. Ok (with_entries draft rows))

-- an action is put into the draft
abbrev pub put_action : Loaded → Action → Result Loaded LineKind
put_action draft action = put_in same_action draft.policy.actions action >>= (λ rows. Ok (with_actions draft rows))

-- the action with this annotation, whose value must be a text
abbrev pub annotated : Action → List ℕ → List ℕ → Result Action LineKind
annotated action key value = do
  text ← any_text_in value
  pairs ← put_in same_pair action.annotations (record { key = key; value = text })
  Ok (record action { annotations = pairs })

-- an action is put into the draft with this annotation
abbrev pub put_annotated : Loaded → Action → List ℕ → List ℕ → Result Loaded LineKind
put_annotated draft action key value = annotated action key value >>= put_action draft

-- an action of the draft gets this annotation
abbrev pub annotate : Loaded → List ℕ → List ℕ → Option Action → Result Loaded LineKind
annotate draft key value None = Err kind.Value
annotate draft key value (Some action) = put_annotated draft action key value

-- one more id, after one space where it isn't the first
abbrev pub one_more_id : List ℕ → List ℕ → List ℕ
one_more_id [] id = id
one_more_id (b ∷ ids) id = (b ∷ ids) ++ (codes " " ++ id)

-- the ids that an action implies, as its annotation has them
abbrev pub implied_by : Action → List ℕ
implied_by action = option_map_or (λ ids. ids) (annotation action imply_key) []

-- an action of the draft implies one more
abbrev pub imply : Loaded → List ℕ → List ℕ → Result Loaded LineKind
imply draft id implied =
    annotate draft imply_key (option_map_or (λ action. one_more_id (implied_by action) implied) (action_of draft.policy id) []) (action_of draft.policy id)

-- identities with one space between them
abbrev pub owners : List (List ℕ) → List ℕ
owners identities = join_by (λ identity. identity) (codes " ") identities

-- an action of the draft has these owners
abbrev pub own : Loaded → List ℕ → List (List ℕ) → Result Loaded LineKind
own draft id identities = annotate draft owner_key (owners identities) (action_of draft.policy id)

-- a user with the label unix-user:NAME, which must be a text
abbrev pub user_row : ℕ → List ℕ → List ℕ → Result User LineKind
user_row uid name gids = do
  label ← any_text_in (codes "unix-user:" ++ name)
  Ok (record { uid = uid; name = name; label = label; gids = gids })

-- a user is put into the draft
abbrev pub put_user : Loaded → ℕ → List ℕ → List ℕ → Result Loaded LineKind
put_user draft uid name gids = do
  user ← user_row uid name gids
  rows ← put_in same_user draft.world.users user
  Ok (with_users draft rows)

-- a group with the label unix-group:NAME, which must be a text
abbrev pub group_row : ℕ → List ℕ → Result Group LineKind
group_row gid name = do
  label ← any_text_in (codes "unix-group:" ++ name)
  Ok (record { gid = gid; name = name; label = label })

-- a group is put into the draft
abbrev pub put_group : Loaded → ℕ → List ℕ → Result Loaded LineKind
put_group draft gid name = do
  group ← group_row gid name
  rows ← put_in same_group draft.world.groups group
  Ok (with_groups draft rows)

-- a session is put into the draft
abbrev pub put_session : Loaded → Session → Result Loaded LineKind
put_session draft session = put_in same_session draft.world.sessions session >>= (λ rows. Ok (with_sessions draft rows))

-- a process is put into the draft
abbrev pub put_process : Loaded → Process → Result Loaded LineKind
put_process draft process = put_in same_process draft.world.processes process >>= (λ rows. Ok (with_processes draft rows))

-- the first process with this pid and start is taken out
abbrev pub without_process : Loaded → ℕ → ℕ → Loaded
without_process draft pid start = with_processes draft (without_first (λ p. (p.pid == pid) && (p.start == start)) draft.world.processes)

-- the first session with this id is taken out
abbrev pub without_session : Loaded → List ℕ → Loaded
without_session draft id = with_sessions draft (without_first (λ s. bytes_eq s.id id) draft.world.sessions)

-- the first action with this id is taken out
abbrev pub without_action : Loaded → List ℕ → Loaded
without_action draft id = with_actions draft (without_first (λ a. bytes_eq a.id id) draft.policy.actions)

-- what a step makes of the draft; a step that is not a line of the draft is refused
abbrev pub drafted : Loaded → Step → Result Loaded LineKind
drafted draft (step.Action id any inactive active) = put_action draft (plain_action id any inactive active)
drafted draft (step.Imply id implied) = imply draft id implied
drafted draft (step.Owner id identities) = own draft id identities
drafted draft (step.Entry identities actions any inactive active) = add_rule draft (plain_rule identities actions any inactive active)
drafted draft (step.Admins items) = Ok (with_admins draft items)
drafted draft (step.User uid name gids) = put_user draft uid name gids
drafted draft (step.Group gid name) = put_group draft gid name
drafted draft (step.Session row) = put_session draft row
drafted draft (step.Process row) = put_process draft row
drafted draft (step.GoneProcess pid start) = Ok (without_process draft pid start)
drafted draft (step.GoneSession id) = Ok (without_session draft id)
drafted draft (step.GoneAction id) = Ok (without_action draft id)
drafted draft step.Blank = Err kind.Value
drafted draft (step.At t) = Err kind.Value
drafted draft step.Reload = Err kind.Value
drafted draft (step.Act caller event) = Err kind.Value
