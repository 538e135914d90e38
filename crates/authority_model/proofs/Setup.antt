-- The form of the worked examples. Each is a list of lines, the oldest first: what is handed in, and the outputs that it must be answered. The definitions compute the outputs from what is handed in, so each example is proved by `refl`.
use Rattle.std.proofs.Common.{◌≡◌, ℕ, true, false, List, [], ◌∷◌, ◌++◌, Option, Some, None}
use Rattle.std.specs.Prelude.{codes, map, reverse}
use Rattle.pk_types.specs.declared.values.Category.{Category}
use Rattle.pk_types.specs.declared.values.Pair.{Pair}
use Rattle.pk_types.specs.declared.values.Subject.{Subject}
use Rattle.pk_types.specs.declared.values.Implicit.{Implicit}
use Rattle.pk_types.specs.declared.values.Identity.{Identity}
use Rattle.authority_model.specs.declared.event.Call.{Call}
use Rattle.authority_model.specs.declared.event.Event.{Event}
use Rattle.authority_model.specs.declared.message.ErrorCause.{ErrorCause}
use Rattle.authority_model.specs.declared.message.Answer.{Answer}
use Rattle.authority_model.specs.declared.message.Message.{Message}
use Rattle.authority_model.specs.declared.message.Output.{Output}
use Rattle.authority_model.specs.declared.verdict.Reason.{Reason}
use Rattle.authority_model.specs.declared.verdict.Verdict.{Verdict}
use Rattle.authority_model.specs.declared.load.Loaded.{Loaded}
use Rattle.authority_model.specs.declared.policy.Action.{Action}
use Rattle.authority_model.specs.declared.world.Process.{Process}
use Rattle.authority_model.specs.declared.world.User.{User as UserRow}
use Rattle.authority_model.specs.declared.world.Group.{Group as GroupRow}
use Rattle.authority_model.specs.Words.{Bytes}
use Rattle.authority_model.specs.Verdicts.{yes_by, no_by, challenge_by, granted_by}
use Rattle.authority_model.specs.Given.{What, Given, history_of}

-- one line of an example
pub record Line : Type 0 where
  pub given : Given
  pub outputs : List Output

-- what is handed in by these lines is answered as they say
abbrev pub Shown : List Line → Type 0
Shown lines = map (λ i. i.entry.outputs) (history_of (map (λ l. l.given) (reverse lines))) ≡ map (λ l. l.outputs) (reverse lines)

-- Rows of a policy and of a world.

-- an action with annotations
abbrev pub annotated : Bytes → Implicit → Implicit → Implicit → List Pair → Action
annotated id any inactive active pairs = record { id = id; descriptions = []; messages = []; vendor = []; vendor_url = []; icon = []; any = any; inactive = inactive; active = active; annotations = pairs }

-- an action without
abbrev pub action : Bytes → Implicit → Implicit → Implicit → Action
action id any inactive active = annotated id any inactive active []

-- a user
abbrev pub user : ℕ → Bytes → Bytes → List ℕ → UserRow
user uid name label gids = record { uid = uid; name = name; label = label; gids = gids }

-- a group
abbrev pub group : ℕ → Bytes → Bytes → GroupRow
group gid name label = record { gid = gid; name = name; label = label }

-- a process
abbrev pub process : ℕ → ℕ → ℕ → Option Bytes → Process
process pid start uid session = record { pid = pid; start = start; uid = uid; session = session }

-- The setup: alice has the process 50 in her active session s1 and the process 51 in none, bob has the process 60, and uid 0 has the process 1.

-- alice's process in her session
abbrev pub in_s1 : Process
in_s1 = process 50 7 1000 (Some (codes "s1"))

-- the other processes
abbrev pub other_processes : List Process
other_processes = process 1 1 0 None ∷ process 51 8 1000 None ∷ process 60 9 1001 None ∷ []

-- the action whose active sessions may authenticate as themselves, and keep what they get
abbrev pub a_self : Action
a_self = action (codes "a.self") Implicit.No Implicit.No Implicit.AuthSelfKeep

-- the other actions
abbrev pub other_actions : List Action
other_actions = action (codes "a.yes") Implicit.Yes Implicit.Yes Implicit.Yes ∷ action (codes "a.no") Implicit.No Implicit.No Implicit.No ∷ action (codes "a.admin") Implicit.AuthAdmin Implicit.AuthAdmin Implicit.AuthAdmin ∷ []

-- the setup with these actions, administrators and processes
abbrev pub load_of : List Action → List Bytes → List Process → Loaded
load_of actions admins processes = record {
  policy = record { actions = actions; entries = []; admins = admins };
  world = record {
    users = user 0 (codes "root") (codes "unix-user:root") (0 ∷ []) ∷ user 1000 (codes "alice") (codes "unix-user:alice") (100 ∷ 10 ∷ []) ∷ user 1001 (codes "bob") (codes "unix-user:bob") (100 ∷ []) ∷ [];
    groups = group 100 (codes "users") (codes "unix-group:users") ∷ group 10 (codes "wheel") (codes "unix-group:wheel") ∷ [];
    sessions = record { id = codes "s1"; uid = 1000; local = true; active = true } ∷ [];
    processes = processes;
  };
  faults = [];
}

-- the setup
abbrev pub setup : Loaded
setup = load_of (a_self ∷ other_actions) [] (in_s1 ∷ other_processes)

-- a load without users, groups and sessions
abbrev pub bare : List Action → List Process → Loaded
bare actions processes = record {
  policy = record { actions = actions; entries = []; admins = [] };
  world = record { users = []; groups = []; sessions = []; processes = processes };
  faults = [];
}

-- Outputs.

-- a reply to a call
abbrev pub to : ℕ → ℕ → Answer → Output
to c serial answer = record { to = c; message = Message.Reply serial answer }

-- the reply `done`
abbrev pub done : ℕ → ℕ → List Output
done c serial = to c serial Answer.Done ∷ []

-- a refusal
abbrev pub refused : ℕ → ℕ → ErrorCause → List Output
refused c serial cause = to c serial (Answer.Refused cause) ∷ []

-- a verdict
abbrev pub verdict : ℕ → ℕ → Verdict → List Output
verdict c serial v = to c serial (Answer.Verdict v) ∷ []

-- yes for this reason
abbrev pub yes : ℕ → ℕ → Reason → List Output
yes c serial reason = verdict c serial (yes_by reason [])

-- yes by a challenge that was answered, and the grant that it made
abbrev pub yes_granted : ℕ → ℕ → Option ℕ → List Output
yes_granted c serial grant = verdict c serial (granted_by grant)

-- no for this reason
abbrev pub no : ℕ → ℕ → Reason → List Output
no c serial reason = verdict c serial (no_by reason)

-- a challenge by the default for the active category, whose value is a keep value
abbrev pub keep_challenge : ℕ → ℕ → List Output
keep_challenge c serial = verdict c serial (challenge_by (Reason.Default Category.Active) true)

-- a challenge by the default for a category, whose value is no keep value
abbrev pub challenge : ℕ → ℕ → Category → List Output
challenge c serial category = verdict c serial (challenge_by (Reason.Default category) false)

-- Changed to one of the four connections
abbrev pub changed_to : ℕ → Output
changed_to c = record { to = c; message = Message.Changed }

-- Changed to all four
abbrev pub changed_1_to_4 : List Output
changed_1_to_4 = changed_to 1 ∷ changed_to 2 ∷ changed_to 3 ∷ changed_to 4 ∷ []

-- the agent of caller 4 is asked
abbrev pub begin : Bytes → ℕ → List Identity → List Output
begin name n identities = record { to = 4; message = Message.Begin (codes "/agent") name [] [] [] (record { serial = n; salt = 0 }) identities } ∷ []

-- the agent of caller 4 is told that its challenge is over
abbrev pub end : ℕ → List Output
end n = record { to = 4; message = Message.CancelBegin (codes "/agent") (record { serial = n; salt = 0 }) } ∷ []

-- alice
abbrev pub alice : List Identity
alice = Identity.User 1000 ∷ []

-- the text of the first challenge's cookie
abbrev pub cookie_1 : Bytes
cookie_1 = codes "1-00000000000000000000000000000000"

-- the text of the second challenge's cookie
abbrev pub cookie_2 : Bytes
cookie_2 = codes "2-00000000000000000000000000000000"

-- Lines.

-- a line of these parts
abbrev pub line : ℕ → ℕ → What → List Output → Line
line t c what outputs = record { given = record { caller = c; moment = t; salt = 0; what = what }; outputs = outputs }

-- an event
abbrev pub event : ℕ → ℕ → Event → List Output → Line
event t c e outputs = line t c (What.Of e) outputs

-- a call
abbrev pub call : ℕ → ℕ → ℕ → Call → List Output → Line
call t c serial made outputs = event t c (Event.Call serial false made) outputs

-- a load by caller 0
abbrev pub load : ℕ → Loaded → List Output → Line
load t loaded outputs = line t 0 (What.Loads loaded) outputs

-- a check of a process, which is not to be asked
abbrev pub check_of : ℕ → ℕ → ℕ → ℕ → ℕ → Bytes → List Output → Line
check_of t c serial pid start name outputs = call t c serial (Call.Check (Subject.Process pid start) name [] 0 []) outputs

-- a check of alice's process in her session, by caller 1
abbrev pub check : ℕ → ℕ → Bytes → List Output → Line
check t serial name outputs = check_of t 1 serial 50 7 name outputs

-- a check of the same process that may be asked, with a cancellation id
abbrev pub ask_as : ℕ → ℕ → ℕ → Bytes → Bytes → List Output → Line
ask_as t c serial name cancel outputs = call t c serial (Call.Check (Subject.Process 50 7) name [] 1 cancel) outputs

-- the same by caller 1, without a cancellation id
abbrev pub ask : ℕ → ℕ → Bytes → List Output → Line
ask t serial name outputs = ask_as t 1 serial name [] outputs

-- caller 4 registers an agent for the session s1
abbrev pub register : ℕ → Line
register t = call t 4 1 (Call.Register (Subject.Session (codes "s1")) [] (codes "/agent")) (done 4 1)

-- caller 2, which is uid 0, says that alice authenticated
abbrev pub respond : ℕ → ℕ → Bytes → List Output → Line
respond t serial cookie outputs = call t 2 serial (Call.Respond cookie (Identity.User 1000)) outputs

-- the agent of caller 4 returns
abbrev pub return : ℕ → ℕ → List Output → Line
return t serial outputs = event t 4 (Event.Returned serial) outputs

-- a load and the four connections: 1 and 4 of alice, 2 of uid 0, 3 of bob
abbrev pub peers_of : Loaded → List Line
peers_of l = load 0 l [] ∷ event 0 1 (Event.Connect 1000) [] ∷ event 0 2 (Event.Connect 0) [] ∷ event 0 3 (Event.Connect 1001) [] ∷ event 0 4 (Event.Connect 1000) [] ∷ []

-- an agent is registered, a check is asked, and alice authenticates
abbrev pub asked_at : ℕ → Bytes → List Line
asked_at t name = register t ∷ ask t 1 name (begin name 1 alice) ∷ respond t 1 cookie_1 (done 2 1) ∷ []

-- the same on the setup with a.self, whose agent then returns: the check is yes, and the grant 0 is made at 50
abbrev pub with_grant : List Line
with_grant = peers_of setup ++ asked_at 50 (codes "a.self") ++ return 50 2 (yes_granted 1 1 (Some 0) ++ changed_1_to_4) ∷ []
