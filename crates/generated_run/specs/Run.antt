-- The items of a generated run, the newest first.
use Rattle.std.specs.Prelude.{ℕ, ◌+◌, ◌%◌, ◌==◌, zero, suc, false, if◌then◌else◌, List, [], ◌∷◌, Option, Some, None, codes, option_and_then, option_map, slice_get}
use Rattle.std.specs.Option.{option_map_or}
use Rattle.pk_types.specs.declared.values.Identity.{Identity}
use Rattle.pk_types.specs.declared.values.Subject.{Subject}
use Rattle.authority_model.specs.declared.event.Call.{Call}
use Rattle.authority_model.specs.declared.event.Event.{Event}
use Rattle.authority_model.specs.declared.event.Event.TheVariants.{Connect, Call as Called, Returned, AgentError}
use Rattle.authority_model.specs.declared.journal.Item.{Item}
use Rattle.authority_model.specs.declared.message.Message.{Message}
use Rattle.authority_model.specs.declared.message.Message.TheVariants.{Begin}
use Rattle.authority_model.specs.declared.message.Output.{Output}
use Rattle.authority_model.specs.declared.interaction.TheConstants.{ALLOW_USER_INTERACTION}
use Rattle.authority_model.specs.Answers.{cancelled_name}
use Rattle.authority_model.specs.Cookies.{cookie_text}
use Rattle.authority_model.specs.Given.{Given, event_given, load_given, next}
use Rattle.authority_model.specs.Items.{sent}
use Rattle.authority_model.specs.Lists.{or_else}
use Rattle.generated_run.specs.declared.asked.Asked.{Asked}
use Rattle.generated_run.specs.Setup.{setup, action_id}

-- the items after one more
unfoldable pub entered : List Item → Given → List Item
entered past given = next past given ∷ past

-- the items after so many events, one after another
unfoldable pub each_entered : (ℕ → Given) → ℕ → List Item → List Item
each_entered given zero past = past
each_entered given (suc n) past = entered (each_entered given n past) (given n)

-- the i-th user connects, as connection i + 1
abbrev pub connects : ℕ → Given
connects i = event_given (i + 1) 0 0 (Connect (1000 + i))

-- root connects, as connection 9
abbrev pub root_connects : Given
root_connects = event_given 9 0 0 (Connect 0)

-- a process of the setup
abbrev pub the_process : ℕ → Subject
the_process i = Subject.Process (100 + i) 1

-- the registration of an agent for the i-th user's process
abbrev pub registration : ℕ → Event
registration i = Called 1 false (Call.Register (the_process i) (codes "C") (codes "/a"))

-- the i-th user registers an agent
abbrev pub registers : ℕ → Given
registers i = event_given (i + 1) 0 0 (registration i)

-- the setup is loaded, the users and root connect, and each user registers an agent
unfoldable pub set_up : List Item
set_up = each_entered registers 8 (entered (each_entered connects 8 (entered [] (load_given 0 0 setup))) root_connects)

-- the caller of the k-th check
abbrev pub caller_of : ℕ → ℕ
caller_of k = 1 + k % 8

-- the k-th check asks about the caller's process, and lets its agent be asked
abbrev pub check : ℕ → Event
check k = Called (k + 2) false (Call.Check (the_process (k % 8)) (action_id (k % 6)) [] ALLOW_USER_INTERACTION [])

-- the user that an identity is
abbrev pub user_in : Identity → Option ℕ
user_in (Identity.User uid) = Some uid
user_in (Identity.Group gid) = None

-- the first identity, where it is a user
abbrev pub first_user : List Identity → Option ℕ
first_user identities = option_and_then user_in (slice_get identities 0)

-- what a message with this serial asks of an agent: a Begin whose first identity is a user
abbrev pub asked : ℕ → Message → Option Asked
asked serial (Begin path action text icon details cookie identities) = option_map (λ uid. record { serial = serial; cookie = cookie; uid = uid }) (first_user identities)
asked serial _ = None

-- what outputs first ask of a connection, the next to it having this serial
abbrev pub asked_in : ℕ → ℕ → List Output → Option Asked
asked_in caller serial [] = None
asked_in caller serial (o ∷ outputs) = if o.to == caller then or_else (asked serial o.message) (asked_in caller (serial + 1) outputs) else asked_in caller serial outputs

-- what the newest item asks of its caller; the serial is the number among all outputs to it
abbrev pub asked_last : List Item → Option Asked
asked_last [] = None
asked_last (i ∷ past) = asked_in i.entry.caller (sent past i.entry.caller + 1) i.entry.outputs

-- the user dismisses the dialogue
abbrev pub dismissed : ℕ → List Item → Asked → List Item
dismissed k past a = entered past (event_given (caller_of k) k 0 (AgentError a.serial cancelled_name))

-- root tells that the user was authenticated
abbrev pub response : ℕ → Asked → Event
response k a = Called (k + 2) false (Call.Respond (cookie_text a.cookie) (Identity.User a.uid))

-- the user is authenticated, and the agent returns
abbrev pub authenticated : ℕ → List Item → Asked → List Item
authenticated k past a = entered (entered past (event_given 9 k 0 (response k a))) (event_given (caller_of k) k 0 (Returned a.serial))

-- what follows where the k-th check asks: each fifth dialogue is dismissed
abbrev pub answered : ℕ → List Item → Asked → List Item
answered k past a = if k % 5 == 4 then dismissed k past a else authenticated k past a

-- what follows the k-th check
abbrev pub followed : ℕ → List Item → List Item
followed k past = option_map_or (answered k past) (asked_last past) past

-- the k-th check with its dialogue
abbrev pub checked : ℕ → List Item → List Item
checked k past = followed k (entered past (event_given (caller_of k) k 0 (check k)))

-- the setup and so many checks, each with its dialogue
unfoldable pub generated : ℕ → List Item
generated zero = set_up
generated (suc k) = checked k (generated k)
