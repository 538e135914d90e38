-- What a run hands in, and when.
use Rattle.std.specs.Prelude.{◌≡◌, ℕ, Bool, true, false, not, List, [], ◌∷◌, ◌++◌, Option, Result, Ok, Err, IfSome, map, reverse, filter, ◌==◌}
use Rattle.pk_outside.specs.Trees.{TreeTold}
use Rattle.dbus_values.specs.Next.{Seen}
use Rattle.authority_model.specs.declared.event.Event.TheVariants.{Connect, Depart, LoadFailed}
use Rattle.authority_model.specs.declared.journal.Item.{Item}
use Rattle.authority_model.specs.declared.journal.Limits.{Limits}
use Rattle.authority_model.specs.declared.load.Loaded.{Loaded}
use Rattle.authority_model.specs.declared.message.Message.{Message}
use Rattle.authority_model.specs.Entering.{is_full}
use Rattle.authority_model.specs.Given.{Given, event_given, history_of, load_given}
use Rattle.authority_model.specs.Lists.{any_of}
use Rattle.authority_model.specs.Words.{Bytes}
use Rattle.authority_calls.specs.Events.{event_of}
use Rattle.policy_load.specs.declared.refused.LoadRefused.{LoadRefused}
use Rattle.policy_load.specs.Causes.{LoadCause, LoadsAs}
use Rattle.policy_load.specs.Codes.{code_of}
use Rattle.policy_load.specs.Loads.{load_of}
use Rattle.pipe_run.specs.declared.served.TheConstants.{CONNECTION, LOADER}

-- What a run is made from: the user of its connection, the load that it begins with, and the root of further loads, in a tree that may tell its files.
pub record Opening : Type 0 where
  pub uid : ℕ
  pub first : Loaded
  pub told : Option TreeTold
  pub root : Bytes

-- How far a run came: the messages that asked something, and how often the tree has failed.
pub record Progress : Type 0 where
  pub messages : List Seen
  pub faults : ℕ

-- # What is handed in

-- the first load
abbrev pub first_given : Opening → ℕ → Given
first_given o moment = load_given LOADER moment o.first

-- the beginning of the connection
abbrev pub connect_given : Opening → ℕ → ℕ → Given
connect_given o moment word = event_given CONNECTION moment word (Connect o.uid)

-- what a message asks
abbrev pub message_given : Seen → ℕ → ℕ → Given
message_given message moment word = event_given CONNECTION moment word (event_of message)

-- what a load gave: the load, or the number of the cause of its refusal
abbrev pub loading_given : Result Loaded LoadRefused → ℕ → Given
loading_given (Ok loaded) moment = load_given LOADER moment loaded
loading_given (Err refused) moment = event_given LOADER moment 0 (LoadFailed (code_of refused))

-- the end of the connection
abbrev pub depart_given : ℕ → ℕ → Given
depart_given moment word = event_given CONNECTION moment word Depart

-- # When it is due

-- whether a message asks for a load
abbrev pub is_load_wanted : Message → Bool
is_load_wanted Message.LoadWanted = true
is_load_wanted _ = false

-- whether an entry asks for a load
abbrev pub wants_load : Item → Bool
wants_load i = any_of (λ o. is_load_wanted o.message) i.entry.outputs

-- whether the newest entry asks for a load
abbrev pub newest_wants_load : List Item → Bool
newest_wants_load [] = false
newest_wants_load (i ∷ past) = wants_load i

-- this is what the load of the root gave, where the tree counted so many faults before and after
pub record IsLoading (o : Opening) (before now : ℕ) (g : Given) : Type 0 where
  pub gave : Result Loaded LoadRefused
  pub given_is : g ≡ loading_given gave g.moment
  pub due : IfSome o.told (λ tree. LoadsAs (load_of tree o.root) gave)
  pub cause : LoadCause before now gave

-- this is what the next message asks
pub record IsAsking (before now : List Seen) (g : Given) : Type 0 where
  pub message : Seen
  pub given_is : g ≡ message_given message g.moment g.salt
  pub next : now ≡ before ++ message ∷ []

-- what is handed in behind an entry that asks for a load, and behind another one
abbrev pub IsNext : Opening → Bool → Progress → Given → Progress → Type 0
IsNext o true before g now = IsLoading o before.faults now.faults g × (now.messages ≡ before.messages)
IsNext o false before g now = IsAsking before.messages now.messages g × (now.faults ≡ before.faults)

-- what is handed in after a history: first the load and the beginning of the connection
abbrev pub IsDue : Opening → List Item → Progress → Given → Progress → Type 0
IsDue o [] before g now = (g ≡ first_given o g.moment) × (now ≡ before)
IsDue o (i ∷ []) before g now = (g ≡ connect_given o g.moment g.salt) × (now ≡ before)
IsDue o (i ∷ j ∷ past) before g now = IsNext o (wants_load i) before g now

-- Each was handed in when it was due, and the journal had room for it. The newest stands first.
abbrev pub AreHandedIn : Opening → Limits → ℕ → List Given → Progress → Type 0
AreHandedIn o limits start [] now = now ≡ record { messages = []; faults = start }
AreHandedIn o limits start (g ∷ given) now =
    (before : Progress) × IsDue o (history_of given) before g now × (is_full limits (history_of given) ≡ false) × AreHandedIn o limits start given before

-- whether a message is what is due next
abbrev pub awaits_message : List Item → Bool
awaits_message [] = false
awaits_message (i ∷ []) = false
awaits_message (i ∷ j ∷ past) = not (wants_load i)

-- whether a load is what is due next
abbrev pub awaits_load : List Item → Bool
awaits_load [] = false
awaits_load (i ∷ []) = false
awaits_load (i ∷ j ∷ past) = wants_load i

-- # What it takes of the clock and of the random words

-- one reading of the clock for each, in order
abbrev pub moments_of : List Given → List ℕ
moments_of given = reverse (map (λ g. g.moment) given)

-- one random word for each of the connection's own, in order
abbrev pub words_of : List Given → List ℕ
words_of given = reverse (map (λ g. g.salt) (filter (λ g. g.caller == CONNECTION) given))
