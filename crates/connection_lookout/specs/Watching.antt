-- What a sighter did beside a connection: at which processes it looked, what it saw, and which of them it took out of the last load.
use Rattle.std.specs.Prelude.{◌≡◌, ◌==◌, ◌<◌, ◌⊎◌, ⊤, ℕ, suc, Bool, true, false, not, List, [], ◌∷◌, ◌++◌, Option, None, Some, All, filter, filter_map, length, map}
use mathlib.Core.List.{IsPrefix}
use Rattle.authority_model.specs.declared.event.Event.{Event}
use Rattle.authority_core.specs.Unlisting.{lists_process}
use Rattle.authority_model.specs.declared.journal.Item.{Item}
use Rattle.authority_model.specs.Items.{loaded_of}
use Rattle.connection_lookout.specs.Unlistings.{DidUnlist}
use Rattle.history_lock.specs.Calls.{Learned}
use Rattle.history_lock.specs.Entries.{NoneBy, entries_by}
use Rattle.history_lock.specs.Known.{Known}
use Rattle.history_lock.specs.declared.machine.EndCause.{EndCause}
use Rattle.pk_outside.specs.declared.sights.Sighted.{Sighted}
use Rattle.pk_outside.specs.declared.sights.Sighted.TheVariants as sighted
use Rattle.pk_outside.specs.Sightings.{Look, GivesSighting, Looked}
use Rattle.shared_authority.specs.Journals.{IsJournal, caller_of, past_of}
use Rattle.shared_authority.specs.Passes.{Unlisted}
use Rattle.sight_events.specs.Named.{named}

-- Where a sighter stands: its pass, and what its sights will give and gave.
pub record Watch : Type 0 where
  pub pass : Known Item
  pub left : Option (List Sighted)
  pub gave : Option (List Look)

abbrev pub watch : Known Item → Option (List Sighted) → Option (List Look) → Watch
watch pass left gave = record { pass = pass; left = left; gave = gave }

-- where the sighter of a connection stands, if it has one
abbrev pub watch_of : Option (Known Item) → Option (List Sighted) → Option (List Look) → Option Watch
watch_of None left gave = None
watch_of (Some pass) left gave = Some (watch pass left gave)

-- One look: at the process that an event names, what was seen of it, and whether it was taken out of the last load.
pub record Turn : Type 0 where
  pub pid : ℕ
  pub start : ℕ
  pub sighted : Sighted
  pub unlisted : Bool

-- the process of a turn
abbrev pub process_of : Turn → ℕ × ℕ
process_of t = (t.pid, t.start)

-- the look of a turn
abbrev pub look_of : Turn → Look
look_of t = record { pid = t.pid; sighted = t.sighted }

-- whether a sighting shows that a process has ended: none has its id, or a later one has it
abbrev pub has_ended : ℕ → Sighted → Bool
has_ended start (sighted.Alive seen) = not (seen == start)
has_ended start sighted.Gone = true
has_ended start sighted.Failed = false

-- whether a look succeeded
abbrev pub has_seen : Sighted → Bool
has_seen (sighted.Alive seen) = true
has_seen sighted.Gone = true
has_seen sighted.Failed = false

-- the processes of the turns that pass a test
abbrev pub processes : (Turn → Bool) → List Turn → List (ℕ × ℕ)
processes test turns = map process_of (filter test turns)

-- the processes that events name
abbrev pub names : List Event → List (ℕ × ℕ)
names events = filter_map named events

-- These sightings were given: the first of those that were left, and `Gone` after them.
abbrev pub Takes : List Sighted → List Sighted → List Sighted → Type 0
Takes before after [] = after ≡ before
Takes [] after (s ∷ seen) = (s ≡ sighted.Gone) × Takes [] after seen
Takes (x ∷ before) after (s ∷ seen) = (s ≡ x) × Takes before after seen

-- the same, where the sights tell it
abbrev pub AllTaken : Option (List Sighted) → Option (List Sighted) → List Sighted → Type 0
AllTaken None None seen = Unit {0}
AllTaken None (Some after) seen = ⊥
AllTaken (Some before) None seen = ⊥
AllTaken (Some before) (Some after) seen = Takes before after seen

-- These looks were taken, where the sights tell it.
abbrev pub AllLooked : Option (List Look) → Option (List Look) → List Look → Type 0
AllLooked None None looks = Unit {0}
AllLooked None (Some after) looks = ⊥
AllLooked (Some before) None looks = ⊥
AllLooked (Some before) (Some after) looks = after ≡ before ++ looks

-- Of the histories from the first to the last one whose last load does not list the process.
pub record LacksProcess (first last : List Item) (pid start : ℕ) : Type 0 where
  pub known : List Item
  pub after : IsPrefix first known
  pub within : IsPrefix known last
  pub lacks : lists_process (loaded_of (past_of known)) pid start ≡ false

-- After the first history a load did not list the process, as the pass knows; or the pass knows that the lock has ended.
abbrev pub IsOut : List Item → ℕ → ℕ → Known Item → Type 0
IsOut first pid start w = LacksProcess first w.history pid start ⊎ ((cause : EndCause) × (w.ended ≡ Some cause))

-- What is known of a connection: its number, how many of its entries are in the history, and the history.
pub record Own : Type 0 where
  pub number : ℕ
  pub entries : ℕ
  pub history : List Item

abbrev pub own : ℕ → ℕ → List Item → Own
own number entries history = record { number = number; entries = entries; history = history }

-- A beginning of the history has the connection's first k entries and no other of its own, and its last load does not list the process.
pub record OutBehind (o : Own) (k pid start : ℕ) : Type 0 where
  pub known : List Item
  pub within : IsPrefix known o.history
  pub has : length (entries_by caller_of o.number known) ≡ k
  pub lacks : lists_process (loaded_of (past_of known)) pid start ≡ false

-- Where the process was seen to have ended, and the event that was to be the connection's entry k has its entry, the process was in no load between the connection's entry before and that one.
abbrev pub WasOut : Own → ℕ → Turn → Type 0
WasOut o k t = has_ended t.start t.sighted ≡ true → k < o.entries → OutBehind o k t.pid t.start

-- The turn before an event, of which this holds; and none before an event that names no process.
abbrev pub AtTurn : (ℕ → Turn → Type 0) → ℕ → Option (ℕ × ℕ) → List Turn → (List Turn → Type 0) → Type 0
AtTurn Holds k None turns rest = rest turns
AtTurn Holds k (Some p) [] rest = ⊥
AtTurn Holds k (Some p) (t ∷ turns) rest = (process_of t ≡ p) × Holds k t × rest turns

-- The turns before events, of which this holds. The first of the events is to be the connection's entry k.
abbrev pub Turned : (ℕ → Turn → Type 0) → ℕ → List Event → List Turn → Type 0
Turned Holds k [] turns = turns ≡ []
Turned Holds k (event ∷ events) turns = AtTurn Holds k (named event) turns (Turned Holds (suc k) events)

-- From v to w the sighter looked before these events of the connection, which stand behind its beginning.
pub record Watching (o : Own) (events : List Event) (v w : Watch) : Type 0 where
  pub number : w.pass.number ≡ v.pass.number
  pub begins : IsPrefix v.pass.history w.pass.history
  pub turns : List Turn
  -- one look for each event that names a process, in their order; where one failed its event was not handed in
  pub looked : processes (λ t. has_seen t.sighted) turns ≡ names events
  pub left : AllTaken v.left w.left (map (λ t. t.sighted) turns)
  pub gave : AllLooked v.gave w.gave (map look_of turns)
  -- the sighter's items take out some of these processes, in this order
  pub did : DidUnlist v.pass.number (past_of w.pass.history) (processes (λ t. t.unlisted) turns)
  -- and each of those was seen to have ended
  pub ended : All (λ t. t.unlisted ≡ true → has_ended t.start t.sighted ≡ true) turns
  -- each process that was seen to have ended is then in no load, unless the lock has ended
  pub gone : All (λ t. has_ended t.start t.sighted ≡ true → IsOut v.pass.history t.pid t.start w.pass) turns
  -- and where the event has its entry, it was in no load between the connection's entry before and that one
  pub between : Turned (WasOut o) 1 events (filter (λ t. has_seen t.sighted) turns)

-- the same of a connection that has a sighter, or has none
abbrev pub Watched : Own → List Event → Option Watch → Option Watch → Type 0
Watched o events None None = Unit {0}
Watched o events None (Some w) = ⊥
Watched o events (Some v) None = ⊥
Watched o events (Some v) (Some w) = Watching o events v w

-- A sighter that has no item yet.
abbrev pub IsFresh : Option Watch → Type 0
IsFresh None = ⊤
IsFresh (Some v) = NoneBy caller_of v.pass.number v.pass.history

-- The process was taken out of the last load; or not, and the pass has perhaps learned of others' items.
abbrev pub TookOut : Bool → ℕ → ℕ → Known Item → Known Item → Type 0
TookOut true pid start v w = (place : ℕ) × Unlisted v 0 pid start place w
TookOut false pid start v w = (w ≡ v) ⊎ Learned caller_of IsJournal v w

-- One turn was taken, for this process.
pub record TookTurn (p : ℕ × ℕ) (v w : Watch) (failed : Bool) : Type 0 where
  pub turn : Turn
  pub process : process_of turn ≡ p
  pub left : GivesSighting v.left w.left turn.sighted
  pub gave : Looked v.gave w.gave turn.pid turn.sighted
  pub failed_is : has_seen turn.sighted ≡ not failed
  pub out : TookOut turn.unlisted turn.pid turn.start v.pass w.pass
  pub ended : turn.unlisted ≡ true → has_ended turn.start turn.sighted ≡ true
  pub gone : has_ended turn.start turn.sighted ≡ true → IsOut v.pass.history turn.pid turn.start w.pass

-- A sighter that has met a pass knows what that pass knows.
pub record Meets (p : Known Item) (v w : Watch) : Type 0 where
  pub learned : Learned caller_of IsJournal v.pass w.pass
  pub history : w.pass.history ≡ p.history
  pub made : w.pass.made ≡ p.made
  pub ended : w.pass.ended ≡ p.ended
  pub left : w.left ≡ v.left
  pub gave : w.gave ≡ v.gave

-- One turn was taken for this process, between two meetings of the sighter with the connection's pass, which went from p to q and has no item more of its own.
pub record TookLook (named : ℕ × ℕ) (p q : Known Item) (v w : Watch) (failed : Bool) : Type 0 where
  pub met : Known Item
  pub before : Watch
  pub after : Watch
  pub learned : Learned caller_of IsJournal p met
  pub first : Meets met v before
  pub took : TookTurn named before after failed
  pub knows : Learned caller_of IsJournal met q
  pub second : Meets q after w

-- a look where a process is named, and none where none is
abbrev pub LooksAt : Option (ℕ × ℕ) → Known Item → Known Item → Watch → Watch → Bool → Type 0
LooksAt None p q v w failed = (q ≡ p) × (w ≡ v) × (failed ≡ false)
LooksAt (Some process) p q v w failed = TookLook process p q v w failed

-- What was done before an event, and whether a look failed. The connection's pass went from p to q.
abbrev pub Looks : Event → Known Item → Known Item → Option Watch → Option Watch → Bool → Type 0
Looks event p q None None failed = (q ≡ p) × (failed ≡ false)
Looks event p q None (Some w) failed = ⊥
Looks event p q (Some v) None failed = ⊥
Looks event p q (Some v) (Some w) failed = LooksAt (named event) p q v w failed

abbrev pub HasMet : Known Item → Option Watch → Option Watch → Type 0
HasMet p None None = Unit {0}
HasMet p None (Some w) = ⊥
HasMet p (Some v) None = ⊥
HasMet p (Some v) (Some w) = Meets p v w

-- The same of the pass of a sighter, whose sights stay as they are.
abbrev pub HasMetBy : Known Item → Known Item → Known Item → Type 0
HasMetBy p v w = (left : Option (List Sighted)) (gave : Option (List Look)) → HasMet p (Some (watch v left gave)) (Some (watch w left gave))

-- The same of a connection that has a sighter, or has none.
abbrev pub HaveMet : Known Item → Option (Known Item) → Option (Known Item) → Type 0
HaveMet p before now = (left : Option (List Sighted)) (gave : Option (List Look)) → HasMet p (watch_of before left gave) (watch_of now left gave)
