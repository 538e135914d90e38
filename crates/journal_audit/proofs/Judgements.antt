-- What a judgement of an entry says of the item.
use Rattle.std.proofs.Common.{Bor, ◌≡◌, ◌+◌, ℕ, List, ◌∷◌, Option, Some, None, refl, ap, sym, ◌∙◌, subst}
use Rattle.std.specs.Prelude.{⊤}
use Rattle.std.specs.Option.{option_copied}
use Rattle.authority_model.specs.declared.event.Event.{Event}
use Rattle.authority_model.specs.declared.event.Event.TheVariants.{Load}
use Rattle.authority_model.specs.declared.journal.Entry.{Entry}
use Rattle.authority_model.specs.declared.journal.Item.{Item}
use Rattle.authority_model.specs.declared.load.Loaded.{Loaded}
use Rattle.authority_model.specs.declared.world.World.{World}
use Rattle.authority_model.specs.declared.message.Output.{Output}
use Rattle.authority_model.specs.Answers.{answers, loads}
use Rattle.authority_model.specs.Items.{loaded_of}
use Rattle.authority_model.specs.Legal.{Follows, IsNumbered, last_moment}
use Rattle.entry_changes.specs.declared.change.EntryChange.{EntryChange}
use Rattle.entry_changes.specs.Changes.{entry_change}
use Rattle.journal_view.specs.declared.counts.ViewCounts.{ViewCounts}
use Rattle.journal_view.specs.Seen.{IsSeenOf, Seen}
use Rattle.event_answers.specs.declared.answered.Answered.{Answered}
use Rattle.plain_lists.specs.declared.lists.PlainLists.{PlainLists}
use Rattle.plain_lists.specs.Lists.{AreListsOf, AreNextOf, change_of, lists_seen}
use Rattle.journal_audit.specs.declared.auditing.Auditor.{Auditor}
use Rattle.journal_audit.specs.declared.clause.Clause.{Clause}
use Rattle.journal_audit.specs.Fault.{Breaks, BreaksFirst, IsAnswered, yes_among}
use Rattle.journal_audit.specs.Steps.{Answers, Compared, IsAt, IsDue, Judged, StepsOver, Turns, in_force_by, item_with, load_named, loads_behind}
use Rattle.journal_audit.proofs.Faults.{follows_kept}

-- an event with a load is a Load
pub load_of : (n : ℕ) (event : Event) (l : Loaded) → IsNumbered n event (Some l) → event ≡ Load (n + 1)
load_of n (Load load) l h = ap Load h
load_of n event l h = absurd (cc h)

-- what is broken before answering is broken, whatever the answer
broken_anyway : (n before : ℕ) (e : Entry) (l : Option Loaded) (Answered : Type 0) (clause : Clause) → BreaksFirst n before e l ⊤ clause → BreaksFirst n before e l Answered clause
broken_anyway n before e l Answered Clause.Load b = b
broken_anyway n before e l Answered Clause.Moment b = b
broken_anyway n before e l Answered Clause.Salt b = b
broken_anyway n before e l Answered Clause.Outputs b = absurd (b.3 tt)
broken_anyway n before e l Answered Clause.Loads b = b

-- lists of a history are a view of it, with the load in force
pub seen_is : (past : List Item) (lists : PlainLists) (in_force : Loaded) → AreListsOf past lists → in_force ≡ loaded_of past → IsSeenOf past (lists_seen lists in_force)
seen_is past lists in_force are is = record {
  peers_are = are.peers_are;
  live_are = are.live_are;
  sent_is = are.sent_is;
  agents_are = are.agents_are;
  grants_are = are.grants_are;
  challenges_are = are.challenges_are;
  loaded_is = is;
  counts_are = are.counts_are;
}

module _ (past : List Item) (i : Item) (lists : PlainLists) (in_force : Loaded) (e : Entry) (l : Option Loaded) (due : IsDue past i lists in_force e l) where
  -- the judgement is of the item after the history
  pub judged_here : (j : Option Clause) → Judged lists.counts.loads lists.counts.last_moment e l j → Judged (loads past) (last_moment past) i.entry i.loaded j
  judged_here j judged =
      subst (λ m. Judged (loads past) (last_moment past) i.entry m j) (sym due.load_is)
      (subst (λ x. Judged (loads past) (last_moment past) x l j) (sym due.entry_is)
      (subst (λ (n : ViewCounts). Judged n.loads n.last_moment e l j) due.lists_are.counts_are judged))

  -- it breaks a clause before it is answered
  pub turn_broken : (clause : Clause) → Judged lists.counts.loads lists.counts.last_moment e l (Some clause) → Breaks past i clause
  turn_broken clause judged = broken_anyway (loads past) (last_moment past) i.entry i.loaded (IsAnswered past i) clause (judged_here (Some clause) judged)

  -- it is not answered so
  pub turn_unanswered : Judged lists.counts.loads lists.counts.last_moment e l None → (IsAnswered past i → ⊥) → Breaks past i Clause.Outputs
  turn_unanswered judged wrong = let kept = judged_here None judged in (kept.0, kept.1, kept.2, wrong)

  -- it follows
  pub turn_follows : Judged lists.counts.loads lists.counts.last_moment e l None → IsAnswered past i → Follows past i
  turn_follows judged answered = let kept = judged_here None judged in follows_kept past i kept.0 kept.1 kept.2 answered

  -- the load in force after it
  pub loaded_next : in_force_by l in_force ≡ loaded_of (i ∷ past)
  loaded_next = ap (λ m. in_force_by m in_force) (sym due.load_is) ∙ ap (in_force_by i.loaded) due.loaded_is

  -- the lists can be carried on by it
  pub turn_next : Judged lists.counts.loads lists.counts.last_moment e l None → (change : EntryChange) → Answers past i (Some change) → (world : World) → world ≡ (in_force_by l in_force).world → AreNextOf e world change lists past i
  turn_next judged change answers world of = record {
    entry_is = due.entry_is;
    world_is = of ∙ ap (λ (m : Loaded). m.world) loaded_next;
    change_is = answers.1;
    legal = (turn_follows judged answers.0, due.legal);
    lists_are = due.lists_are;
  }

-- the next entry of an audit is due
pub due_at : (past : List Item) (a : Auditor) (e : Entry) (l : Option Loaded) → IsAt past a → l ≡ load_named e.event a.left.now → IsDue past (item_with e a.left.now) a.lists a.loaded.now e l
due_at past a e l at named = record { legal = at.legal; lists_are = at.lists_are; loaded_is = at.loaded_is; entry_is = refl; load_is = sym named }

-- an audit that went over an entry
pub step_on : (past : List Item) (a new : Auditor) (e : Entry) (l : Option Loaded) → IsAt past a → l ≡ load_named e.event a.left.now → Turns past (item_with e a.left.now) new.lists None
    → new.loaded.now ≡ in_force_by l a.loaded.now → new.left.now ≡ loads_behind e.event a.left.now → new.yes ≡ a.yes + yes_among e.outputs
    → StepsOver past (item_with e a.left.now) (loads_behind e.event a.left.now) new None
step_on past a new e l at named turned loaded left yeses = (
  record {
    legal = (turned.0, at.legal);
    lists_are = turned.1;
    loaded_is = loaded ∙ loaded_next past (item_with e a.left.now) a.lists a.loaded.now e l (due_at past a e l at named);
    yes_is = yeses ∙ ap (λ n. n + yes_among e.outputs) at.yes_is;
  },
  left,
)

module _ (past : List Item) (i : Item) (lists : PlainLists) (in_force : Loaded) (e : Entry) (l : Option Loaded) (due : IsDue past i lists in_force e l) where
  -- what is said of the entry and its load is said of the item
  of_item : (P : Entry → Option Loaded → Type 0) → P e l → P i.entry i.loaded
  of_item P p = subst (P i.entry) (sym due.load_is) (subst (λ x. P x l) (sym due.entry_is) p)

  -- the outputs that are due are the ones that were written
  pub answered_by : (outputs : List Output) → outputs ≡ answers past e.caller e.moment e.salt e.event l → outputs ≡ e.outputs → IsAnswered past i
  answered_by outputs told same = of_item (λ x m. x.outputs ≡ answers past x.caller x.moment x.salt x.event m) (sym same ∙ told)

  -- or they are not
  pub unanswered_by : (outputs : List Output) → outputs ≡ answers past e.caller e.moment e.salt e.event l → (outputs ≡ e.outputs → ⊥) → IsAnswered past i → ⊥
  unanswered_by outputs told other answered = other (told ∙ sym (of_entry (λ x m. x.outputs ≡ answers past x.caller x.moment x.salt x.event m) answered))
    where
      of_entry : (P : Entry → Option Loaded → Type 0) → P i.entry i.loaded → P e l
      of_entry P p = subst (P e) due.load_is (subst (λ x. P x i.loaded) due.entry_is p)

  -- and this is what the item changes
  pub change_by : (change : EntryChange) → change ≡ entry_change past e.caller e.moment e.salt e.event l → change ≡ change_of past i
  change_by change told = of_item (λ x m. change ≡ entry_change past x.caller x.moment x.salt x.event m) told

  -- a view of the lists is a view of the history
  pub seen_by : (seen : Seen) → seen ≡ lists_seen lists in_force → IsSeenOf past seen
  seen_by seen is = subst (IsSeenOf past) (sym is) (seen_is past lists in_force due.lists_are due.loaded_is)

  -- so the comparison says whether the item is answered so, and what it changes
  pub compared_answers : (a : Answered) (result : Option EntryChange) → a.outputs ≡ answers past e.caller e.moment e.salt e.event l → a.change ≡ entry_change past e.caller e.moment e.salt e.event l → Compared a e result → Answers past i result
  compared_answers a (Some change) told changed same = (answered_by a.outputs told same.0, change_by change (same.1 ∙ changed))
  compared_answers a None told changed other = unanswered_by a.outputs told other

-- what holds of a Load holds of the event that has a load
pub load_case : (P : Event → Option Loaded → Type 0) (event : Event) (o : Option (Bor Loaded)) (l : Bor Loaded) → o ≡ Some l → ((n : ℕ) × IsNumbered n event (option_copied o)) → ((n : ℕ) → P (Load n) (Some l.now)) → P event (option_copied o)
load_case P event o l is numbered each =
    subst (λ (m : Option (Bor Loaded)). P event (option_copied m)) (sym is)
    (subst (λ ev. P ev (Some l.now)) (sym (load_of numbered.0 event l.now (subst (λ (m : Option (Bor Loaded)). IsNumbered numbered.0 event (option_copied m)) is numbered.1)))
    (each (numbered.0 + 1)))
