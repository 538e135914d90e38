-- What a desk is handed in makes the next item of each history that it stands for.
use Rattle.std.proofs.Common.{◌≡◌, ℕ, ◌+◌, ◌≤◌, ◌^◌, max, List, refl, ap, sym, ◌∙◌, subst, Some, None}
use Rattle.authority_model.specs.declared.event.Event.{Event}
use Rattle.authority_model.specs.declared.event.Event.TheVariants.{Load, Collect}
use Rattle.authority_model.specs.declared.journal.Entry.{Entry}
use Rattle.authority_model.specs.declared.journal.Item.{Item}
use Rattle.authority_model.specs.declared.load.Loaded.{Loaded}
use Rattle.authority_model.specs.declared.message.Output.{Output}
use Rattle.authority_model.specs.declared.world.World.{World}
use Rattle.authority_model.specs.Answers.{answers, loads}
use Rattle.authority_model.specs.Given.{Given, IsProperEvent, IsStepped, event_given, load_given, next}
use Rattle.authority_model.specs.Legal.{Legal, last_moment}
use Rattle.journal_view.specs.Seen.{IsSeenOf}
use Rattle.entry_changes.specs.declared.change.EntryChange.{EntryChange}
use Rattle.entry_changes.specs.Changes.{entry_change}
use Rattle.authority_desk.specs.declared.numbers.DeskNumbers.{DeskNumbers}
use Rattle.authority_desk.specs.Seen.{DeskSeen, IsDeskFor, IsNextOf, seen_of}
use Rattle.authority_laws.proofs.OneHistory.{follows}
use Rattle.authority_desk.proofs.Viewing.{seen_is}

-- what a step takes is properly handed in
pub stepped_proper : (g : Given) (event : Event) → IsStepped event → IsProperEvent g event
stepped_proper g (Load load) s = absurd s
stepped_proper g (Collect of) s = absurd s
stepped_proper g event s = tt

-- the entry of these parts
abbrev pub entry_made : ℕ → ℕ → ℕ → Event → List Output → Entry
entry_made caller moment salt event outputs = record { caller = caller; moment = moment; salt = salt; event = event; outputs = outputs }

-- What is looked up of a desk is told by `d`, which is `was`; `t` is the moment of the entry, and it has these outputs and this change.
module _ (d was : DeskSeen) (same : d ≡ was) (caller moment t : ℕ) (later : t ≡ max d.numbers.last_moment moment) (bounded : moment ≤ 2 ^ 62) (outputs : List Output) (change : EntryChange) where
  -- a history that the desk stands for can be looked up
  seen_by : (past : List Item) → IsDeskFor past was → IsSeenOf past (seen_of d)
  seen_by past is = seen_is past d (subst (IsDeskFor past) (sym same) is)

  -- the entry has the greatest moment handed in so far
  moment_is : (past : List Item) → IsDeskFor past was → max (last_moment past) moment ≡ t
  moment_is past is = ap (λ n. max n moment) (sym (ap (λ (x : DeskSeen). x.numbers.last_moment) same ∙ ap (λ (n : DeskNumbers). n.last_moment) is.numbers_are)) ∙ sym later

  -- the entry of an event is that of the next item of each history
  pub event_next : (salt : ℕ) (event : Event) → IsProperEvent (event_given caller moment salt event) event
      → ((past : List Item) → IsSeenOf past (seen_of d) → outputs ≡ answers past caller t salt event None)
      → ((past : List Item) → IsSeenOf past (seen_of d) → change ≡ entry_change past caller t salt event None)
      → (past : List Item) → Legal past → IsDeskFor past was → IsNextOf (entry_made caller t salt event outputs) None change was past (next past (event_given caller moment salt event))
  event_next salt event proper told changed past legal is = record {
    entry_is = ap (λ n. entry_made caller n salt event (answers past caller n salt event None)) (moment_is past is) ∙ ap (entry_made caller t salt event) (sym (told past (seen_by past is)));
    loaded_is = refl;
    change_is = changed past (seen_by past is) ∙ ap (λ n. entry_change past caller n salt event None) (sym (moment_is past is));
    legal = (follows past legal (event_given caller moment salt event) (bounded, proper), legal);
    desk_is = is;
  }

  -- the entry of a load is that of the next item of each history, where it is this load that comes into force, and answered by this world
  pub load_next : (loaded indexed : Loaded) → indexed ≡ loaded → (world : World) → world ≡ indexed.world → (number : ℕ) → number ≡ was.numbers.loads + 1
      → ((past : List Item) (l : Loaded) → IsSeenOf past (seen_of d) → world ≡ l.world → (c m salt n : ℕ) → outputs ≡ answers past c m salt (Load n) (Some l))
      → ((past : List Item) (l : Loaded) → IsSeenOf past (seen_of d) → world ≡ l.world → (c m salt n : ℕ) → change ≡ entry_change past c m salt (Load n) (Some l))
      → (past : List Item) → Legal past → IsDeskFor past was → IsNextOf (entry_made caller t 0 (Load number) outputs) (Some indexed) change was past (next past (load_given caller moment loaded))
  load_next loaded indexed same_load world of number counted told changed past legal is =
      let loads_are : loads past + 1 ≡ number = ap (λ (n : DeskNumbers). n.loads + 1) (sym is.numbers_are) ∙ sym counted in
      let of_loaded : world ≡ loaded.world = of ∙ ap (λ (l : Loaded). l.world) same_load in
      record {
        entry_is = ap (λ n. entry_made caller n 0 (Load (loads past + 1)) (answers past caller n 0 (Load (loads past + 1)) (Some loaded))) (moment_is past is)
            ∙ ap (λ n. entry_made caller t 0 (Load n) (answers past caller t 0 (Load n) (Some loaded))) loads_are
            ∙ ap (entry_made caller t 0 (Load number)) (sym (told past loaded (seen_by past is) of_loaded caller t 0 number));
        loaded_is = ap Some (sym same_load);
        change_is = changed past loaded (seen_by past is) of_loaded caller t 0 number
            ∙ ap (λ n. entry_change past caller t 0 (Load n) (Some loaded)) (sym loads_are)
            ∙ ap (λ n. entry_change past caller n 0 (Load (loads past + 1)) (Some loaded)) (sym (moment_is past is));
        legal = (follows past legal (load_given caller moment loaded) (bounded, tt), legal);
        desk_is = is;
      }
