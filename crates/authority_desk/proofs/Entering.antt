-- All that a desk tells after an entry is what it is to tell of the history with its item.
use Rattle.std.proofs.Common.{◌≡◌, ◌<◌, ◌^◌, List, ◌∷◌, ap, sym, ◌∙◌, subst, Option, arith}
use Rattle.std.specs.Option.{option_map_or}
use Rattle.authority_model.specs.declared.journal.Entry.{Entry}
use Rattle.authority_model.specs.declared.journal.Item.{Item}
use Rattle.authority_model.specs.declared.load.Loaded.{Loaded}
use Rattle.authority_model.specs.declared.world.World.{World}
use Rattle.authority_model.specs.Items.{loaded_of}
use Rattle.authority_model.specs.Small.{IsShort}
use Rattle.entry_changes.specs.declared.change.EntryChange.{EntryChange}
use Rattle.authority_desk.specs.declared.tables.Tables.{Tables}
use Rattle.authority_desk.specs.Numbers.{numbers_after, numbers_of}
use Rattle.authority_desk.specs.Seen.{DeskSeen, IsDeskFor, IsNext, IsNextOf, StandsForOne}
use Rattle.authority_desk.specs.Stored.{AreReadyFor, AreStaged, AreTablesOf, Told, change_of, told}
use Rattle.authority_desk.proofs.Counting.{numbers_next}

-- the load in force after an entry with this load, or with none
abbrev pub in_force_after : Option Loaded → Loaded → Loaded
in_force_after loaded before = option_map_or (λ l. l) loaded before

-- what the tables of a desk tell
abbrev pub told_by : DeskSeen → Told
told_by d = record { peers = d.peers; agents = d.agents; grants = d.grants; challenges = d.challenges }

module _ (e : Entry) (loaded : Option Loaded) (change : EntryChange) (old : DeskSeen) (past : List Item) (i : Item) (next : IsNextOf e loaded change old past i) where
  -- the load in force after the entry
  pub loaded_next : in_force_after loaded old.loaded ≡ loaded_of (i ∷ past)
  loaded_next = ap (λ l. in_force_after l old.loaded) (sym next.loaded_is) ∙ ap (in_force_after i.loaded) next.desk_is.loaded_is

  -- tables in which the change of the entry is staged are ready for it
  pub ready_next : (t : Tables) (world : World) → world ≡ (in_force_after loaded old.loaded).world → told t ≡ told_by old → old.peers.entries < 2 ^ 62 → AreStaged e change t → AreReadyFor e world t past i
  ready_next t world of same short staged = record {
    entry_is = next.entry_is;
    world_is = of ∙ ap (λ (l : Loaded). l.world) loaded_next;
    legal = next.legal;
    short = let entries = next.desk_is.peers_are.entries_are in omega (arith, short, entries);
    tables_are = subst (AreTablesOf past) (sym same) (record { peers_are = next.desk_is.peers_are; agents_are = next.desk_is.agents_are; grants_are = next.desk_is.grants_are; challenges_are = next.desk_is.challenges_are });
    staged = subst (λ ch. AreStaged e ch t) next.change_is staged;
  }

  -- the desk after the entry stands for the longer history, where its tables do
  pub desk_next : (new : DeskSeen) → AreTablesOf (i ∷ past) (told_by new) → new.loaded ≡ in_force_after loaded old.loaded → new.numbers ≡ numbers_after e change old.numbers → IsDeskFor (i ∷ past) new
  desk_next new tables load counted = record {
    peers_are = tables.peers_are;
    agents_are = tables.agents_are;
    grants_are = tables.grants_are;
    challenges_are = tables.challenges_are;
    loaded_is = load ∙ loaded_next;
    numbers_are = counted
        ∙ ap (numbers_after e change) next.desk_is.numbers_are
        ∙ ap (λ ch. numbers_after e ch (numbers_of past)) next.change_is
        ∙ ap (λ (x : Entry). numbers_after x (change_of past i) (numbers_of past)) (sym next.entry_is)
        ∙ numbers_next past i next.legal;
  }

-- a desk with an entry more stands for one history
pub one_next : (e : Entry) (loaded : Option Loaded) (change : EntryChange) (old was new : DeskSeen) → old ≡ was → IsNext e loaded change was → ((past : List Item) (i : Item) → IsNextOf e loaded change old past i → IsDeskFor (i ∷ past) new)
    → IsShort new.loaded.policy.actions → IsShort new.loaded.policy.entries → StandsForOne new
one_next e loaded change old was new same one stands actions rules = record {
  past = one.item ∷ one.past;
  legal = one.next.legal;
  is = stands one.past one.item (subst (λ d. IsNextOf e loaded change d one.past one.item) (sym same) one.next);
  actions = actions;
  rules = rules;
}
