-- When loads come, and the Stop.
use Rattle.std.specs.Prelude.{◌≡◌, ℕ, ◌+◌, ◌==◌, ◌≤◌, Bool, true, false, not, ◌&&◌, if◌then◌else◌, List, [], ◌∷◌, None, count_by}
use Rattle.authority_model.specs.declared.event.Event.{Event}
use Rattle.authority_model.specs.declared.event.Event.TheVariants.{Load, LoadFailed, Stop}
use Rattle.authority_model.specs.declared.journal.Item.{Item}
use Rattle.authority_model.specs.declared.message.Message.{Message}
use Rattle.authority_model.specs.declared.message.Message.TheVariants.{LoadWanted}
use Rattle.authority_model.specs.Items.{is_load}
use Rattle.authority_model.specs.Legal.{last_moment}
use Rattle.authority_model.specs.Lists.{any_of}
use Rattle.journal_scan.specs.declared.lines.ConnectionLine.{ConnectionLine}
use Rattle.journal_scan.specs.Lines.{uid_on}

-- whether an event is a LoadFailed
abbrev pub is_failed_load : Event → Bool
is_failed_load (LoadFailed code) = true
is_failed_load _ = false

-- whether an event ends a load: it is a Load or a LoadFailed
abbrev pub ends_load : Event → Bool
ends_load (Load load) = true
ends_load (LoadFailed code) = true
ends_load _ = false

-- whether an event is a Stop
abbrev pub is_stop : Event → Bool
is_stop Stop = true
is_stop _ = false

-- whether a message is LoadWanted
abbrev pub is_load_wanted : Message → Bool
is_load_wanted LoadWanted = true
is_load_wanted _ = false

-- how many LoadWanted an item sends
abbrev pub wanted_by : Item → ℕ
wanted_by i = count_by (λ o. is_load_wanted o.message) i.entry.outputs

-- whether an item ends a load of the loader, which is caller 0: this answers a LoadWanted, but for the first load
abbrev pub ends_wanted : Item → Bool
ends_wanted i = ends_load i.entry.event && (i.entry.caller == 0)

-- whether an item is a Load by another caller: this answers no LoadWanted
abbrev pub is_unlisting : Item → Bool
is_unlisting i = is_load i.entry.event && not (i.entry.caller == 0)

-- how many Loads and LoadFaileds of the loader there are
abbrev pub loads_ended : List Item → ℕ
loads_ended [] = 0
loads_ended (i ∷ past) = loads_ended past + (if ends_wanted i then 1 else 0)

-- how many LoadWanted were sent
abbrev pub loads_wanted : List Item → ℕ
loads_wanted [] = 0
loads_wanted (i ∷ past) = loads_wanted past + wanted_by i

-- whether there is a Stop
abbrev pub has_stop : List Item → Bool
has_stop past = any_of (λ i. is_stop i.entry.event) past

-- how many LoadWanted were sent before the first Stop
abbrev pub loads_due : List Item → ℕ
loads_due [] = 0
loads_due (i ∷ past) = loads_due past + (if has_stop past then 0 else wanted_by i)

-- An item is the first load: a Load by caller 0 with the moment 0.
pub record IsFirstLoad (i : Item) : Type 0 where
  pub load : is_load i.entry.event ≡ true
  pub caller : i.entry.caller ≡ 0
  pub moment : i.entry.moment ≡ 0

-- An item is due where it stands: the first is the first load; one by a caller without a line has the moment of the one before it; each later Load or LoadFailed of the loader has a LoadWanted of its own before it, the first load and that of a sighter need none; and there is one Stop at most.
pub record IsDue (lines : List ConnectionLine) (past : List Item) (i : Item) : Type 0 where
  pub first : past ≡ [] → IsFirstLoad i
  pub moment : uid_on lines i.entry.caller ≡ None → i.entry.moment ≡ last_moment past
  pub wanted : ends_wanted i ≡ true → loads_ended past ≤ loads_wanted past
  pub stop : is_stop i.entry.event ≡ true → has_stop past ≡ false
