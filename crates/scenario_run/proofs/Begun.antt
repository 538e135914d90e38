-- The first load of a scenario, and the last entry of a journal that is kept whole.
use Rattle.std.proofs.Common.{◌≡◌, ◌<◌, ◌+◌, ◌-◌, ◌==◌, false, slice_get, [], ◌∷◌, ℕ, List, Option, Some, refl, sym, ◌∙◌, ap, subst, length, get_or, arith}
use Rattle.std.proofs.lemmas.Bool.Decides.{nat_tests}
use Rattle.std.proofs.lemmas.List.{get_or_default}
use Rattle.std.proofs.lemmas.Option.{get_or_from_slice_get}
use Rattle.authority_model.specs.declared.journal.Entry.{Entry}
use Rattle.authority_model.specs.declared.journal.History.{History}
use Rattle.authority_model.specs.declared.journal.Item.{Item}
use Rattle.authority_model.specs.declared.load.Loaded.{Loaded}
use Rattle.authority_model.specs.Items.{items_of, before}
use Rattle.authority_model.proofs.Pairing.{before_next, before_end}
use Rattle.scenario_run.specs.Journals.{is_first}
use Rattle.scenario_run.specs.Room.{Keeping}
use Rattle.scenario_run.specs.Scene.{Scene, first_load}
use Rattle.scenario_run.specs.Text.{last_outputs}
use Rattle.scenario_run.proofs.Entering.{seen}

-- the newest item is that of the last entry
pub last_item : (h : History) (e : Entry) → 0 < length h.entries → e ≡ get_or h.entries (length h.entries - 1) e
    → (o : Option Loaded) × (items_of h ≡ record { entry = e; loaded = o } ∷ before h (length h.entries - 1))
last_item h e some is =
    let b = before_next h (length h.entries - 1) e (omega (arith, some)) is in
    (b.0, sym (before_end h (length h.entries - 1 + 1) (omega (arith, some))) ∙ b.1)

some_got : (es : List Entry) (e : Entry) → slice_get es (length es - 1) ≡ Some e → 0 < length es
some_got [] e got = absurd (cc)
some_got (x ∷ es) e got = omega arith

pub last_is : (h : History) (e : Entry) (entries : List Entry) → entries ≡ h.entries → Some e ≡ slice_get entries (length entries - 1) → e.outputs ≡ last_outputs (items_of h)
last_is h e entries same got =
    let found : slice_get h.entries (length h.entries - 1) ≡ Some e = ap (λ (es : List Entry). slice_get es (length es - 1)) (sym same) ∙ sym got in
    let p = last_item h e (some_got h.entries e found) (sym (get_or_from_slice_get h.entries (length h.entries - 1) e e found)) in sym (ap last_outputs p.1)

-- a history without an entry has no item, and any other has one
first_item : (items : List Item) (i : Item) (rest : List Item) → items ≡ i ∷ rest → is_first items ≡ false
first_item items i rest e = ap is_first e

pub first_of : (h : History) (es : List Entry) → es ≡ h.entries → (length es == 0) ≡ is_first (items_of h)
first_of h [] e = ap (λ (x : List Entry). is_first (items_of (record { entries = x; loads = h.loads }))) e
first_of h (x ∷ es) e =
    let some : 0 < length h.entries = subst (λ (ys : List Entry). 0 < length ys) e (omega arith) in
    let below : length h.entries - 1 < length h.entries = omega (arith, some) in
    let p = last_item h (get_or h.entries (length h.entries - 1) x) some (get_or_default h.entries (length h.entries - 1) x (get_or h.entries (length h.entries - 1) x) below) in
    let many : (length (x ∷ es) == 0) ≡ false = grind (arith, nat_tests) in
    many ∙ sym (first_item (items_of h) _ _ p.1)

-- where there is an item, nothing is loaded
none_to_load : (s : Scene) (past : List Item) → false ≡ is_first past → first_load s past ≡ []
none_to_load s [] e = absurd (cc)
none_to_load s (i ∷ past) e = refl

-- after an entry nothing is loaded
pub begun_before : (s : Scene) (keeping : Keeping) (draft : Loaded) (moment : ℕ) (past : List Item) → seen keeping draft moment past ≡ s → false ≡ is_first past → first_load s s.past ≡ []
begun_before s keeping draft moment past is some = subst (λ (t : Scene). first_load t t.past ≡ []) is (none_to_load (seen keeping draft moment past) past some)
