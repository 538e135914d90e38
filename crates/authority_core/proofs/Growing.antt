-- What an authority keeps after one more entry.
use Rattle.std.proofs.Common.{◌≡◌, ℕ, ◌+◌, ◌≤◌, ◌^◌, Bool, true, false, List, [], ◌∷◌, ◌++◌, refl, ap, sym, ◌∙◌, subst, add-zero, length, arith}
use Rattle.std.specs.Prelude.{◌<◌, ◌||◌, nat_le}
use Rattle.std.proofs.lemmas.List.{length-append}
use Rattle.std.proofs.lemmas.Bool.Decides.{nat_tests}
use Rattle.std.proofs.lemmas.List.Sums.{sum_by-cons}
use Rattle.authority_model.specs.declared.event.Event.{Event}
use Rattle.authority_model.specs.declared.event.Event.TheVariants.{Connect, Call as Called, Returned, AgentError, Passed, Depart, Load, LoadFailed, Stop, Collect}
use Rattle.authority_model.specs.declared.journal.Entry.{Entry}
use Rattle.authority_model.specs.declared.journal.History.{History}
use Rattle.authority_model.specs.declared.journal.Item.{Item}
use Rattle.authority_model.specs.declared.journal.Limits.{Limits}
use Rattle.authority_model.specs.declared.load.Loaded.{Loaded}
use Rattle.authority_model.specs.Items.{items_of, is_load}
use Rattle.authority_model.specs.Answers.{loads}
use Rattle.authority_model.specs.Costs.{cost_of_entry, cost_of_load}
use Rattle.authority_model.specs.Legal.{Legal}
use Rattle.authority_model.specs.Entering.{cost_of_item, counted_bytes, is_full}
use Rattle.authority_model.specs.Given.{Given, IsProper, IsProperEvent, event_given, load_given, next, Grows}
use Rattle.authority_model.proofs.Pairing.{length_items, items_other, items_load, load_count, count_one}
use Rattle.authority_desk.specs.Seen.{DeskSeen, IsDeskFor}
use Rattle.authority_laws.proofs.OneHistory.{follows}
use Rattle.authority_core.specs.Entered.{IsEntered}
use Rattle.authority_core.specs.Journal.{Journal}
use Rattle.authority_core.specs.Kept.{IsKept}
use Rattle.authority_core.specs.Refusals.{IsFullAt}

-- what is handed in as an event is not a load
other : (g : Given) (event : Event) → IsProperEvent g event → is_load event ≡ false
other g (Load load) proper = absurd proper
other g (Connect uid) proper = refl
other g (Called serial quiet call) proper = refl
other g (Returned serial) proper = refl
other g (AgentError serial name) proper = refl
other g Passed proper = refl
other g Depart proper = refl
other g (LoadFailed code) proper = refl
other g Stop proper = refl
other g (Collect of) proper = refl

-- one more entry at the end, and how many of the entries are loads
count_end : (es : List Entry) (e : Entry) (b : Bool) → is_load e.event ≡ b → load_count (es ++ e ∷ []) ≡ count_one b (load_count es)
count_end [] e b is = ap (λ b. count_one b 0) is
count_end (x ∷ es) e b is = ap (count_one (is_load x.event)) (count_end es e b is) ∙ swap (is_load x.event) b (load_count es)
  where
    swap : (a b : Bool) (n : ℕ) → count_one a (count_one b n) ≡ count_one b (count_one a n)
    swap true true n = refl
    swap true false n = refl
    swap false true n = refl
    swap false false n = refl

-- one more load in a list
length_end : (ls : List Loaded) (l : Loaded) → length (ls ++ l ∷ []) ≡ length ls + 1
length_end ls l = length-append ls (l ∷ [])

-- the counted bytes after one more item
pub counted_more : (past items : List Item) (g : Given) (cost bytes : ℕ) → items ≡ next past g ∷ past → cost ≡ cost_of_item (next past g) → bytes ≡ counted_bytes past → bytes + cost ≡ counted_bytes items
counted_more past items g cost bytes grows is counted =
    let more = ap counted_bytes grows in
    let first = sum_by-cons cost_of_item (next past g) past in
    omega (arith, more, first, is, counted)

-- what is kept after what was handed in, where the journal has grown by its item, which costs so much
next_kept : (h h' : History) (limits : Limits) (bytes cost : ℕ) (desk desk' : DeskSeen) → IsKept h limits bytes desk → (g : Given) → IsProper g → Grows h h' g → loads (items_of h') ≡ length h'.loads
    → load_count h'.entries ≡ length h'.loads → cost ≡ cost_of_item (next (items_of h) g) → IsDeskFor (next (items_of h) g ∷ items_of h) desk' → IsKept h' limits (bytes + cost) desk'
next_kept h h' limits bytes cost desk desk' kept g proper grows counted each costs stands =
    let past = items_of h in
    record {
      legal = record { items = subst Legal (sym grows) (follows past kept.legal.items g proper, kept.legal.items); loads = counted };
      each_loaded = each;
      desk_is = subst (λ past. IsDeskFor past desk') (sym grows) stands;
      counted = counted_more past (items_of h') g cost bytes grows costs kept.counted;
      allowed = kept.allowed;
    }

-- an event's entry at the end of the journal
module _ (h : History) (caller m salt : ℕ) (event : Event) (es : List Entry) (cost : ℕ) (proper : IsProperEvent (event_given caller m salt event) event)
    (entered : IsEntered (next (items_of h) (event_given caller m salt event)).entry h.entries es cost) where
  pub event_grows : Grows h (record { entries = es; loads = h.loads }) (event_given caller m salt event)
  event_grows = rw entered.entries (items_other h (next (items_of h) (event_given caller m salt event)).entry (other (event_given caller m salt event) event proper))

-- what is kept then, with a desk of the history that ends with it
pub event_kept : (h : History) (limits : Limits) (bytes : ℕ) (desk desk' : DeskSeen) → IsKept h limits bytes desk → (caller m salt : ℕ) (event : Event) (es : List Entry) (cost : ℕ)
    → IsProperEvent (event_given caller m salt event) event → m ≤ 2 ^ 62 → IsEntered (next (items_of h) (event_given caller m salt event)).entry h.entries es cost
    → IsDeskFor (next (items_of h) (event_given caller m salt event) ∷ items_of h) desk' → IsKept (record { entries = es; loads = h.loads }) limits (bytes + cost) desk'
event_kept h limits bytes desk desk' kept caller m salt event es cost proper bounded entered stands =
    let item : Item = next (items_of h) (event_given caller m salt event) in
    let grows = event_grows h caller m salt event es cost proper entered in
    next_kept h (record { entries = es; loads = h.loads }) limits bytes cost desk desk' kept (event_given caller m salt event) (bounded, proper) grows
    (ap loads grows ∙ omega (arith, kept.legal.loads))
    (ap load_count entered.entries ∙ count_end h.entries item.entry false (other (event_given caller m salt event) event proper) ∙ kept.each_loaded)
    (entered.cost_is ∙ sym (add-zero (cost_of_entry item.entry)))
    stands

-- a load's entry at the end of the journal, with the load
pub load_grows : (h h' : History) (caller m : ℕ) (l : Loaded) (cost : ℕ) → load_count h.entries ≡ length h.loads
    → IsEntered (next (items_of h) (load_given caller m l)).entry h.entries h'.entries cost → h'.loads ≡ h.loads ++ l ∷ [] → Grows h h' (load_given caller m l)
load_grows h h' caller m l cost each entered loaded =
    ap (λ (es : List Entry). items_of (record { entries = es; loads = h'.loads })) entered.entries
    ∙ ap (λ ls. items_of (record { entries = h.entries ++ (next (items_of h) (load_given caller m l)).entry ∷ []; loads = ls })) loaded
    ∙ items_load h (next (items_of h) (load_given caller m l)).entry l refl each

-- what is kept then, with a desk of the history that ends with it
pub load_kept : (h h' : History) (limits : Limits) (bytes : ℕ) (desk desk' : DeskSeen) → IsKept h limits bytes desk → (caller m : ℕ) (l : Loaded) (cost cost' : ℕ) → m ≤ 2 ^ 62
    → IsEntered (next (items_of h) (load_given caller m l)).entry h.entries h'.entries cost → h'.loads ≡ h.loads ++ l ∷ [] → cost' ≡ cost_of_load l
    → IsDeskFor (next (items_of h) (load_given caller m l) ∷ items_of h) desk' → IsKept h' limits (bytes + (cost + cost')) desk'
load_kept h h' limits bytes desk desk' kept caller m l cost cost' bounded entered loaded load_costs stands =
    let item : Item = next (items_of h) (load_given caller m l) in
    let grows = load_grows h h' caller m l cost kept.each_loaded entered loaded in
    let longer : length h'.loads ≡ length h.loads + 1 = ap length loaded ∙ length_end h.loads l in
    let own = entered.cost_is in
    next_kept h h' limits bytes (cost + cost') desk desk' kept (load_given caller m l) (bounded, tt) grows
    (ap loads grows ∙ omega (arith, kept.legal.loads, longer))
    (ap load_count entered.entries ∙ count_end h.entries item.entry true refl ∙ omega (arith, kept.each_loaded, longer))
    (omega (arith, own, load_costs))
    stands

-- a journal is full by its entries
pub full_then : (limits : Limits) (h : History) (journal : Journal) (n : ℕ) → record { history = h; limits = limits } ≡ journal → n ≡ length h.entries → limits.entries ≤ n
    → nat_le limits.entries n ≡ is_full journal.limits (items_of journal.history)
full_then limits h journal n seen entries many =
    let test : nat_le limits.entries n ≡ true = grind (arith, nat_tests) in
    subst (λ (j : Journal). nat_le limits.entries n ≡ is_full j.limits (items_of j.history)) seen
    (test ∙ sym (ap (λ b. b || nat_le limits.bytes (counted_bytes (items_of h))) (ap (nat_le limits.entries) (length_items h ∙ sym entries) ∙ test)))

-- a journal is full by its bytes, or not at all
pub full_else : (limits : Limits) (h : History) (bytes : ℕ) (journal : Journal) (n : ℕ) → record { history = h; limits = limits } ≡ journal → n ≡ length h.entries → bytes ≡ counted_bytes (items_of h)
    → n < limits.entries → nat_le limits.bytes bytes ≡ is_full journal.limits (items_of journal.history)
full_else limits h bytes journal n seen entries counted few =
    let test : nat_le limits.entries n ≡ false = grind (arith, nat_tests) in
    subst (λ (j : Journal). nat_le limits.bytes bytes ≡ is_full j.limits (items_of j.history)) seen
    (ap (nat_le limits.bytes) counted ∙ sym (ap (λ b. b || nat_le limits.bytes (counted_bytes (items_of h))) (ap (nat_le limits.entries) (length_items h ∙ sym entries) ∙ test)))

-- a journal that is full has these numbers
pub full_at : (limits : Limits) (h : History) (bytes : ℕ) (journal : Journal) (n : ℕ) → record { history = h; limits = limits } ≡ journal → n ≡ length h.entries → bytes ≡ counted_bytes (items_of h)
    → is_full journal.limits (items_of journal.history) ≡ true → IsFullAt journal n bytes
full_at limits h bytes journal n seen entries counted full = record {
  full = full;
  entries_are = entries ∙ sym (length_items h) ∙ ap (λ (j : Journal). length (items_of j.history)) seen;
  bytes_are = counted ∙ ap (λ (j : Journal). counted_bytes (items_of j.history)) seen;
}

-- a journal that is not full has fewer bytes than its limit
pub bytes_below : (limits : Limits) (h : History) (bytes : ℕ) (journal : Journal) → record { history = h; limits = limits } ≡ journal → bytes ≡ counted_bytes (items_of h) → is_full journal.limits (items_of journal.history) ≡ false → bytes < limits.bytes
bytes_below limits h bytes journal seen counted room =
    let here : is_full limits (items_of h) ≡ false = subst (λ (j : Journal). is_full j.limits (items_of j.history) ≡ false) (sym seen) room in
    let test : nat_le limits.bytes bytes ≡ false = ap (nat_le limits.bytes) counted ∙ second (nat_le limits.entries (length (items_of h))) (nat_le limits.bytes (counted_bytes (items_of h))) here in
    grind (arith, nat_tests)
  where
    second : (a b : Bool) → (a || b) ≡ false → b ≡ false
    second true b is = absurd (cc)
    second false b is = is
