-- A legal history is the items of exactly one journal.
use Rattle.std.proofs.Common.{◌≡◌, ℕ, Bool, true, false, List, [], ◌∷◌, ◌++◌, refl, ap, sym, ◌∙◌, Option, Some, None, is_some, subst, length, arith}
use Rattle.std.proofs.lemmas.List.{reverse-append, reverse-reverse}
use Rattle.std.specs.Prelude.{map, option_to_list, reverse}
use Rattle.authority_model.specs.declared.event.Event.{Event}
use Rattle.authority_model.specs.declared.event.Event.TheVariants.{Connect, Call as Called, Returned, AgentError, Passed, Depart, Load, LoadFailed, Stop, Collect}
use Rattle.authority_model.specs.declared.journal.Entry.{Entry}
use Rattle.authority_model.specs.declared.journal.History.{History}
use Rattle.authority_model.specs.declared.journal.Item.{Item}
use Rattle.authority_model.specs.declared.load.Loaded.{Loaded}
use Rattle.authority_model.specs.Lists.{Each}
use Rattle.authority_model.specs.Items.{is_load, items_of, pair_up, paired}
use Rattle.authority_model.specs.Answers.{loads}
use Rattle.authority_model.specs.Legal.{IsLegal, IsNumbered, Legal}
use Rattle.authority_model.proofs.Cases.{Each-append}
use Rattle.authority_model.proofs.LastLoad.{loads-reverse}

-- the loads of items, in their order
abbrev values_in : List Item → List Loaded
values_in [] = []
values_in (i ∷ items) = option_to_list i.loaded ++ values_in items

-- an item has a value exactly where it is a load
abbrev IsPaired : Item → Type 0
IsPaired i = is_some i.loaded ≡ is_load i.entry.event

-- paired entries are the entries
paired_entries : (es : List Entry) (ls : List Loaded) → map (λ i. i.entry) (paired es ls) ≡ es
paired_entries [] ls = refl
paired_entries (e ∷ es) ls = go (is_load e.event) ls (λ ls. paired_entries es ls)
  where
    go : (b : Bool) (ls : List Loaded) → ((ls : List Loaded) → map (λ i. i.entry) (paired es ls) ≡ es) → map (λ i. i.entry) (pair_up e b ls (paired es)) ≡ e ∷ es
    go false ls ih = ap (λ r. e ∷ r) (ih ls)
    go true [] ih = ap (λ r. e ∷ r) (ih [])
    go true (l ∷ ls) ih = ap (λ r. e ∷ r) (ih ls)

-- and have all loads, where there are as many
paired_values : (es : List Entry) (ls : List Loaded) → loads (paired es ls) ≡ length ls → values_in (paired es ls) ≡ ls
paired_values [] [] n = refl
paired_values [] (l ∷ ls) n = absurd (omega arith)
paired_values (e ∷ es) ls n = go (is_load e.event) ls n (λ ls. paired_values es ls)
  where
    go : (b : Bool) (ls : List Loaded) → loads (pair_up e b ls (paired es)) ≡ length ls → ((ls : List Loaded) → loads (paired es ls) ≡ length ls → values_in (paired es ls) ≡ ls) → values_in (pair_up e b ls (paired es)) ≡ ls
    go false ls n ih = ih ls (omega (arith, n))
    go true [] n ih = ih [] (omega (arith, n))
    go true (l ∷ ls) n ih = ap (λ r. l ∷ r) (ih ls (omega (arith, n)))

-- two legal journals of the same items are one
pub items_once : (h h' : History) → IsLegal h → IsLegal h' → items_of h ≡ items_of h' → h ≡ h'
items_once h h' legal legal' e =
    let same : paired h.entries h.loads ≡ paired h'.entries h'.loads = sym (reverse-reverse (paired h.entries h.loads)) ∙ ap reverse e ∙ reverse-reverse (paired h'.entries h'.loads) in
    let entries : h.entries ≡ h'.entries = sym (paired_entries h.entries h.loads) ∙ ap (map (λ (i : Item). i.entry)) same ∙ paired_entries h'.entries h'.loads in
    let values : h.loads ≡ h'.loads = sym (paired_values h.entries h.loads (sym (loads-reverse (paired h.entries h.loads)) ∙ legal.loads)) ∙ ap values_in same ∙ paired_values h'.entries h'.loads (sym (loads-reverse (paired h'.entries h'.loads)) ∙ legal'.loads) in
    ap (λ es. record { entries = es; loads = h.loads }) entries ∙ ap (λ ls. record { entries = h'.entries; loads = ls }) values

-- items are what their entries and loads are paired to
paired_back : (items : List Item) → Each IsPaired items → paired (map (λ i. i.entry) items) (values_in items) ≡ items
paired_back [] h = refl
paired_back (i ∷ items) h = go (is_load i.entry.event) i.loaded h.0 (paired_back items h.1)
  where
    go : (b : Bool) (o : Option Loaded) → is_some o ≡ b → paired (map (λ i. i.entry) items) (values_in items) ≡ items → pair_up i.entry b (option_to_list o ++ values_in items) (paired (map (λ i. i.entry) items)) ≡ record { entry = i.entry; loaded = o } ∷ items
    go false None e ih = ap (λ r. record { entry = i.entry; loaded = None } ∷ r) ih
    go true (Some l) e ih = ap (λ r. record { entry = i.entry; loaded = Some l } ∷ r) ih
    go true None e ih = absurd (cc)
    go false (Some l) e ih = absurd (cc)

-- what is numbered has a value exactly where it is a load
numbered_paired : (n : ℕ) (event : Event) (o : Option Loaded) → IsNumbered n event o → is_some o ≡ is_load event
numbered_paired n (Load load) (Some l) h = refl
numbered_paired n (Load load) None h = absurd h
numbered_paired n (Connect uid) o h = ap is_some h
numbered_paired n (Called serial quiet call) o h = ap is_some h
numbered_paired n (Returned s) o h = ap is_some h
numbered_paired n (AgentError s name) o h = ap is_some h
numbered_paired n Passed o h = ap is_some h
numbered_paired n Depart o h = ap is_some h
numbered_paired n (LoadFailed code) o h = ap is_some h
numbered_paired n Stop o h = ap is_some h
numbered_paired n (Collect other) o h = ap is_some h

all_paired : (past : List Item) → Legal past → Each IsPaired past
all_paired [] legal = tt
all_paired (i ∷ past) legal = (numbered_paired (loads past) i.entry.event i.loaded legal.0.numbered, all_paired past legal.1)

each_reverse : (P : Item → Type 0) (xs : List Item) → Each P xs → Each P (reverse xs)
each_reverse P [] h = tt
each_reverse P (x ∷ xs) h = subst (Each P) (sym (reverse-append (x ∷ []) xs)) (Each-append P (reverse xs) (x ∷ []) (each_reverse P xs h.1) (h.0, tt))

values_count : (items : List Item) → loads items ≡ length (values_in items)
values_count [] = refl
values_count (i ∷ items) = go i.loaded (values_count items)
  where
    go : (o : Option Loaded) → loads items ≡ length (values_in items) → loads (record { entry = i.entry; loaded = o } ∷ items) ≡ length (option_to_list o ++ values_in items)
    go None ih = omega (arith, ih)
    go (Some l) ih = omega (arith, ih)

-- each legal history is the items of a legal journal
pub journal_of : (past : List Item) → Legal past → (h : History) × IsLegal h × (items_of h ≡ past)
journal_of past legal =
    let h : History = record { entries = map (λ i. i.entry) (reverse past); loads = values_in (reverse past) } in
    let back : items_of h ≡ past = ap reverse (paired_back (reverse past) (each_reverse IsPaired past (all_paired past legal))) ∙ reverse-reverse past in
    (h, record { items = subst Legal (sym back) legal; loads = ap loads back ∙ sym (loads-reverse past) ∙ values_count (reverse past) }, back)
