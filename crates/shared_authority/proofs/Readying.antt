-- Which Collect becomes ready by an item, and that the last item of a journal is of its last entry.
use Rattle.std.proofs.Common.{◌≡◌, ℕ, zero, suc, ◌+◌, ◌-◌, ◌<◌, Bool, true, false, ◌&&◌, ◌==◌, if◌then◌else◌, List, [], ◌∷◌, ◌++◌, Some, None, refl, ap, sym, ◌∙◌, ◌⊎◌, inl, inr, ⊎_elim, subst, length, map, get_or, arith}
use Rattle.std.specs.Prelude.{nat_lt, slice_get, is_some}
use Rattle.std.proofs.lemmas.Bool.{or_cases, or_left, or_right}
use Rattle.std.proofs.lemmas.Bool.Decides.{nat_tests}
use Rattle.std.proofs.lemmas.List.{reverse-append, length-append, map-append}
use Rattle.std.proofs.lemmas.Option.{get_or_from_slice_get, slice_get-get_or}
use Rattle.std.proofs.Math.Seq.{get_or-append_seam}
use Rattle.authority_model.specs.declared.journal.Entry.{Entry}
use Rattle.authority_model.specs.declared.journal.History.{History}
use Rattle.authority_model.specs.declared.journal.Item.{Item}
use Rattle.authority_model.specs.declared.load.Loaded.{Loaded}
use Rattle.authority_model.specs.declared.message.Output.{Output}
use Rattle.authority_model.specs.Items.{count_to, sent, is_load, paired, pair_up}
use Rattle.authority_model.specs.Peers.{departed, departs, is_by, is_depart, uid_of}
use Rattle.authority_model.specs.Sent.{is_ready, collected, is_collect_of}
use Rattle.authority_model.proofs.Cases.{both}
use Rattle.authority_laws.specs.Batches.{in_order}
use Rattle.shared_authority.specs.declared.operation.Op.{Op}
use Rattle.shared_authority.specs.declared.operation.Op.TheVariants.{Step, Load, Unlist, Collect}
use Rattle.shared_authority.specs.Machines.{IsReady, awaited}
use Rattle.shared_authority.specs.Journals.{past_of}

-- An item sends something to a connection, or the connection departs by it.
abbrev Concerns : Item → ℕ → Type 0
Concerns i c = (0 < count_to c i.entry.outputs) ⊎ ((is_depart i.entry.event ≡ true) × (i.entry.caller ≡ c))

-- more is left to collect: it was left before, or more was sent
more_left : (took : Bool) (had sent_before more : ℕ) → nat_lt (if took then sent_before else had) (sent_before + more) ≡ true → (nat_lt had sent_before ≡ true) ⊎ (0 < more)
more_left true had sent_before more left = inr (let less : sent_before < sent_before + more = grind (arith, nat_tests) in omega (arith, less))
more_left false had sent_before zero left = inl (let less : had < sent_before + zero = grind (arith, nat_tests) in let before : had < sent_before = omega (arith, less) in grind (arith, nat_tests))
more_left false had sent_before (suc more) left = inr (omega arith)

-- a Collect that an item makes ready is of a connection that the item concerns
pub ready_by : (past : List Item) (i : Item) (n c : ℕ) → is_ready (i ∷ past) n c ≡ true → (is_ready past n c ≡ true) ⊎ Concerns i c
ready_by past i n c ready =
    ⊎_elim
    (λ (left : nat_lt (collected (i ∷ past) n c) (sent (i ∷ past) c) ≡ true).
    ⊎_elim
    (λ (before : nat_lt (collected past n c) (sent past c) ≡ true). inl (or_left (nat_lt (collected past n c) (sent past c)) (departed past c) before))
    (λ (more : 0 < count_to c i.entry.outputs). inr (inl more))
    (more_left (is_by n i && is_collect_of c i.entry.event) (collected past n c) (sent past c) (count_to c i.entry.outputs) left))
    (λ (gone : departed (i ∷ past) c ≡ true).
    ⊎_elim
    (λ (before : departed past c ≡ true). inl (or_right (nat_lt (collected past n c) (sent past c)) (departed past c) before))
    (λ (now : (is_some (uid_of past c) && departs c i) ≡ true). inr (inr (departs_by (both (is_by c i) (is_depart i.entry.event) (both (is_some (uid_of past c)) (departs c i) now).1))))
    (or_cases (departed past c) (is_some (uid_of past c) && departs c i) gone))
    (or_cases (nat_lt (collected (i ∷ past) n c) (sent (i ∷ past) c)) (departed (i ∷ past) c) ready)
  where
    departs_by : (is_by c i ≡ true) × (is_depart i.entry.event ≡ true) → (is_depart i.entry.event ≡ true) × (i.entry.caller ≡ c)
    departs_by (by, depart) = (depart, grind (arith, nat_tests))

-- the first of some outputs goes to a connection, or another does
first_or_rest : (b : Bool) (n : ℕ) → 0 < (if b then 1 else 0) + n → (b ≡ true) ⊎ (0 < n)
first_or_rest true n more = inl refl
first_or_rest false n more = inr (let plain : 0 < 0 + n = more in omega (arith, plain))

first_counts : (b : Bool) (n : ℕ) → b ≡ true → 0 < (if b then 1 else 0) + n
first_counts b n e = subst (λ (x : Bool). 0 < (if x then 1 else 0) + n) (sym e) (let one : 0 < 1 + n = omega arith in one)

-- where one more output stands behind others, one of those goes to a connection, or this one does
pub receives : (c : ℕ) (outputs : List Output) (o : Output) → 0 < count_to c (outputs ++ o ∷ []) → (0 < count_to c outputs) ⊎ (o.to ≡ c)
receives c [] o more = ⊎_elim (λ (same : (o.to == c) ≡ true). inr (grind (arith, nat_tests))) (λ (none : 0 < 0). inl (omega (arith, none))) (first_or_rest (o.to == c) 0 more)
receives c (x ∷ xs) o more =
    ⊎_elim
    (λ (same : (x.to == c) ≡ true). inl (first_counts (x.to == c) (count_to c xs) same))
    (λ (rest : 0 < count_to c (xs ++ o ∷ [])). ⊎_elim (λ (before : 0 < count_to c xs). inl (omega (arith, before))) (λ (is : o.to ≡ c). inr is) (receives c xs o rest))
    (first_or_rest (x.to == c) (count_to c (xs ++ o ∷ [])) more)

-- the entries of items are those that were paired
entries_of_paired : (es : List Entry) (ls : List Loaded) → map (λ (i : Item). i.entry) (paired es ls) ≡ es
entries_of_paired [] ls = refl
entries_of_paired (e ∷ es) ls = go (is_load e.event) ls (λ ls. entries_of_paired es ls)
  where
    go : (b : Bool) (ls : List Loaded) → ((ls : List Loaded) → map (λ (i : Item). i.entry) (paired es ls) ≡ es) → map (λ (i : Item). i.entry) (pair_up e b ls (paired es)) ≡ e ∷ es
    go false ls ih = ap (λ (l : List Entry). e ∷ l) (ih ls)
    go true [] ih = ap (λ (l : List Entry). e ∷ l) (ih [])
    go true (l ∷ ls) ih = ap (λ (l : List Entry). e ∷ l) (ih ls)

-- the entries of a journal that ends with an item end with its entry
entries_end : (h : History) (list : List Item) (i : Item) → in_order h ≡ list ++ i ∷ [] → h.entries ≡ map (λ (i : Item). i.entry) list ++ i.entry ∷ []
entries_end h list i is = sym (entries_of_paired h.entries h.loads) ∙ ap (map (λ (i : Item). i.entry)) is ∙ map-append (λ (i : Item). i.entry) list (i ∷ [])

-- the place of the last of some entries
place_of_last : (entries front : List Entry) (e : Entry) → entries ≡ front ++ e ∷ [] → length entries - 1 ≡ length front
place_of_last entries front e is = let long = ap length is ∙ length-append front (e ∷ []) in omega (arith, long)

-- a journal that ends with an item has a last entry, and it is that of the item
pub last_entry : (h : History) (list : List Item) (i : Item) (e : Entry) → in_order h ≡ list ++ i ∷ [] → slice_get h.entries (length h.entries - 1) ≡ Some e → i.entry ≡ e
last_entry h list i e is last =
    let front = map (λ (i : Item). i.entry) list in
    let ends = entries_end h list i is in
    sym (get_or-append_seam front i.entry [] e)
    ∙ ap (λ (n : ℕ). get_or (front ++ i.entry ∷ []) n e) (sym (place_of_last h.entries front i.entry ends))
    ∙ ap (λ (l : List Entry). get_or l (length h.entries - 1) e) (sym ends)
    ∙ get_or_from_slice_get h.entries (length h.entries - 1) e e last

pub no_last_entry : (h : History) (list : List Item) (i : Item) → in_order h ≡ list ++ i ∷ [] → slice_get h.entries (length h.entries - 1) ≡ None → ⊥
no_last_entry h list i is none =
    let front = map (λ (i : Item). i.entry) list in
    let ends = entries_end h list i is in
    let long = ap length ends ∙ length-append front (i.entry ∷ []) in
    cc (none, slice_get-get_or h.entries (length h.entries - 1) i.entry (omega (arith, long)))

-- an operation that an item makes ready is woken, where all are that wait for a connection which the item concerns
pub ready_or_woken : (Wakes : ℕ → Type 0) (list : List Item) (i : Item) (n : ℕ) (op : Op) → IsReady n op (list ++ i ∷ [])
    → ((c : ℕ) → 0 < count_to c i.entry.outputs → Wakes c) → (is_depart i.entry.event ≡ true → Wakes i.entry.caller) → IsReady n op list ⊎ Wakes (awaited op)
ready_or_woken Wakes list i n (Step moment salt event) ready receivers departed = inl ready
ready_or_woken Wakes list i n (Load moment loaded) ready receivers departed = inl ready
ready_or_woken Wakes list i n (Unlist moment pid start) ready receivers departed = inl ready
ready_or_woken Wakes list i n (Collect of) ready receivers gone =
    ⊎_elim
    (λ (before : is_ready (past_of list) n of ≡ true). inl before)
    (λ (concerns : Concerns i of). inr (⊎_elim (λ (more : 0 < count_to of i.entry.outputs). receivers of more) (λ (departs : (is_depart i.entry.event ≡ true) × (i.entry.caller ≡ of)). subst Wakes departs.1 (gone departs.0)) concerns))
    (ready_by (past_of list) i n of (subst (λ (l : List Item). is_ready l n of ≡ true) (reverse-append list (i ∷ [])) ready))

-- the same, but for those that wait for the item's own caller: the others are woken, where all are that wait for another connection to which the item sends something
pub ready_own_or_woken : (Wakes : ℕ → Type 0) (list : List Item) (i : Item) (n : ℕ) (op : Op) → IsReady n op (list ++ i ∷ [])
    → ((c : ℕ) → ¬ (c ≡ i.entry.caller) → 0 < count_to c i.entry.outputs → Wakes c) → IsReady n op list ⊎ ((awaited op ≡ i.entry.caller) ⊎ Wakes (awaited op))
ready_own_or_woken Wakes list i n op ready receivers = ready_or_woken (λ (c : ℕ). (c ≡ i.entry.caller) ⊎ Wakes c) list i n op ready (λ c more. own_or_other c more (c == i.entry.caller) refl) (λ departs. inl refl)
  where
    own_or_other : (c : ℕ) → 0 < count_to c i.entry.outputs → (own : Bool) → (c == i.entry.caller) ≡ own → (c ≡ i.entry.caller) ⊎ Wakes c
    own_or_other c more true own = inl (grind (arith, nat_tests))
    own_or_other c more false other = inr (receivers c (let no : ¬ (c ≡ i.entry.caller) = grind (arith, nat_tests) in no) more)
