-- The items of a history that grows.
use Rattle.std.proofs.Common.{zero, take, get_or, ◌<◌, ◌≤◌, add-one, ◌≡◌, ℕ, suc, ◌+◌, Bool, true, false, List, [], ◌∷◌, ◌++◌, refl, ap, sym, ◌∙◌, Option, Some, None, length, arith}
use Rattle.std.specs.Prelude.{reverse}
use Rattle.std.proofs.Math.Seq.{take-nil}
use Rattle.std.proofs.lemmas.List.{reverse-append, length-reverse}
use Rattle.authority_model.specs.declared.journal.Entry.{Entry}
use Rattle.authority_model.specs.declared.journal.History.{History}
use Rattle.authority_model.specs.declared.load.Loaded.{Loaded}
use Rattle.authority_model.specs.Items.{Item, paired, pair_up, is_load, items_of, before}

abbrev pub count_one : Bool → ℕ → ℕ
count_one true n = suc n
count_one false n = n

-- how many of the entries are loads
abbrev pub load_count : List Entry → ℕ
load_count [] = 0
load_count (e ∷ es) = count_one (is_load e.event) (load_count es)

-- an entry that is no load goes last with no value
pub paired_other : (es : List Entry) (ls : List Loaded) (e : Entry) → is_load e.event ≡ false → paired (es ++ e ∷ []) ls ≡ paired es ls ++ record { entry = e; loaded = None } ∷ []
paired_other [] ls e is = ap (λ b. pair_up e b ls (paired [])) is
paired_other (x ∷ es) ls e is = go (is_load x.event) ls (λ ls. paired_other es ls e is)
  where
    go : (b : Bool) (ls : List Loaded) → ((ls : List Loaded) → paired (es ++ e ∷ []) ls ≡ paired es ls ++ record { entry = e; loaded = None } ∷ []) → pair_up x b ls (paired (es ++ e ∷ [])) ≡ pair_up x b ls (paired es) ++ record { entry = e; loaded = None } ∷ []
    go false ls ih = ap (λ r. record { entry = x; loaded = None } ∷ r) (ih ls)
    go true [] ih = ap (λ r. record { entry = x; loaded = None } ∷ r) (ih [])
    go true (l ∷ ls) ih = ap (λ r. record { entry = x; loaded = Some l } ∷ r) (ih ls)

-- a load goes last with the last value, where there are as many values as loads
pub paired_load : (es : List Entry) (ls : List Loaded) (e : Entry) (l : Loaded) → is_load e.event ≡ true → load_count es ≡ length ls → paired (es ++ e ∷ []) (ls ++ l ∷ []) ≡ paired es ls ++ record { entry = e; loaded = Some l } ∷ []
paired_load [] [] e l is n = ap (λ b. pair_up e b (l ∷ []) (paired [])) is
paired_load [] (x ∷ ls) e l is n = absurd (cc)
paired_load (x ∷ es) ls e l is n = go (is_load x.event) ls n (λ ls. paired_load es ls e l is)
  where
    go : (b : Bool) (ls : List Loaded) → count_one b (load_count es) ≡ length ls → ((ls : List Loaded) → load_count es ≡ length ls → paired (es ++ e ∷ []) (ls ++ l ∷ []) ≡ paired es ls ++ record { entry = e; loaded = Some l } ∷ []) → pair_up x b (ls ++ l ∷ []) (paired (es ++ e ∷ [])) ≡ pair_up x b ls (paired es) ++ record { entry = e; loaded = Some l } ∷ []
    go false ls n ih = ap (λ r. record { entry = x; loaded = None } ∷ r) (ih ls n)
    go true [] n ih = absurd (omega arith)
    go true (y ∷ ls) n ih = ap (λ r. record { entry = x; loaded = Some y } ∷ r) (ih ls (omega arith))

-- a history after one more entry that is no load
pub items_other : (h : History) (e : Entry) → is_load e.event ≡ false → items_of (record { entries = h.entries ++ e ∷ []; loads = h.loads }) ≡ record { entry = e; loaded = None } ∷ items_of h
items_other h e is = ap reverse (paired_other h.entries h.loads e is) ∙ reverse-append (paired h.entries h.loads) (record { entry = e; loaded = None } ∷ [])

-- a history after one more load
pub items_load : (h : History) (e : Entry) (l : Loaded) → is_load e.event ≡ true → load_count h.entries ≡ length h.loads → items_of (record { entries = h.entries ++ e ∷ []; loads = h.loads ++ l ∷ [] }) ≡ record { entry = e; loaded = Some l } ∷ items_of h
items_load h e l is n = ap reverse (paired_load h.entries h.loads e l is n) ∙ reverse-append (paired h.entries h.loads) (record { entry = e; loaded = Some l } ∷ [])

-- one more of the first items is the next entry, with its load
item_next : (es : List Entry) (ls : List Loaded) (k : ℕ) (d : Entry) → k < length es → (o : Option Loaded) × (take (suc k) (paired es ls) ≡ take k (paired es ls) ++ record { entry = get_or es k d; loaded = o } ∷ [])
item_next [] ls k d h = absurd (omega arith)
item_next (x ∷ es) ls zero d h = go (is_load x.event) ls
  where
    go : (b : Bool) (ls : List Loaded) → (o : Option Loaded) × (take 1 (pair_up x b ls (paired es)) ≡ record { entry = x; loaded = o } ∷ [])
    go false ls = (None, refl)
    go true [] = (None, refl)
    go true (l ∷ ls) = (Some l, refl)
item_next (x ∷ es) ls (suc k) d h = go (is_load x.event) ls (λ ls. item_next es ls k d (omega arith))
  where
    go : (b : Bool) (ls : List Loaded) → ((ls : List Loaded) → (o : Option Loaded) × (take (suc k) (paired es ls) ≡ take k (paired es ls) ++ record { entry = get_or es k d; loaded = o } ∷ [])) → (o : Option Loaded) × (take (suc (suc k)) (pair_up x b ls (paired es)) ≡ take (suc k) (pair_up x b ls (paired es)) ++ record { entry = get_or es k d; loaded = o } ∷ [])
    go false ls ih = let r = ih ls in (r.0, ap (λ xs. record { entry = x; loaded = None } ∷ xs) r.1)
    go true [] ih = let r = ih [] in (r.0, ap (λ xs. record { entry = x; loaded = None } ∷ xs) r.1)
    go true (l ∷ ls) ih = let r = ih ls in (r.0, ap (λ xs. record { entry = x; loaded = Some l } ∷ xs) r.1)

-- the history before the next entry, and with it
pub before_next : (h : History) (k : ℕ) (e : Entry) → k < length h.entries → e ≡ get_or h.entries k e → (o : Option Loaded) × (before h (k + 1) ≡ record { entry = e; loaded = o } ∷ before h k)
before_next h k e lt is =
    let r = item_next h.entries h.loads k e lt in
    let step : before h (suc k) ≡ record { entry = get_or h.entries k e; loaded = r.0 } ∷ before h k = ap reverse r.1 ∙ reverse-append (take k (paired h.entries h.loads)) (record { entry = get_or h.entries k e; loaded = r.0 } ∷ []) in
    (r.0, rw add-one (step ∙ ap (λ (x : Entry). record { entry = x; loaded = r.0 } ∷ before h k) (sym is)))

length-paired : (es : List Entry) (ls : List Loaded) → length (paired es ls) ≡ length es
length-paired [] ls = refl
length-paired (x ∷ es) ls = go (is_load x.event) ls (λ ls. length-paired es ls)
  where
    go : (b : Bool) (ls : List Loaded) → ((ls : List Loaded) → length (paired es ls) ≡ length es) → length (pair_up x b ls (paired es)) ≡ suc (length es)
    go false ls ih = ap suc (ih ls)
    go true [] ih = ap suc (ih [])
    go true (l ∷ ls) ih = ap suc (ih ls)

-- a history has as many items as entries
pub length_items : (h : History) → length (items_of h) ≡ length h.entries
length_items h = length-reverse (paired h.entries h.loads) ∙ length-paired h.entries h.loads

-- before the end is the whole history
pub before_end : (h : History) (k : ℕ) → length h.entries ≤ k → before h k ≡ items_of h
before_end h k le = ap reverse (take_all (paired h.entries h.loads) k (omega (arith, length-paired h.entries h.loads)))
  where
    take_all : (xs : List Item) (k : ℕ) → length xs ≤ k → take k xs ≡ xs
    take_all [] k le = take-nil k
    take_all (x ∷ xs) zero le = absurd (omega arith)
    take_all (x ∷ xs) (suc k) le = ap (λ r. x ∷ r) (take_all xs k (omega arith))
