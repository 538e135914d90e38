-- The items of a history have the loads that they name.
use Rattle.std.proofs.Common.{◌≡◌, ℕ, ◌+◌, zero, suc, Bool, true, false, List, [], ◌∷◌, ◌++◌, ◌&&◌, Option, Some, None, refl, ap, sym, ◌∙◌, subst, take, append_assoc, arith}
use Rattle.std.specs.Prelude.{if◌then◌else◌, reverse, slice_get}
use Rattle.std.specs.Option.{option_map_or}
use Rattle.std.proofs.Math.Seq.{take-nil}
use Rattle.std.proofs.lemmas.List.{append-nil, reverse-append}
use Rattle.authority_model.specs.declared.journal.Entry.{Entry}
use Rattle.authority_model.specs.declared.journal.History.{History}
use Rattle.authority_model.specs.declared.journal.Item.{Item}
use Rattle.authority_model.specs.declared.load.Loaded.{Loaded}
use Rattle.authority_model.specs.Items.{before, is_load, loaded_of, pair_up, paired}
use Rattle.journal_scan.specs.Counts.{how_many}
use Rattle.journal_scan.specs.Orderly.{EachItem}
use Rattle.journal_scan.specs.Sightings.{IsSighting, LacksOne}
use Rattle.journal_scan.specs.Standing.{IsPaired}

-- how many loads there are
abbrev count : List Item → ℕ
count past = how_many (λ i. is_load i.entry.event) past

-- the loads that come are those after the ones that the items so far name
abbrev AreNext : List Loaded → List Loaded → ℕ → Type 0
AreNext all ls n = (j : ℕ) → slice_get ls j ≡ slice_get all (n + j)

-- the first item goes last
first_last : (x : Item) (xs acc : List Item) → reverse (x ∷ xs) ++ acc ≡ reverse xs ++ (x ∷ acc)
first_last x xs acc = ap (λ (l : List Item). l ++ acc) (reverse-append (x ∷ []) xs) ∙ append_assoc (reverse xs) (x ∷ []) acc

-- one more item that is no load
other_paired : (all : List Loaded) (past : List Item) (e : Entry) → is_load e.event ≡ false → IsPaired all past (record { entry = e; loaded = None })
other_paired all past e is = ap (λ (b : Bool). if b then slice_get all (count past) else None) (sym is)

-- one more load
load_paired : (all : List Loaded) (past : List Item) (e : Entry) (o : Option Loaded) → is_load e.event ≡ true → o ≡ slice_get all (count past) → IsPaired all past (record { entry = e; loaded = o })
load_paired all past e o is named = named ∙ ap (λ (b : Bool). if b then slice_get all (count past) else None) (sym is)

count_other : (i : Item) (past : List Item) → is_load i.entry.event ≡ false → count (i ∷ past) ≡ count past + 0
count_other i past is = ap (λ (b : Bool). count past + (if b then 1 else 0)) is

count_load : (i : Item) (past : List Item) → is_load i.entry.event ≡ true → count (i ∷ past) ≡ count past + 1
count_load i past is = ap (λ (b : Bool). count past + (if b then 1 else 0)) is

next_other : (all ls : List Loaded) (past : List Item) (e : Entry) (o : Option Loaded) → is_load e.event ≡ false → AreNext all ls (count past) → AreNext all ls (count (record { entry = e; loaded = o } ∷ past))
next_other all ls past e o is next = λ j. next j ∙ ap (slice_get all) (omega (arith, count_other (record { entry = e; loaded = o }) past is))

next_load : (all ls rest : List Loaded) (past : List Item) (e : Entry) (o : Option Loaded) → is_load e.event ≡ true → ((j : ℕ) → slice_get rest j ≡ slice_get ls (suc j)) → AreNext all ls (count past) → AreNext all rest (count (record { entry = e; loaded = o } ∷ past))
next_load all ls rest past e o is left next = λ j. left j ∙ (next (suc j) ∙ ap (slice_get all) (omega (arith, count_load (record { entry = e; loaded = o }) past is)))

-- the loads of the next entry are the first one
first_named : (all ls : List Loaded) (past : List Item) → AreNext all ls (count past) → slice_get ls 0 ≡ slice_get all (count past)
first_named all ls past next = next 0 ∙ ap (slice_get all) (omega arith)

turned : (es : List Entry) (ls all : List Loaded) (k : ℕ) (past : List Item) → AreNext all ls (count past) → EachItem (IsPaired all) past → EachItem (IsPaired all) (reverse (take k (paired es ls)) ++ past)
turned [] ls all k past next each = subst (λ (l : List Item). EachItem (IsPaired all) (reverse l ++ past)) (sym (take-nil k)) each
turned (e ∷ es) ls all zero past next each = each
turned (e ∷ es) ls all (suc k) past next each = go (is_load e.event) refl ls next (λ ls past. turned es ls all k past)
  where
    more : (x : Item) (xs : List Item) → EachItem (IsPaired all) (reverse xs ++ (x ∷ past)) → EachItem (IsPaired all) (reverse (x ∷ xs) ++ past)
    more x xs = subst (EachItem (IsPaired all)) (sym (first_last x xs past))

    go : (b : Bool) → is_load e.event ≡ b → (ls : List Loaded) → AreNext all ls (count past)
        → ((ls : List Loaded) (past : List Item) → AreNext all ls (count past) → EachItem (IsPaired all) past → EachItem (IsPaired all) (reverse (take k (paired es ls)) ++ past))
        → EachItem (IsPaired all) (reverse (take (suc k) (pair_up e b ls (paired es))) ++ past)
    go false is ls next rest = more (record { entry = e; loaded = None }) (take k (paired es ls)) (rest ls _ (next_other all ls past e None is next) (other_paired all past e is, each))
    go true is [] next rest = more (record { entry = e; loaded = None }) (take k (paired es [])) (rest [] _ (next_load all [] [] past e None is (λ j. refl) next) (load_paired all past e None is (first_named all [] past next), each))
    go true is (l ∷ ls) next rest = more (record { entry = e; loaded = Some l }) (take k (paired es ls)) (rest ls _ (next_load all (l ∷ ls) ls past e (Some l) is (λ j. refl) next) (load_paired all past e (Some l) is (first_named all (l ∷ ls) past next), each))

-- each of the first items of a history has the load that it names
pub before_paired : (h : History) (k : ℕ) → EachItem (IsPaired h.loads) (before h k)
before_paired h k = subst (EachItem (IsPaired h.loads)) (append-nil (before h k)) (turned h.entries h.loads h.loads k [] (λ j. ap (slice_get h.loads) (omega arith)) tt)

-- the load in force is the last one that an item names
pub last_named : (loads : List Loaded) (past : List Item) (k : ℕ) (l : Loaded) → EachItem (IsPaired loads) past → how_many (λ i. is_load i.entry.event) past ≡ k + 1 → slice_get loads k ≡ Some l → loaded_of past ≡ l
last_named loads [] k l each many named = absurd (omega (arith, many))
last_named loads (i ∷ past) k l each many named = of (is_load i.entry.event) refl (last_named loads past k l each.1)
  where
    of : (b : Bool) → is_load i.entry.event ≡ b → (count past ≡ k + 1 → slice_get loads k ≡ Some l → loaded_of past ≡ l) → loaded_of (i ∷ past) ≡ l
    of true is rest =
        let before : count past ≡ k = omega (arith, many, count_load i past is) in
        let has : i.loaded ≡ Some l = each.0 ∙ (ap (λ (b : Bool). if b then slice_get loads (count past) else None) is ∙ (ap (slice_get loads) before ∙ named)) in
        ap (λ (o : Option Loaded). option_map_or (λ x. x) o (loaded_of past)) has
    of false is rest =
        let before : count past ≡ k + 1 = omega (arith, many, count_other i past is) in
        let has : i.loaded ≡ None = each.0 ∙ ap (λ (b : Bool). if b then slice_get loads (count past) else None) is in
        ap (λ (o : Option Loaded). option_map_or (λ x. x) o (loaded_of past)) has ∙ rest before named

first_true : (a b : Bool) → (a && b) ≡ true → a ≡ true
first_true true b both = refl
first_true false b both = both

-- a Load that is not the loader's, and whose load lacks one process of the load before it
pub sighting_is : (loads : List Loaded) (past : List Item) (i : Item) (n k : ℕ) (other : Bool) (before after : Loaded) → EachItem (IsPaired loads) (i ∷ past) → (is_load i.entry.event && other) ≡ true
    → n ≡ how_many (λ i. is_load i.entry.event) past → n ≡ k + 1 → slice_get loads k ≡ Some before → slice_get loads n ≡ Some after → LacksOne before after → IsSighting past i
sighting_is loads past i n k other before after pairs is many next old new lacks =
    let load : is_load i.entry.event ≡ true = first_true (is_load i.entry.event) other is in
    let has : i.loaded ≡ Some after = pairs.0 ∙ (ap (λ (b : Bool). if b then slice_get loads (count past) else None) load ∙ (ap (slice_get loads) (sym many) ∙ new)) in
    let last : loaded_of past ≡ before = last_named loads past k before pairs.1 (sym many ∙ next) old in
    record { load = load; lacks = (after, has, subst (λ (l : Loaded). LacksOne l after) (sym last) lacks) }
