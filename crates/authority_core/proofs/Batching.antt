-- The outputs and the loads of a journal, as its entries and its list of loads have them.
use Rattle.std.proofs.Common.{◌≡◌, ℕ, zero, suc, ◌+◌, ◌<◌, ◌≤◌, ◌==◌, Bool, true, false, List, [], ◌∷◌, ◌++◌, refl, ap, sym, ◌∙◌, subst, Option, Some, None, length, take, drop, get_or, max, arith}
use Rattle.std.specs.Prelude.{◌-◌, if◌then◌else◌, reverse, slice_get, option_and_then, option_map}
use Rattle.std.proofs.lemmas.List.{append_assoc, append-nil, reverse-append, reverse-reverse, take_all, take_more}
use Rattle.std.proofs.lemmas.Bool.Decides.{nat_tests}
use Rattle.authority_model.specs.declared.journal.Entry.{Entry}
use Rattle.authority_model.specs.declared.journal.History.{History}
use Rattle.authority_model.specs.declared.journal.Item.{Item}
use Rattle.authority_model.specs.declared.journal.Limits.{Limits}
use Rattle.authority_model.specs.declared.load.Loaded.{Loaded}
use Rattle.authority_model.specs.declared.message.Output.{Output}
use Rattle.authority_model.specs.Entering.{AreAllowed, is_full}
use Rattle.authority_model.specs.Items.{items_of, is_load, pair_up, paired}
use Rattle.authority_model.specs.Legal.{Legal}
use Rattle.authority_model.specs.Sent.{batch, collected, sent_to}
use Rattle.authority_model.proofs.Pairing.{load_count, count_one}
use Rattle.authority_laws.specs.Batches.{AreSendable, IsBatch, greatest_load, load_of, loads_in, with_load}
use Rattle.authority_laws.proofs.Batching.{takes_batch}
use Rattle.authority_core.specs.declared.collecting.Batch.{Batch}
use Rattle.authority_core.specs.Collecting.{numbered_output}
use Rattle.peer_book.specs.Book.{Peers}
use Rattle.peer_book.specs.Places.{output_at, pair_of, place_at, places_of}

-- the oldest item's load comes first
loads_in-push : (xs : List Item) (y : Item) → loads_in (xs ++ y ∷ []) ≡ with_load [] y.loaded ++ loads_in xs
loads_in-push [] y = sym (append-nil (with_load [] y.loaded))
loads_in-push (x ∷ xs) y = go x.loaded (loads_in-push xs y)
  where
    go : (o : Option Loaded) → loads_in (xs ++ y ∷ []) ≡ with_load [] y.loaded ++ loads_in xs → with_load (loads_in (xs ++ y ∷ [])) o ≡ with_load [] y.loaded ++ with_load (loads_in xs) o
    go None ih = ih
    go (Some l) ih = ap (λ ls. ls ++ l ∷ []) ih ∙ append_assoc (with_load [] y.loaded) (loads_in xs) (l ∷ [])

-- where there are as many loads as Load entries, the items have the loads in their order
loads_reversed : (es : List Entry) (ls : List Loaded) → load_count es ≡ length ls → loads_in (reverse (paired es ls)) ≡ ls
loads_reversed [] [] n = refl
loads_reversed [] (l ∷ ls) n = absurd (cc)
loads_reversed (e ∷ es) ls n = go (is_load e.event) ls n (λ ls n. loads_reversed es ls n)
  where
    one : (x : Item) (xs : List Item) → loads_in (reverse (x ∷ xs)) ≡ with_load [] x.loaded ++ loads_in (reverse xs)
    one x xs = ap loads_in (reverse-append (x ∷ []) xs) ∙ loads_in-push (reverse xs) x

    go : (b : Bool) (ls : List Loaded) → count_one b (load_count es) ≡ length ls → ((ls : List Loaded) → load_count es ≡ length ls → loads_in (reverse (paired es ls)) ≡ ls) → loads_in (reverse (pair_up e b ls (paired es))) ≡ ls
    go false ls n ih = one (record { entry = e; loaded = None }) (paired es ls) ∙ ih ls n
    go true [] n ih = absurd (omega arith)
    go true (l ∷ ls) n ih = one (record { entry = e; loaded = Some l }) (paired es ls) ∙ ap (λ r. l ∷ r) (ih ls (omega arith))

-- what is taken of a journal that is not full is a batch
pub batch_is : (limits : Limits) (h : History) (by c : ℕ) (b : Batch) → Legal (items_of h) → load_count h.entries ≡ length h.loads → AreAllowed limits → is_full limits (items_of h) ≡ false
    → b.from ≡ collected (items_of h) by c + 1 → b.outputs ≡ batch (items_of h) by c → b.loads ≡ take (greatest_load b.outputs) h.loads → IsBatch (items_of h) by c b.from b.outputs b.loads
batch_is limits h by c b legal named allowed room from outputs loads =
    let whole = takes_batch limits (items_of h) by c legal allowed room in
    let few = whole.few in
    let size = ap length outputs in
    record {
      from = from;
      outputs = outputs;
      loads = loads ∙ ap (take (greatest_load b.outputs)) (sym (loads_reversed h.entries h.loads named));
      few = omega (arith, few, size, from);
      named = whole.named;
      sendable = λ other. subst AreSendable (sym outputs) (whole.sendable other);
    }

in_entries : (es : List Entry) (ls : List Loaded) (n k : ℕ) → option_and_then (λ (i : Item). slice_get i.entry.outputs k) (slice_get (paired es ls) n) ≡ option_and_then (λ (e : Entry). slice_get e.outputs k) (slice_get es n)
in_entries [] ls n k = refl
in_entries (e ∷ es) ls n k = go (is_load e.event) ls n (λ ls n. in_entries es ls n k)
  where
    go : (b : Bool) (ls : List Loaded) (n : ℕ) → ((ls : List Loaded) (n : ℕ) → option_and_then (λ (i : Item). slice_get i.entry.outputs k) (slice_get (paired es ls) n) ≡ option_and_then (λ (e : Entry). slice_get e.outputs k) (slice_get es n))
        → option_and_then (λ (i : Item). slice_get i.entry.outputs k) (slice_get (pair_up e b ls (paired es)) n) ≡ option_and_then (λ (e : Entry). slice_get e.outputs k) (slice_get (e ∷ es) n)
    go false ls zero ih = refl
    go false ls (suc n) ih = ih ls n
    go true [] zero ih = refl
    go true [] (suc n) ih = ih [] n
    go true (l ∷ ls) zero ih = refl
    go true (l ∷ ls) (suc n) ih = ih ls n

-- the output of a journal at a place is that of its entry
pub placed_output : (h : History) (n k : ℕ) → output_at (items_of h) (n, k) ≡ option_and_then (λ (e : Entry). slice_get e.outputs k) (slice_get h.entries n)
placed_output h n k =
    ap (λ (xs : List Item). option_and_then (λ (i : Item). slice_get i.entry.outputs k) (slice_get xs n)) (reverse-reverse (paired h.entries h.loads))
    ∙ in_entries h.entries h.loads n k

-- the place of an output of this number shows the output of this number
pub numbered : (past : List Item) (t : Peers) (c k : ℕ) (p : ℕ × ℕ) → Some p ≡ option_map pair_of (place_at (places_of t.places c) k) → (0 < k → output_at past p ≡ slice_get (sent_to past c) (k - 1)) → output_at past p ≡ numbered_output past c k
numbered past t c zero p is shows = absurd (cc)
numbered past t c (suc k) p is shows =
    let test : (suc k == 0) ≡ false = grind (arith, nat_tests) in
    shows (omega arith) ∙ sym (ap (λ b. if b then None else slice_get (sent_to past c) (suc k - 1)) test)

-- the output behind so many others
pub numbered_next : (past : List Item) (c n : ℕ) → numbered_output past c (n + 1) ≡ slice_get (sent_to past c) n
numbered_next past c n =
    let test : (n + 1 == 0) ≡ false = grind (arith, nat_tests) in
    let back : n + 1 - 1 ≡ n = omega arith in
    ap (λ b. if b then None else slice_get (sent_to past c) (n + 1 - 1)) test ∙ ap (slice_get (sent_to past c)) back

-- the outputs from one number on, one more of them
pub part_more : (xs : List Output) (first n : ℕ) (x : Output) → first ≤ n → slice_get xs n ≡ Some x → drop first (take (n + 1) xs) ≡ drop first (take n xs) ++ x ∷ []
part_more xs first n x le is = let next : n + 1 ≡ suc n = omega arith in ap (λ m. drop first (take m xs)) next ∙ go xs first n le is
  where
    go : (xs : List Output) (first n : ℕ) → first ≤ n → slice_get xs n ≡ Some x → drop first (take (suc n) xs) ≡ drop first (take n xs) ++ x ∷ []
    go [] first n le is = absurd (cc)
    go (y ∷ ys) zero zero le is = cc
    go (y ∷ ys) zero (suc n) le is = ap (λ r. y ∷ r) (go ys zero n (omega arith) is)
    go (y ∷ ys) (suc first) zero le is = absurd (omega arith)
    go (y ∷ ys) (suc first) (suc n) le is = go ys first n (omega arith) is

-- there are none before them
pub part_none : (xs : List Output) (first : ℕ) → drop first (take first xs) ≡ []
part_none xs zero = refl
part_none [] (suc first) = refl
part_none (x ∷ xs) (suc first) = part_none xs first

-- all of them
pub part_all : (xs : List Output) (first n : ℕ) → length xs ≤ n → drop first (take n xs) ≡ drop first xs
part_all xs first n le = ap (drop first) (take_all n xs le)

-- the greatest of one output more
greatest_push : (xs : List Output) (o : Output) → greatest_load (xs ++ o ∷ []) ≡ max (load_of o) (greatest_load xs)
greatest_push [] o = refl
greatest_push (x ∷ xs) o = let rest = greatest_push xs o in omega (arith, rest)

pub greatest_more : (xs : List Output) (n : ℕ) (o : Output) (before after : ℕ) → take (n + 1) xs ≡ take n xs ++ o ∷ [] → before ≡ greatest_load (take n xs) → after ≡ max (load_of o) before → after ≡ greatest_load (take (n + 1) xs)
greatest_more xs n o before after more was is = is ∙ ap (max (load_of o)) was ∙ sym (greatest_push (take n xs) o) ∙ ap greatest_load (sym more)

-- the first of some, and one more
pub item_more : {A : Type 0} (xs : List A) (k : ℕ) (x : A) → k < length xs → x ≡ get_or xs k x → take (k + 1) xs ≡ take k xs ++ x ∷ []
item_more xs k x inside is = take_more xs k x inside ∙ ap (λ y. take k xs ++ y ∷ []) (sym is)

-- an output with a number below their count is there
pub none_past : (xs : List Output) (n : ℕ) → None ≡ slice_get xs n → n < length xs → ⊥
none_past [] n is inside = absurd (omega arith)
none_past (x ∷ xs) zero is inside = absurd (cc)
none_past (x ∷ xs) (suc n) is inside = none_past xs n is (omega arith)
