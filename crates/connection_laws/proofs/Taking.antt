-- What a connection has taken of the outputs to another, as the history grows.
use Rattle.std.proofs.Common.{◌≡◌, ◌≢◌, ℕ, zero, suc, ◌+◌, ◌≤◌, Bool, true, false, Option, Some, None, List, [], ◌∷◌, ◌++◌, refl, ap, sym, ◌∙◌, subst, append_assoc, arith, length, take, drop}
use Rattle.std.specs.Prelude.{◌==◌, ◌&&◌, if◌then◌else◌, filter}
use Rattle.std.proofs.lemmas.List.{append-nil, take-append-le, take_all, take-append-drop, length-take-le}
use Rattle.std.proofs.lemmas.List.Elements.{All-head, All-tail}
use Rattle.std.proofs.lemmas.Bool.Decides.{nat_tests}
use mathlib.Core.List.{IsPrefix}
use Rattle.history_lock.specs.Known.{Known}
use Rattle.history_lock.specs.Entries.{NoneBy, GrownByOthers}
use Rattle.history_lock.specs.Calls.{Learned}
use Rattle.history_lock.proofs.Prefixes.{prefix_self, prefix_trans}
use Rattle.authority_model.specs.declared.journal.Item.{Item}
use Rattle.authority_model.specs.declared.load.Loaded.{Loaded}
use Rattle.authority_model.specs.declared.message.Output.{Output}
use Rattle.authority_model.specs.Given.{next}
use Rattle.authority_model.specs.Items.{sent}
use Rattle.authority_model.specs.Legal.{Legal}
use Rattle.authority_model.specs.Sent.{sent_to, collected, batch, is_collect_of}
use Rattle.authority_laws.specs.Batches.{collect_given, greatest_load, loads_in, taken, with_load}
use Rattle.authority_laws.proofs.Batching.{collected_few, loads_named, sent_counted}
use Rattle.shared_authority.specs.Journals.{IsJournal, caller_of, past_of}
use Rattle.shared_authority.specs.Passes.{Entered}
use Rattle.connection_laws.proofs.Doing.{not_by}
use Rattle.connection_laws.proofs.Growing.{past_snoc}

-- as much is taken as was collected
pub taken_length : (past : List Item) (b c : ℕ) → length (taken past b c) ≡ collected past b c
taken_length past b c = length-take-le (collected past b c) (sent_to past c) (let few = collected_few past b c in let all = sent_counted past c in omega (arith, few, all))

-- another's item takes nothing
taken_other : (past : List Item) (i : Item) (b c : ℕ) → caller_of i ≢ b → taken (i ∷ past) b c ≡ taken past b c
taken_other past i b c other =
    let same : collected (i ∷ past) b c ≡ collected past b c = ap (λ (t : Bool). if t && is_collect_of c i.entry.event then sent past c else collected past b c) (not_by i b other) in
    ap (λ (k : ℕ). take k (sent_to (i ∷ past) c)) same
    ∙ take-append-le (collected past b c) (sent_to past c) (filter (λ o. o.to == c) i.entry.outputs) (let few = collected_few past b c in let all = sent_counted past c in omega (arith, few, all))

taken_between : (between h : List Item) (b c : ℕ) → NoneBy caller_of b between → taken (past_of (h ++ between)) b c ≡ taken (past_of h) b c
taken_between [] h b c none = ap (λ (l : List Item). taken (past_of l) b c) (append-nil h)
taken_between (x ∷ xs) h b c none =
    ap (λ (l : List Item). taken (past_of l) b c) (sym (append_assoc h (x ∷ []) xs))
    ∙ taken_between xs (h ++ x ∷ []) b c (All-tail (λ e. caller_of e ≢ b) x xs none)
    ∙ ap (λ (l : List Item). taken l b c) (past_snoc h x)
    ∙ taken_other (past_of h) x b c (All-head (λ e. caller_of e ≢ b) x xs none)

pub taken_others : (b c : ℕ) (h more : List Item) → GrownByOthers caller_of b h more → taken (past_of more) b c ≡ taken (past_of h) b c
taken_others b c h more g = ap (λ (l : List Item). taken (past_of l) b c) g.grown ∙ taken_between g.between h b c g.others

-- the pass learned of others' items
pub taken_learned : (b c : ℕ) (v w : Known Item) → v.number ≡ b → Learned caller_of IsJournal v w → taken (past_of w.history) b c ≡ taken (past_of v.history) b c
taken_learned b c v w is l = taken_others b c v.history w.history (subst (λ (k : ℕ). GrownByOthers caller_of k v.history w.history) is l.others)

-- a connection that has no item has taken nothing
pub taken_none : (b c : ℕ) (h : List Item) → NoneBy caller_of b h → taken (past_of h) b c ≡ []
taken_none b c h none = taken_others b c [] h (record { between = h; grown = refl; others = none })

own_collect : (past : List Item) (b c : ℕ) → collected (next past (collect_given b c) ∷ past) b c ≡ sent past c
own_collect past b c = go (b == b) (c == c) (let e : (b == b) ≡ true = grind (arith, nat_tests) in e) (let e : (c == c) ≡ true = grind (arith, nat_tests) in e)
  where
    go : (p q : Bool) → p ≡ true → q ≡ true → (if p && q then sent past c else collected past b c) ≡ sent past c
    go true true s t = refl
    go true false s t = absurd (cc (t))
    go false q s t = absurd (cc (s))

-- after its own Collect a connection has taken all
pub taken_all : (past : List Item) (b c : ℕ) → taken (next past (collect_given b c) ∷ past) b c ≡ sent_to past c
taken_all past b c =
    ap (λ (k : ℕ). take k (sent_to past c ++ [])) (own_collect past b c)
    ∙ ap (take (sent past c)) (append-nil (sent_to past c))
    ∙ take_all (sent past c) (sent_to past c) (let all = sent_counted past c in omega (arith, all))

-- which is what it had, and the batch
pub taken_batch : (past : List Item) (b c : ℕ) → sent_to past c ≡ taken past b c ++ batch past b c
taken_batch past b c = sym (take-append-drop (collected past b c) (sent_to past c))

-- After a Collect of its own.
module _ (b n : ℕ) (v w : Known Item) (is : v.number ≡ b) (e : Entered v (collect_given b n) w) where
  -- the items before it
  abbrev pub before : List Item
  before = e.learned.grown.before

  others : GrownByOthers caller_of b v.history before
  others = subst (λ (k : ℕ). GrownByOthers caller_of k v.history before) is e.learned.grown.others

  past_is : past_of w.history ≡ next (past_of before) (collect_given b n) ∷ past_of before
  past_is = ap past_of e.learned.grown.grown ∙ past_snoc before e.item ∙ ap (λ (i : Item). i ∷ past_of before) e.is_next

  -- the pass has taken all that was sent
  pub took_sent : taken (past_of w.history) b n ≡ sent_to (past_of before) n
  took_sent = ap (λ (l : List Item). taken l b n) past_is ∙ taken_all (past_of before) b n

  -- to which a Collect adds nothing
  pub sent_same : sent_to (past_of w.history) n ≡ sent_to (past_of before) n
  sent_same = ap (λ (l : List Item). sent_to l n) past_is ∙ append-nil (sent_to (past_of before) n)

  pub took_all : sent_to (past_of w.history) n ≡ taken (past_of w.history) b n
  took_all = sent_same ∙ sym took_sent

  -- it is what it had, and the batch
  pub took_batch : taken (past_of w.history) b n ≡ taken (past_of v.history) b n ++ batch (past_of before) b n
  took_batch = took_sent ∙ taken_batch (past_of before) b n ∙ ap (λ (l : List Output). l ++ batch (past_of before) b n) (taken_others b n v.history before others)

  -- as much was collected before as the pass had taken
  pub collected_is : collected (past_of before) b n ≡ length (taken (past_of v.history) b n)
  collected_is = sym (taken_length (past_of before) b n) ∙ ap length (taken_others b n v.history before others)

  -- and it brings no load
  pub loads_same : loads_in (past_of w.history) ≡ loads_in (past_of before)
  loads_same = ap loads_in past_is

-- loads come at the end
one_load : (loads : List Loaded) (l : Option Loaded) → IsPrefix loads (with_load loads l)
one_load loads None = prefix_self loads
one_load loads (Some l) = (l ∷ [], refl)

loads_between : (between h : List Item) → IsPrefix (loads_in (past_of h)) (loads_in (past_of (h ++ between)))
loads_between [] h = subst (λ (l : List Item). IsPrefix (loads_in (past_of h)) (loads_in (past_of l))) (sym (append-nil h)) (prefix_self (loads_in (past_of h)))
loads_between (x ∷ xs) h =
    let one = subst (λ (l : List Item). IsPrefix (loads_in (past_of h)) (loads_in l)) (sym (past_snoc h x)) (one_load (loads_in (past_of h)) x.loaded) in
    let rest = subst (λ (l : List Item). IsPrefix (loads_in (past_of (h ++ x ∷ []))) (loads_in (past_of l))) (append_assoc h (x ∷ []) xs) (loads_between xs (h ++ x ∷ [])) in
    prefix_trans (loads_in (past_of h)) (loads_in (past_of (h ++ x ∷ []))) (loads_in (past_of (h ++ (x ∷ xs)))) one rest

-- the loads of a history begin those of each that it begins
pub loads_grow : (h more : List Item) → IsPrefix h more → IsPrefix (loads_in (past_of h)) (loads_in (past_of more))
loads_grow h more p = subst (λ (l : List Item). IsPrefix (loads_in (past_of h)) (loads_in (past_of l))) p.1 (loads_between p.0 h)

-- the loads that the first outputs name
greatest_take : (k : ℕ) (os : List Output) → greatest_load (take k os) ≤ greatest_load os
greatest_take zero os = omega arith
greatest_take (suc k) [] = omega arith
greatest_take (suc k) (o ∷ os) = let rest = greatest_take k os in omega (arith, rest)

-- and those that the outputs behind them name
pub greatest_drop : (k : ℕ) (os : List Output) → greatest_load (drop k os) ≤ greatest_load os
greatest_drop zero os = omega arith
greatest_drop (suc k) [] = omega arith
greatest_drop (suc k) (o ∷ os) = let rest = greatest_drop k os in omega (arith, rest)

-- what was taken of a legal history names loads that it has
pub taken_named : (past : List Item) (b c : ℕ) → Legal past → greatest_load (taken past b c) ≤ length (loads_in past)
taken_named past b c legal = let all = loads_named past c legal in let some = greatest_take (collected past b c) (sent_to past c) in omega (arith, all, some)
