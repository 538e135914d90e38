-- That a process which was seen to have ended was in no load between the connection's entry before and the event's own.
use Rattle.std.proofs.Common.{◌≡◌, ◌≤◌, ◌<◌, ℕ, suc, Bool, true, cond, List, [], ◌∷◌, ◌++◌, Option, Some, None, refl, ap, sym, ◌∙◌, subst, length, length-append, arith, inl, inr}
use Rattle.std.specs.Prelude.{◌+◌, ◌==◌, filter}
use Rattle.std.proofs.lemmas.List.Elements.{filter-append}
use mathlib.Core.List.{IsPrefix}
use Rattle.authority_model.specs.declared.event.Event.{Event}
use Rattle.authority_model.specs.declared.journal.Item.{Item}
use Rattle.connection_lookout.specs.Watching.{AtTurn, IsOut, OutBehind, TookLook, Turn, Turned, WasOut, Watch, has_ended, own, process_of}
use Rattle.history_lock.proofs.Growth.{learned_begins, learned_trans}
use Rattle.history_lock.proofs.Prefixes.{prefix_trans}
use Rattle.history_lock.specs.Calls.{Learned}
use Rattle.history_lock.specs.Entries.{entries_by}
use Rattle.history_lock.specs.Known.{Known}
use Rattle.shared_authority.specs.Journals.{IsJournal, caller_of}
use Rattle.sight_events.specs.Named.{named}

-- what holds of a turn, by what held of it
turn_to : (Holds Then : ℕ → Turn → Type 0) (k : ℕ) (n : Option (ℕ × ℕ)) (turns : List Turn) (rest now : List Turn → Type 0) → ((t : Turn) → Holds k t → Then k t) → ((ts : List Turn) → rest ts → now ts) → AtTurn Holds k n turns rest → AtTurn Then k n turns now
turn_to Holds Then k None turns rest now one others x = others turns x
turn_to Holds Then k (Some p) [] rest now one others x = absurd x
turn_to Holds Then k (Some p) (t ∷ turns) rest now one others x = (x.0, one t x.1, others turns x.2)

-- a turn with one more behind it
turn_behind : (Holds : ℕ → Turn → Type 0) (k : ℕ) (n : Option (ℕ × ℕ)) (turns : List Turn) (t : Turn) (rest now : List Turn → Type 0) → ((ts : List Turn) → rest ts → now (ts ++ t ∷ [])) → AtTurn Holds k n turns rest → AtTurn Holds k n (turns ++ t ∷ []) now
turn_behind Holds k None turns t rest now others x = others turns x
turn_behind Holds k (Some p) [] t rest now others x = absurd x
turn_behind Holds k (Some p) (u ∷ turns) t rest now others x = (x.0, x.1, others turns x.2)

-- what holds of the turns before some events, by what holds of each
pub turned_to : (Holds Then : ℕ → Turn → Type 0) (k : ℕ) (events : List Event) (turns : List Turn) → ((j : ℕ) (t : Turn) → j < k + length events → Holds j t → Then j t) → Turned Holds k events turns → Turned Then k events turns
turned_to Holds Then k [] turns so x = x
turned_to Holds Then k (event ∷ events) turns so x =
    turn_to Holds Then k (named event) turns (Turned Holds (suc k) events) (Turned Then (suc k) events) (λ t h. so k t (omega arith) h) (λ ts. turned_to Holds Then (suc k) events ts (λ j t lt h. so j t (omega (arith, lt)) h)) x

-- one event more that names a process, and its turn
pub turned_more : (Holds : ℕ → Turn → Type 0) (k : ℕ) (events : List Event) (event : Event) (p : ℕ × ℕ) (turns : List Turn) (t : Turn) → named event ≡ Some p → process_of t ≡ p → Holds (k + length events) t → Turned Holds k events turns
    → Turned Holds k (events ++ event ∷ []) (turns ++ t ∷ [])
turned_more Holds k [] event p turns t is same holds x =
    subst (λ (ts : List Turn). AtTurn Holds k (named event) (ts ++ t ∷ []) (Turned Holds (suc k) [])) (sym x)
    (subst (λ (n : Option (ℕ × ℕ)). AtTurn Holds k n (t ∷ []) (Turned Holds (suc k) [])) (sym is) (same, (let e : k + 0 ≡ k = omega arith in subst (λ (j : ℕ). Holds j t) e holds), refl))
turned_more Holds k (e ∷ events) event p turns t is same holds x =
    let step : k + length (e ∷ events) ≡ suc k + length events = omega arith in
    let next : Holds (suc k + length events) t = subst (λ (j : ℕ). Holds j t) step holds in
    turn_behind Holds k (named e) turns t (Turned Holds (suc k) events) (Turned Holds (suc k) (events ++ event ∷ [])) (λ ts. turned_more Holds (suc k) events event p ts t is same next) x

-- one event more that names none
pub turned_quiet : (Holds : ℕ → Turn → Type 0) (k : ℕ) (events : List Event) (event : Event) (turns : List Turn) → named event ≡ None → Turned Holds k events turns → Turned Holds k (events ++ event ∷ []) turns
turned_quiet Holds k [] event turns none x = subst (λ (n : Option (ℕ × ℕ)). AtTurn Holds k n turns (Turned Holds (suc k) [])) (sym none) x
turned_quiet Holds k (e ∷ events) event turns none x =
    turn_to Holds Holds k (named e) turns (Turned Holds (suc k) events) (Turned Holds (suc k) (events ++ event ∷ [])) (λ t h. h) (λ ts. turned_quiet Holds (suc k) events event ts none) x

-- the turns that pass a test, with one turn more
pub filter_more : (test : Turn → Bool) (turns : List Turn) (t : Turn) (b : Bool) → test t ≡ b → filter test (turns ++ t ∷ []) ≡ filter test turns ++ cond b (t ∷ []) []
filter_more test turns t b is = filter-append test turns (t ∷ []) ∙ ap (λ (x : Bool). filter test turns ++ cond x (t ∷ []) []) is

-- what was behind a history is behind a longer one
pub behind_on : (n m more k pid start : ℕ) (h g : List Item) → IsPrefix h g → OutBehind (own n m h) k pid start → OutBehind (own n more g) k pid start
behind_on n m more k pid start h g p x = record { known = x.known; within = prefix_trans x.known h g x.within p; has = x.has; lacks = x.lacks }

-- the turns before events that have their entries already
pub were_out : (n m more : ℕ) (h g : List Item) (events : List Event) (turns : List Turn) → IsPrefix h g → suc (length events) ≤ m → Turned (WasOut (own n m h)) 1 events turns → Turned (WasOut (own n more g)) 1 events turns
were_out n m more h g events turns p enough x =
    turned_to (WasOut (own n m h)) (WasOut (own n more g)) 1 events turns (λ j t lt was ended _. behind_on n m more j t.pid t.start h g p (was ended (omega (arith, lt, enough)))) x

-- the same history, or a longer one, where the connection has no entry more
pub were_out_same : (n m : ℕ) (h g : List Item) (events : List Event) (turns : List Turn) → IsPrefix h g → Turned (WasOut (own n m h)) 1 events turns → Turned (WasOut (own n m g)) 1 events turns
were_out_same n m h g events turns p x =
    turned_to (WasOut (own n m h)) (WasOut (own n m g)) 1 events turns (λ j t lt was ended has. behind_on n m m j t.pid t.start h g p (was ended has)) x

-- a history has no fewer of a connection's entries than one that it begins with
count_on : (n : ℕ) (h g : List Item) → IsPrefix h g → length (entries_by caller_of n h) ≤ length (entries_by caller_of n g)
count_on n h g (more, is) =
    let all : entries_by caller_of n g ≡ entries_by caller_of n h ++ entries_by caller_of n more = ap (entries_by caller_of n) (sym is) ∙ filter-append (λ (i : Item). caller_of i == n) h more in
    let sum : length (entries_by caller_of n g) ≡ length (entries_by caller_of n h) + length (entries_by caller_of n more) = ap length all ∙ length-append (entries_by caller_of n h) (entries_by caller_of n more) in
    omega (arith, sum)

-- between two histories with as many of them each has as many
count_between : (n k : ℕ) (h x g : List Item) → IsPrefix h x → IsPrefix x g → entries_by caller_of n g ≡ entries_by caller_of n h → length (entries_by caller_of n h) ≡ k → length (entries_by caller_of n x) ≡ k
count_between n k h x g one two same count =
    let low = count_on n h x one in
    let high = count_on n x g two in
    let ends = ap length same in
    omega (arith, low, high, ends, count)

-- a look that shows that a process has ended, where the pass knows afterwards of no end of the lock
pub look_out : (named : ℕ × ℕ) (p q : Known Item) (v w : Watch) (failed : Bool) (n more k : ℕ) (g : List Item) (x : TookLook named p q v w failed) → p.number ≡ n → length (entries_by caller_of n p.history) ≡ k → q.ended ≡ None → IsPrefix q.history g
    → has_ended x.took.turn.start x.took.turn.sighted ≡ true → OutBehind (own n more g) k x.took.turn.pid x.took.turn.start
look_out named p q v w failed n more k g x is count unended longer ended = go (x.took.gone ended)
  where
    all : Learned caller_of IsJournal p q
    all = learned_trans caller_of IsJournal p x.met q x.learned x.knows

    first : IsPrefix p.history x.before.pass.history
    first = subst (IsPrefix p.history) (sym x.first.history) (learned_begins caller_of IsJournal p x.met x.learned)

    last : IsPrefix x.after.pass.history q.history
    last = subst (IsPrefix x.after.pass.history) x.second.history (learned_begins caller_of IsJournal x.after.pass w.pass x.second.learned)

    same : entries_by caller_of n q.history ≡ entries_by caller_of n p.history
    same = subst (λ (m : ℕ). entries_by caller_of m q.history ≡ entries_by caller_of m p.history) is all.own

    go : IsOut x.before.pass.history x.took.turn.pid x.took.turn.start x.after.pass → OutBehind (own n more g) k x.took.turn.pid x.took.turn.start
    go (inl out) =
        let low = prefix_trans p.history x.before.pass.history out.known first out.after in
        let high = prefix_trans out.known x.after.pass.history q.history out.within last in
        record {
          known = out.known;
          within = prefix_trans out.known q.history g high longer;
          has = count_between n k p.history out.known q.history low high same count;
          lacks = out.lacks;
        }
    go (inr (cause, kept)) = absurd (other (sym (x.second.ended ∙ unended) ∙ (x.second.learned.ended cause kept).0))
      where
        other : None ≡ Some cause → ⊥
        other e = cc
