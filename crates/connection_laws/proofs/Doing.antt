-- What a connection did, as the history grows.
use Rattle.std.proofs.Common.{◌≡◌, ◌≢◌, ℕ, Bool, true, false, List, [], ◌∷◌, ◌++◌, refl, ap, sym, ◌∙◌, subst, append_assoc, arith}
use Rattle.std.specs.Prelude.{◌==◌}
use Rattle.std.proofs.lemmas.List.{append-nil}
use Rattle.std.proofs.lemmas.List.Elements.{All-head, All-tail}
use Rattle.std.proofs.lemmas.Bool.Decides.{nat_tests}
use Rattle.history_lock.specs.Known.{Known}
use Rattle.history_lock.specs.Entries.{NoneBy, GrownByOthers}
use Rattle.history_lock.specs.Calls.{Learned}
use Rattle.authority_model.specs.declared.journal.Item.{Item}
use Rattle.authority_model.specs.Given.{Given, next}
use Rattle.shared_authority.specs.Journals.{IsJournal, caller_of, past_of}
use Rattle.shared_authority.specs.Passes.{Entered}
use Rattle.connection_laws.specs.Doings.{Did, DidLast}
use Rattle.connection_laws.proofs.Growing.{past_snoc}

-- an item of another connection
pub not_by : (i : Item) (n : ℕ) → caller_of i ≢ n → (i.entry.caller == n) ≡ false
not_by i n other = tested (i.entry.caller == n) refl
  where
    tested : (b : Bool) → (i.entry.caller == n) ≡ b → (i.entry.caller == n) ≡ false
    tested true q = let same : i.entry.caller ≡ n = grind (arith, nat_tests) in absurd (other same)
    tested false q = q

-- an item of the connection
pub own_by : (i : Item) (n : ℕ) → caller_of i ≡ n → (i.entry.caller == n) ≡ true
own_by i n same = tested (i.entry.caller == n) refl
  where
    tested : (b : Bool) → (i.entry.caller == n) ≡ b → (i.entry.caller == n) ≡ true
    tested true q = q
    tested false q = let differs : i.entry.caller ≢ n = grind (arith, nat_tests) in absurd (differs same)

-- another's item changes nothing
pub did_other : (n : ℕ) (past : List Item) (i : Item) (given : List Given) → caller_of i ≢ n → Did n past given → Did n (i ∷ past) given
did_other n past i given other did = subst (λ (b : Bool). DidLast b past i given (Did n past)) (sym (not_by i n other)) did

-- the connection's own is one more
pub did_own : (n : ℕ) (past : List Item) (g : Given) (given : List Given) (i : Item) → caller_of i ≡ n → i ≡ next past g → Did n past given → Did n (i ∷ past) (given ++ g ∷ [])
did_own n past g given i own is did = subst (λ (b : Bool). DidLast b past i (given ++ g ∷ []) (Did n past)) (sym (own_by i n own)) (g, given, refl, is, did)

-- nor do some of others
did_between : (n : ℕ) (between h : List Item) (given : List Given) → NoneBy caller_of n between → Did n (past_of h) given → Did n (past_of (h ++ between)) given
did_between n [] h given none did = subst (λ (l : List Item). Did n (past_of l) given) (sym (append-nil h)) did
did_between n (x ∷ xs) h given none did =
    let one : Did n (past_of (h ++ x ∷ [])) given = subst (λ (l : List Item). Did n l given) (sym (past_snoc h x)) (did_other n (past_of h) x given (All-head (λ e. caller_of e ≢ n) x xs none) did) in
    subst (λ (l : List Item). Did n (past_of l) given) (append_assoc h (x ∷ []) xs) (did_between n xs (h ++ x ∷ []) given (All-tail (λ e. caller_of e ≢ n) x xs none) one)

pub did_others : (n : ℕ) (h more : List Item) (given : List Given) → GrownByOthers caller_of n h more → Did n (past_of h) given → Did n (past_of more) given
did_others n h more given g did = subst (λ (l : List Item). Did n (past_of l) given) (sym g.grown) (did_between n g.between h given g.others did)

-- the pass learned of others' items
pub did_learned : (n : ℕ) (v w : Known Item) (given : List Given) → v.number ≡ n → Learned caller_of IsJournal v w → Did n (past_of v.history) given → Did n (past_of w.history) given
did_learned n v w given is l did = did_others n v.history w.history given (subst (λ (k : ℕ). GrownByOthers caller_of k v.history w.history) is l.others) did

-- and then of its own
pub did_entered : (n : ℕ) (v : Known Item) (g : Given) (w : Known Item) (given : List Given) → v.number ≡ n → Entered v g w → Did n (past_of v.history) given → Did n (past_of w.history) (given ++ g ∷ [])
did_entered n v g w given is e did =
    let before = e.learned.grown.before in
    let d = did_others n v.history before given (subst (λ (k : ℕ). GrownByOthers caller_of k v.history before) is e.learned.grown.others) did in
    subst (λ (l : List Item). Did n l (given ++ g ∷ [])) (sym (ap past_of e.learned.grown.grown ∙ past_snoc before e.item))
    (did_own n (past_of before) g given e.item (e.learned.grown.by ∙ is) e.is_next d)

-- a connection that has no item did nothing
pub did_none : (n : ℕ) (h : List Item) → NoneBy caller_of n h → Did n (past_of h) []
did_none n h none = did_between n h [] [] none refl
