-- Which Collects found outputs, as the history grows.
use Rattle.std.proofs.Common.{◌≡◌, ◌≢◌, ℕ, Bool, true, false, ◌&&◌, List, [], ◌∷◌, ◌++◌, refl, ap, sym, ◌∙◌, subst, append_assoc, arith}
use Rattle.std.proofs.lemmas.List.{append-nil}
use Rattle.std.proofs.lemmas.List.Elements.{All-head, All-tail}
use Rattle.history_lock.specs.Known.{Known}
use Rattle.history_lock.specs.Entries.{NoneBy, GrownByOthers}
use Rattle.history_lock.specs.Calls.{Learned}
use Rattle.authority_model.specs.declared.journal.Item.{Item}
use Rattle.authority_model.specs.declared.message.Output.{Output}
use Rattle.authority_model.specs.Given.{next}
use Rattle.authority_model.specs.Sent.{batch, is_collect_of}
use Rattle.authority_laws.specs.Batches.{collect_given}
use Rattle.shared_authority.specs.Journals.{IsJournal, caller_of, past_of}
use Rattle.shared_authority.specs.Passes.{Entered}
use Rattle.std.proofs.lemmas.Bool.Decides.{nat_tests}
use Rattle.std.specs.Prelude.{◌==◌}
use Rattle.connection_laws.specs.Takings.{Finds, FindsLast, are_none}
use Rattle.connection_laws.proofs.Doing.{not_by}
use Rattle.connection_laws.proofs.Growing.{past_snoc}

-- another's item is no such Collect
finds_other : (by c : ℕ) (past : List Item) (i : Item) (gone : Bool) → caller_of i ≢ by → Finds by c past gone → Finds by c (i ∷ past) gone
finds_other by c past i gone other finds =
    subst (λ (b : Bool). FindsLast (b && is_collect_of c i.entry.event) (are_none (batch past by c)) gone (Finds by c past)) (sym (not_by i by other)) finds

finds_between : (by c : ℕ) (between h : List Item) (gone : Bool) → NoneBy caller_of by between → Finds by c (past_of h) gone → Finds by c (past_of (h ++ between)) gone
finds_between by c [] h gone none finds = subst (λ (l : List Item). Finds by c (past_of l) gone) (sym (append-nil h)) finds
finds_between by c (x ∷ xs) h gone none finds =
    let one : Finds by c (past_of (h ++ x ∷ [])) gone = subst (λ (l : List Item). Finds by c l gone) (sym (past_snoc h x)) (finds_other by c (past_of h) x gone (All-head (λ e. caller_of e ≢ by) x xs none) finds) in
    subst (λ (l : List Item). Finds by c (past_of l) gone) (append_assoc h (x ∷ []) xs) (finds_between by c xs (h ++ x ∷ []) gone (All-tail (λ e. caller_of e ≢ by) x xs none) one)

pub finds_others : (by c : ℕ) (h more : List Item) (gone : Bool) → GrownByOthers caller_of by h more → Finds by c (past_of h) gone → Finds by c (past_of more) gone
finds_others by c h more gone g finds = subst (λ (l : List Item). Finds by c (past_of l) gone) (sym g.grown) (finds_between by c g.between h gone g.others finds)

-- the pass learned of others' items
pub finds_learned : (by c : ℕ) (v w : Known Item) (gone : Bool) → v.number ≡ by → Learned caller_of IsJournal v w → Finds by c (past_of v.history) gone → Finds by c (past_of w.history) gone
finds_learned by c v w gone is l finds = finds_others by c v.history w.history gone (subst (λ (k : ℕ). GrownByOthers caller_of k v.history w.history) is l.others) finds

-- a connection that has no item made no Collect
pub finds_none : (by c : ℕ) (h : List Item) → NoneBy caller_of by h → Finds by c (past_of h) false
finds_none by c h none = finds_between by c h [] false none refl

-- a Collect of the connection's own
finds_own : (by c : ℕ) (past : List Item) (gone : Bool) → are_none (batch past by c) ≡ gone → Finds by c past false → Finds by c (next past (collect_given by c) ∷ past) gone
finds_own by c past gone is finds = go (by == by) (c == c) (let e : (by == by) ≡ true = grind (arith, nat_tests) in e) (let e : (c == c) ≡ true = grind (arith, nat_tests) in e)
  where
    go : (p q : Bool) → p ≡ true → q ≡ true → FindsLast (p && q) (are_none (batch past by c)) gone (Finds by c past)
    go true true s t = (is, finds)
    go true false s t = absurd (cc (t))
    go false q s t = absurd (cc (s))

pub finds_entered : (by c : ℕ) (v w : Known Item) (gone : Bool) → v.number ≡ by → (e : Entered v (collect_given by c) w) → are_none (batch (past_of e.learned.grown.before) by c) ≡ gone → Finds by c (past_of v.history) false → Finds by c (past_of w.history) gone
finds_entered by c v w gone is e nothing finds =
    let before = e.learned.grown.before in
    let f = finds_others by c v.history before false (subst (λ (k : ℕ). GrownByOthers caller_of k v.history before) is e.learned.grown.others) finds in
    let here = ap past_of e.learned.grown.grown ∙ past_snoc before e.item ∙ ap (λ (i : Item). i ∷ past_of before) e.is_next in
    subst (λ (l : List Item). Finds by c l gone) (sym here) (finds_own by c (past_of before) gone nothing f)

-- some outputs are not none
pub some_found : (outputs : List Output) → outputs ≢ [] → are_none outputs ≡ false
some_found [] some = absurd (some refl)
some_found (o ∷ outputs) some = refl
