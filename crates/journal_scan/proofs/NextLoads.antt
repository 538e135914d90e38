-- One more entry, as far as loads and the Stop go.
use Rattle.std.proofs.Common.{◌≡◌, ℕ, ◌+◌, List, ◌∷◌, refl, ap, sym, ◌∙◌, Bool, true, false, ◌||◌, ◌&&◌, arith}
use Rattle.std.specs.Prelude.{◌==◌, not, if◌then◌else◌, length}
use Rattle.std.specs.Int.{from_bool}
use Rattle.authority_model.specs.declared.journal.Entry.{Entry}
use Rattle.authority_model.specs.declared.journal.Item.{Item}
use Rattle.authority_model.specs.Items.{is_load}
use Rattle.journal_scan.specs.declared.loading.Loading.{Loading}
use Rattle.journal_scan.specs.Loading.{ends_load, has_stop, is_failed_load, is_stop, wanted_by}
use Rattle.journal_scan.specs.Standing.{loading_of}

either_way : (a b : Bool) → (a || b) ≡ (b || a)
either_way true true = refl
either_way true false = refl
either_way false true = refl
either_way false false = refl

-- two that are the same
abbrev same_parts : Loading → Loading → Type 0
same_parts x y = x ≡ y

plus : {a b m n : ℕ} → a ≡ b → m ≡ n → a + m ≡ b + n
plus p q = cc

same_loading : {last entries loads unlisted refused ended asked due last' entries' loads' unlisted' refused' ended' asked' due' : ℕ} {stopped stopped' : Bool}
    → last ≡ last' → entries ≡ entries' → loads ≡ loads' → unlisted ≡ unlisted' → refused ≡ refused' → ended ≡ ended' → asked ≡ asked' → due ≡ due' → stopped ≡ stopped'
    → same_parts (record { last = last; entries = entries; loads = loads; unlisted = unlisted; refused = refused; ended = ended; asked = asked; due = due; stopped = stopped }) (record { last = last'; entries = entries'; loads = loads'; unlisted = unlisted'; refused = refused'; ended = ended'; asked = asked'; due = due'; stopped = stopped' })
same_loading a b c d e f g h i = cc

-- one more entry is counted
pub loading_more : (old : Loading) (past : List Item) (i : Item) (e : Entry) (load unlisting failed ends wanted now_due : ℕ) (stopped : Bool) → i.entry ≡ e → old ≡ loading_of past
    → load ≡ (if is_load e.event then 1 else 0) → unlisting ≡ (if is_load e.event && not (e.caller == 0) then 1 else 0) → failed ≡ (if is_failed_load e.event then 1 else 0) → ends ≡ (if ends_load e.event && (e.caller == 0) then 1 else 0)
    → wanted ≡ wanted_by i → now_due ≡ (if old.stopped then 0 else wanted) → stopped ≡ (old.stopped || is_stop e.event)
    → (entries loads unlisted refused ended asked due : ℕ) → entries ≡ old.entries + 1 → loads ≡ old.loads + load → unlisted ≡ old.unlisted + unlisting → refused ≡ old.refused + failed → ended ≡ old.ended + ends → asked ≡ old.asked + wanted → due ≡ old.due + now_due
    → record { last = e.moment; entries = entries; loads = loads; unlisted = unlisted; refused = refused; ended = ended; asked = asked; due = due; stopped = stopped } ≡ loading_of (i ∷ past)
loading_more old past i e load unlisting failed ends wanted now_due stopped same is load_is unlisting_is failed_is ends_is wanted_is due_is stopped_is entries loads unlisted refused ended asked due e1 e2 e3 e4 e5 e6 e7 =
    let at : (f : Entry → ℕ) → f e ≡ f i.entry = λ f. ap f (sym same) in
    let old_entries : old.entries ≡ length past = ap (λ (x : Loading). x.entries) is in
    let old_stopped : old.stopped ≡ has_stop past = ap (λ (x : Loading). x.stopped) is in
    same_loading
    (at (λ x. x.moment))
    (omega (arith, old_entries, e1))
    (e2 ∙ plus (ap (λ (x : Loading). x.loads) is) (load_is ∙ at (λ x. if is_load x.event then 1 else 0)))
    (e3 ∙ plus (ap (λ (x : Loading). x.unlisted) is) (unlisting_is ∙ at (λ x. if is_load x.event && not (x.caller == 0) then 1 else 0)))
    (e4 ∙ plus (ap (λ (x : Loading). x.refused) is) (failed_is ∙ at (λ x. if is_failed_load x.event then 1 else 0)))
    (e5 ∙ plus (ap (λ (x : Loading). x.ended) is) (ends_is ∙ at (λ x. if ends_load x.event && (x.caller == 0) then 1 else 0)))
    (e6 ∙ plus (ap (λ (x : Loading). x.asked) is) wanted_is)
    (e7 ∙ plus (ap (λ (x : Loading). x.due) is) (due_is ∙ (ap (λ (b : Bool). if b then 0 else wanted) old_stopped ∙ ap (λ (n : ℕ). if has_stop past then 0 else n) wanted_is)))
    (stopped_is ∙ (ap (λ (x : Entry). old.stopped || is_stop x.event) (sym same) ∙ (ap (λ (b : Bool). b || is_stop i.entry.event) old_stopped ∙ either_way (has_stop past) (is_stop i.entry.event))))

pub byte_is : (b : Bool) → from_bool b ≡ (if b then 1 else 0)
byte_is true = refl
byte_is false = refl
