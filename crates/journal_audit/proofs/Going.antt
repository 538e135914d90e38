-- An audit goes from entry to entry of a history.
use Rattle.std.proofs.Common.{◌≡◌, ◌<◌, ◌≤◌, ◌+◌, ◌==◌, ℕ, Bool, true, false, List, [], ◌∷◌, ◌++◌, refl, ap, sym, ◌∙◌, subst, Option, Some, None, is_some, length, drop, get_or, append_assoc, append-nil, inl, inr, arith, add-one, drop-cons}
use Rattle.std.proofs.lemmas.Bool.Decides.{Decides-eqb}
use Rattle.std.proofs.lemmas.List.{drop_all, reverse-append}
use Rattle.std.specs.Prelude.{if◌then◌else◌, reverse}
use Rattle.authority_model.specs.declared.journal.Entry.{Entry}
use Rattle.authority_model.specs.declared.journal.History.{History}
use Rattle.authority_model.specs.declared.journal.Item.{Item}
use Rattle.authority_model.specs.declared.load.Loaded.{Loaded}
use Rattle.authority_model.specs.Answers.{loads}
use Rattle.authority_model.specs.Items.{is_load, items_of, pair_up, paired}
use Rattle.authority_model.specs.Legal.{Legal}
use Rattle.authority_laws.proofs.Tracing.{access}
use Rattle.journal_audit.specs.declared.auditing.Auditor.{Auditor}
use Rattle.journal_audit.specs.declared.auditing.Finding.{Finding}
use Rattle.journal_audit.specs.declared.auditing.Finding.TheVariants.{Accepted, Faulty}
use Rattle.journal_audit.specs.declared.clause.Clause.{Clause}
use Rattle.journal_audit.specs.Fault.{Breaks, Finds, IsFaultyAt, yes_count}
use Rattle.journal_audit.specs.Steps.{IsAt, IsAtOne, StepsOver, finding_of, first_of, item_with, loads_behind, rest_of}

-- An audit has come to the entry at a place of a history.
pub record Reached (h : History) (k : ℕ) (a : Auditor) : Type 0 where
  pub past : List Item
  pub at : IsAt past a
  pub joined : reverse (paired (drop k h.entries) a.left.now) ++ past ≡ items_of h
  pub place : length past ≡ k
  pub counted : loads past + length a.left.now ≡ length h.loads

-- the first of entries is paired with the load that it names
paired_step : (e : Entry) (es : List Entry) (left : List Loaded) → paired (e ∷ es) left ≡ item_with e left ∷ paired es (loads_behind e.event left)
paired_step e es left = go (is_load e.event) left
  where
    go : (b : Bool) (left : List Loaded) → pair_up e b left (paired es) ≡ record { entry = e; loaded = if b then first_of left else None } ∷ paired es (if b then rest_of left else left)
    go false left = refl
    go true [] = refl
    go true (l ∷ left) = refl

-- a load is named, or left
named_or_left : (b : Bool) (left : List Loaded) (n : ℕ) → (n + (if is_some (if b then first_of left else None) then 1 else 0)) + length (if b then rest_of left else left) ≡ n + length left
named_or_left false left n = omega arith
named_or_left true [] n = omega arith
named_or_left true (l ∷ left) n = omega arith

-- the entry at a place stands between those before and behind it
joined_step : (h : History) (k : ℕ) (left : List Loaded) (past : List Item) (e : Entry) → k < length h.entries → e ≡ get_or h.entries k e → reverse (paired (drop k h.entries) left) ++ past ≡ items_of h
    → reverse (paired (drop (k + 1) h.entries) (loads_behind e.event left)) ++ item_with e left ∷ past ≡ items_of h
joined_step h k left past e lt is joined =
    let parts : drop k h.entries ≡ e ∷ drop (k + 1) h.entries = drop-cons h.entries k e lt ∙ rw (← is, add-one) refl in
    let later : List Item = paired (drop (k + 1) h.entries) (loads_behind e.event left) in
    sym (append_assoc (reverse later) (item_with e left ∷ []) past)
    ∙ ap (λ (xs : List Item). xs ++ past) (sym (reverse-append (item_with e left ∷ []) later))
    ∙ ap (λ (xs : List Item). reverse xs ++ past) (sym (ap (λ es. paired es left) parts ∙ paired_step e (drop (k + 1) h.entries) left))
    ∙ joined

-- an audit that went over an entry has come to the next one
pub reached_next : (h : History) (k : ℕ) (a new : Auditor) (e : Entry) (r : Reached h k a) → k < length h.entries → e ≡ get_or h.entries k e
    → StepsOver r.past (item_with e a.left.now) (loads_behind e.event a.left.now) new None → Reached h (k + 1) new
reached_next h k a new e r lt is over = record {
  past = item_with e a.left.now ∷ r.past;
  at = over.0;
  joined = ap (λ left. reverse (paired (drop (k + 1) h.entries) left) ++ item_with e a.left.now ∷ r.past) over.1 ∙ joined_step h k a.left.now r.past e lt is r.joined;
  place = let place = r.place in omega (arith, place);
  counted = ap (λ (left : List Loaded). loads (item_with e a.left.now ∷ r.past) + length left) over.1 ∙ named_or_left (is_load e.event) a.left.now (loads r.past) ∙ r.counted;
}

-- an entry that breaks a clause is the first faulty one
pub reached_fault : (h : History) (k : ℕ) (a new : Auditor) (e : Entry) (clause : Clause) (r : Reached h k a) → k < length h.entries → e ≡ get_or h.entries k e
    → StepsOver r.past (item_with e a.left.now) (loads_behind e.event a.left.now) new (Some clause) → Finds h (Faulty k clause)
reached_fault h k a new e clause r lt is broken = inl (record {
  past = r.past;
  item = item_with e a.left.now;
  later = reverse (paired (drop (k + 1) h.entries) (loads_behind e.event a.left.now));
  parts = sym (joined_step h k a.left.now r.past e lt is r.joined);
  place_is = sym r.place;
  legal = r.at.legal;
  breaks = broken;
})

-- an audit at its start
pub reached_first : (h : History) (a : Auditor) → IsAt [] a → a.left.now ≡ h.loads → Reached h 0 a
reached_first h a at left = record {
  past = [];
  at = at;
  joined = ap (λ ls. reverse (paired h.entries ls) ++ []) left ∙ append-nil (items_of h);
  place = refl;
  counted = let same = ap length left in omega (arith, same);
}

-- an audit that has come to one history
pub reached_one : (h : History) (k : ℕ) (a : Auditor) → Reached h k a → IsAtOne a
reached_one h k a r = record { past = r.past; is = r.at }

-- an audit that went over all entries
pub reached_end : (h : History) (k : ℕ) (a : Auditor) → Reached h k a → length h.entries ≤ k → Finds h (finding_of a (length h.entries))
reached_end h k a r end = go a.left.now (length a.left.now == 0) refl r.counted
  where
    all : r.past ≡ items_of h
    all = ap (λ (es : List Entry). reverse (paired es a.left.now) ++ r.past) (sym (drop_all k h.entries end)) ∙ r.joined

    legal : Legal (items_of h)
    legal = subst Legal all r.at.legal

    go : (left : List Loaded) (b : Bool) → (length left == 0) ≡ b → loads r.past + length left ≡ length h.loads → Finds h (if b then Accepted (length h.entries) a.yes else Faulty (length h.entries) Clause.Loads)
    go left true e counted = record {
      legal = record { items = legal; loads = ap loads (sym all) ∙ (let none = (Decides-eqb (length left) 0).0 e in let sum = counted in omega (arith, none, sum)) };
      licensed = access (items_of h) legal;
      entries_are = refl;
      yes_is = r.at.yes_is ∙ ap yes_count all;
    }
    go [] false e counted = absurd (cc e)
    go (l ∷ left) false e counted = inr (record {
      items = legal;
      few = let same = ap loads all in let sum = counted in omega (arith, same, sum);
      place_is = refl;
      clause_is = refl;
    })
