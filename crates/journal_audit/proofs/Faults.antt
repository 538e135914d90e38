-- A legal history has no fault, and any history has at most one first fault.
use Rattle.std.proofs.Common.{◌≡◌, ◌<◌, ◌⊎◌, inl, inr, ℕ, List, [], ◌∷◌, ◌++◌, refl, ap, sym, ◌∙◌, subst, length, arith}
use Rattle.authority_model.specs.declared.event.Event.{Event}
use Rattle.authority_model.specs.declared.event.Event.TheVariants.{Collect}
use Rattle.authority_model.specs.declared.journal.Entry.{Entry}
use Rattle.authority_model.specs.declared.journal.History.{History}
use Rattle.authority_model.specs.declared.journal.Item.{Item}
use Rattle.authority_model.specs.Answers.{loads}
use Rattle.authority_model.specs.Items.{items_of}
use Rattle.authority_model.specs.Legal.{Follows, IsCollected, IsLegal, IsNumbered, Legal, last_moment}
use Rattle.journal_audit.specs.declared.clause.Clause.{Clause}
use Rattle.journal_audit.specs.Fault.{Breaks, CollectsAt, IsAnswered, IsFaultyAt, IsFirstFault, KeepsMoment, KeepsSalt, LeavesLoads, SaltIsNone}

-- the moment of a Collect
collects_at : (t : ℕ) (e : Entry) (event : Event) → IsCollected t e event → CollectsAt t e.moment event
collects_at t e (Collect of) h = h.0
collects_at t e event h = tt

-- the salt of a Collect
salt_is_none : (t : ℕ) (e : Entry) (event : Event) → IsCollected t e event → SaltIsNone e.salt event
salt_is_none t e (Collect of) h = h.1
salt_is_none t e event h = tt

-- both
is_collected : (t : ℕ) (e : Entry) (event : Event) → CollectsAt t e.moment event → SaltIsNone e.salt event → IsCollected t e event
is_collected t e (Collect of) m s = (m, s)
is_collected t e event m s = tt

-- an item that breaks no clause follows the history
pub follows_kept : (past : List Item) (i : Item) → IsNumbered (loads past) i.entry.event i.loaded → KeepsMoment (last_moment past) i.entry → KeepsSalt i.entry → IsAnswered past i → Follows past i
follows_kept past i numbered moment salt answered = record {
  rises = moment.0;
  bounded = moment.1;
  numbered = numbered;
  collected = is_collected (last_moment past) i.entry i.entry.event moment.2 salt;
  answered = answered;
}

-- an item that follows a history keeps the moment
keeps_moment : (past : List Item) (i : Item) → Follows past i → KeepsMoment (last_moment past) i.entry
keeps_moment past i f = (f.rises, f.bounded, collects_at (last_moment past) i.entry i.entry.event f.collected)

-- an item that follows a history breaks no clause
pub none_broken : (past : List Item) (i : Item) (clause : Clause) → Follows past i → Breaks past i clause → ⊥
none_broken past i Clause.Load f b = b f.numbered
none_broken past i Clause.Moment f b = b.1 (keeps_moment past i f)
none_broken past i Clause.Salt f b = b.2 (salt_is_none (last_moment past) i.entry i.entry.event f.collected)
none_broken past i Clause.Outputs f b = b.3 f.answered
none_broken past i Clause.Loads f b = b

-- an item breaks one clause first
one_clause : (past : List Item) (i : Item) (c d : Clause) → Breaks past i c → Breaks past i d → c ≡ d
one_clause past i Clause.Load Clause.Load a b = refl
one_clause past i Clause.Load Clause.Moment a b = absurd (a b.0)
one_clause past i Clause.Load Clause.Salt a b = absurd (a b.0)
one_clause past i Clause.Load Clause.Outputs a b = absurd (a b.0)
one_clause past i Clause.Moment Clause.Load a b = absurd (b a.0)
one_clause past i Clause.Moment Clause.Moment a b = refl
one_clause past i Clause.Moment Clause.Salt a b = absurd (a.1 b.1)
one_clause past i Clause.Moment Clause.Outputs a b = absurd (a.1 b.1)
one_clause past i Clause.Salt Clause.Load a b = absurd (b a.0)
one_clause past i Clause.Salt Clause.Moment a b = absurd (b.1 a.1)
one_clause past i Clause.Salt Clause.Salt a b = refl
one_clause past i Clause.Salt Clause.Outputs a b = absurd (a.2 b.2)
one_clause past i Clause.Outputs Clause.Load a b = absurd (b a.0)
one_clause past i Clause.Outputs Clause.Moment a b = absurd (b.1 a.1)
one_clause past i Clause.Outputs Clause.Salt a b = absurd (b.2 a.2)
one_clause past i Clause.Outputs Clause.Outputs a b = refl
one_clause past i Clause.Loads d a b = absurd a
one_clause past i c Clause.Loads a b = absurd b

-- what stands before an item of a legal history is legal with it
legal_before : (later past : List Item) → Legal (later ++ past) → Legal past
legal_before [] past legal = legal
legal_before (i ∷ later) past legal = legal_before later past legal.1

-- what stands behind the first of a list
tail_is : {A : Type 0} (x y : A) (xs ys : List A) → x ∷ xs ≡ y ∷ ys → xs ≡ ys
tail_is x y xs ys e = cc

-- the first of a list
head_is : {A : Type 0} (x y : A) (xs ys : List A) → x ∷ xs ≡ y ∷ ys → x ≡ y
head_is x y xs ys e = cc

-- two items that do not follow the legal histories before them, in one history, are one
same_place : (l m p q : List Item) (i j : Item) → Legal p → Legal q → (Follows p i → ⊥) → (Follows q j → ⊥) → l ++ i ∷ p ≡ m ++ j ∷ q → i ∷ p ≡ j ∷ q
same_place [] [] p q i j lp lq fi fj e = e
same_place [] (x ∷ m) p q i j lp lq fi fj e = absurd (fj (legal_before m (j ∷ q) (subst Legal (tail_is i x p (m ++ j ∷ q) e) lp)).0)
same_place (x ∷ l) [] p q i j lp lq fi fj e = absurd (fi (legal_before l (i ∷ p) (subst Legal (tail_is j x q (l ++ i ∷ p) (sym e)) lq)).0)
same_place (x ∷ l) (y ∷ m) p q i j lp lq fi fj e = same_place l m p q i j lp lq fi fj (tail_is x y (l ++ i ∷ p) (m ++ j ∷ q) e)

-- a history with a faulty entry is not legal
faulty_items : (h : History) (k : ℕ) (c : Clause) → IsFaultyAt h k c → Legal (items_of h) → ⊥
faulty_items h k c f legal = none_broken f.past f.item c (legal_before f.later (f.item ∷ f.past) (subst Legal f.parts legal)).0 f.breaks

-- a legal history has no fault
pub not_legal : (h : History) (k : ℕ) (c : Clause) → IsLegal h → IsFirstFault h k c → ⊥
not_legal h k c legal (inl f) = faulty_items h k c f legal.items
not_legal h k c legal (inr g) = let few = g.few in let all = legal.loads in omega (arith, few, all)

-- two faulty entries are one
same_faulty : (h : History) (k m : ℕ) (c d : Clause) (f : IsFaultyAt h k c) (g : IsFaultyAt h m d) → f.item ∷ f.past ≡ g.item ∷ g.past
same_faulty h k m c d f g = same_place f.later g.later f.past g.past f.item g.item f.legal g.legal (λ follows. none_broken f.past f.item c follows f.breaks) (λ follows. none_broken g.past g.item d follows g.breaks) (sym f.parts ∙ g.parts)

-- the place of the first fault
pub one_place : (h : History) (k m : ℕ) (c d : Clause) → IsFirstFault h k c → IsFirstFault h m d → k ≡ m
one_place h k m c d (inl f) (inl g) = f.place_is ∙ ap length (tail_is f.item g.item f.past g.past (same_faulty h k m c d f g)) ∙ sym g.place_is
one_place h k m c d (inl f) (inr g) = absurd (faulty_items h k c f g.items)
one_place h k m c d (inr f) (inl g) = absurd (faulty_items h m d g f.items)
one_place h k m c d (inr f) (inr g) = f.place_is ∙ sym g.place_is

-- the clause of the first fault
pub one_broken : (h : History) (k m : ℕ) (c d : Clause) → IsFirstFault h k c → IsFirstFault h m d → c ≡ d
one_broken h k m c d (inl f) (inl g) =
    let same = same_faulty h k m c d f g in
    one_clause g.past g.item c d
    (subst (λ i. Breaks g.past i c) (head_is f.item g.item f.past g.past same) (subst (λ past. Breaks past f.item c) (tail_is f.item g.item f.past g.past same) f.breaks))
    g.breaks
one_broken h k m c d (inl f) (inr g) = absurd (faulty_items h k c f g.items)
one_broken h k m c d (inr f) (inl g) = absurd (faulty_items h m d g f.items)
one_broken h k m c d (inr f) (inr g) = f.clause_is ∙ sym g.clause_is
