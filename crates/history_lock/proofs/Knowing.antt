-- Who knows the kept cause.
use Rattle.std.proofs.Common.{◌≡◌, List, Some, None, Option, refl, sym, ap, ◌∙◌, subst}
use Rattle.std.specs.Prelude.{MatchOption, IfSome}
use Rattle.history_lock.specs.declared.machine.EndCause.{EndCause}
use Rattle.history_lock.specs.Known.{Known}
use Rattle.history_lock.specs.Causes.{KnowsEnd, known_or}

module _ {I : Type 0} where
  -- one who knows no cause
  pub knows_none : (h : List I) (kept : Option EndCause) (whole : List I) → KnowsEnd None h kept whole
  knows_none h kept whole cause e = absurd (cc (e))

  -- one who knows the kept cause and the whole history
  pub knows_self : (kept : Option EndCause) (h : List I) → KnowsEnd kept h kept h
  knows_self kept h cause e = (e, refl)

  pub knows_trans : (a b c : Option EndCause) (f g h : List I) → KnowsEnd a f b g → KnowsEnd b g c h → KnowsEnd a f c h
  knows_trans a b c f g h first second cause e =
      let p = first cause e in
      let q = second cause p.0 in
      (q.0, p.1 ∙ q.1)

  -- where no cause is kept, none is known
  pub knew_none : (known kept : Option EndCause) (h whole : List I) → KnowsEnd known h kept whole → kept ≡ None → known ≡ None
  knew_none None kept h whole knows none = refl
  knew_none (Some cause) kept h whole knows none = let p = knows cause refl in absurd (cc (p.0, none))

  -- so whatever comes is consistent with it
  pub knows_nothing : (known kept : Option EndCause) (h whole : List I) → KnowsEnd known h kept whole → kept ≡ None → (after : Option EndCause) (more : List I) → KnowsEnd known h after more
  knows_nothing known kept h whole knows none after more cause e = let p = knows cause e in absurd (cc (p.0, none))

  -- one who is told the kept cause knows it
  pub told_kept : (known kept now : Option EndCause) (h whole : List I) → KnowsEnd known h kept whole → now ≡ known_or known kept → now ≡ kept
  told_kept None kept now h whole knows is = is
  told_kept (Some cause) kept now h whole knows is = is ∙ sym (knows cause refl).0

  -- of two who know, either serves
  pub either_knows : (p q kept : Option EndCause) (h g w whole : List I) → KnowsEnd p h kept whole → KnowsEnd q g kept whole → (h ≡ whole → w ≡ whole) → (g ≡ whole → w ≡ whole)
      → KnowsEnd (known_or p q) w kept whole
  either_knows None q kept h g w whole first second of_h of_g cause e = let x = second cause e in (x.0, of_g x.1)
  either_knows (Some d) q kept h g w whole first second of_h of_g cause e = let x = first cause e in (x.0, of_h x.1)

  -- what the first knew is known
  pub first_knows : (p q kept : Option EndCause) (h w whole : List I) → KnowsEnd p h kept whole → (h ≡ whole → w ≡ whole) → KnowsEnd p h (known_or p q) w
  first_knows None q kept h w whole first of_h cause e = absurd (cc (e))
  first_knows (Some d) q kept h w whole first of_h cause e = let x = first cause e in (e, x.1 ∙ sym (of_h x.1))

  -- and so is what the second knew
  pub second_knows : (p q kept : Option EndCause) (h g w whole : List I) → KnowsEnd p h kept whole → KnowsEnd q g kept whole → (g ≡ whole → w ≡ whole) → KnowsEnd q g (known_or p q) w
  second_knows None q kept h g w whole first second of_g cause e = let x = second cause e in (e, x.1 ∙ sym (of_g x.1))
  second_knows (Some d) q kept h g w whole first second of_g cause e = let x = first d refl in let y = second cause e in (sym x.0 ∙ y.0, y.1 ∙ sym (of_g y.1))

  -- a pass that took a note of the book knows the kept cause, if there is one: it stood for p and then for p', and the book's cause was k and then k'
  pub told_ended : (p p' w : Known I) (k k' : Option EndCause) (whole : List I) → p' ≡ p → k' ≡ k → KnowsEnd p.ended p.history k whole → w.ended ≡ known_or p'.ended k' → w.ended ≡ k
  told_ended p p' w k k' whole same here knows is = told_kept p.ended k w.ended p.history whole knows (is ∙ (λ i. known_or (same i).ended (here i)))

  -- the cause that an end answers is the one that was known
  pub end_known : (known kept : Option EndCause) (h whole : List I) (cause result : EndCause) → KnowsEnd known h kept whole → MatchOption kept (result ≡ cause) (λ first. result ≡ first)
      → IfSome known (λ c. result ≡ c)
  end_known None kept h whole cause result knows first = tt
  end_known (Some c) kept h whole cause result knows first = subst (λ (o : Option EndCause). MatchOption o (result ≡ cause) (λ x. result ≡ x)) (knows c refl).0 first

  -- one who is told the cause that an end answers knows it, whether it knew one before or not
  pub told_end : (known kept now : Option EndCause) (h whole : List I) (cause result : EndCause) → KnowsEnd known h kept whole → MatchOption kept (result ≡ cause) (λ first. result ≡ first)
      → now ≡ known_or known (Some result) → now ≡ Some result
  told_end None kept now h whole cause result knows first is = is
  told_end (Some c) kept now h whole cause result knows first is = is ∙ ap Some (sym (subst (λ (o : Option EndCause). MatchOption o (result ≡ cause) (λ x. result ≡ x)) (knows c refl).0 first))

  -- who knows a kept cause knows the whole list
  pub whole_known : (known kept : Option EndCause) (h whole list : List I) → KnowsEnd known h kept whole → whole ≡ list → IfSome known (λ _. list ≡ h)
  whole_known None kept h whole list knows is = tt
  whole_known (Some c) kept h whole list knows is = sym ((knows c refl).1 ∙ is)
