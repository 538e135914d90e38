-- Bytes that are cut at a separator.
use Rattle.std.proofs.Common.{◌≡◌, ◌≢◌, ℕ, Bool, true, false, cond, ◌==◌, List, [], ◌∷◌, ◌++◌, Option, Some, None, refl, ap, eq-eqb, subst, ◌∙◌, inl, inr, arith}
use Rattle.std.specs.Prelude.{option_map}
use Rattle.std.proofs.lemmas.Bool.{ne_eqb}
use Rattle.std.proofs.lemmas.Bool.Decides.{nat_tests}
use Rattle.pk_types.specs.Pieces.{Lacks, IsCut}
use Rattle.audit_words.specs.Lines.{onto_front, cut_at}
use Rattle.audit_words.proofs.Tests.{chosen}

abbrev pub a_cut : List ℕ × List ℕ → Option (List ℕ × List ℕ)
a_cut x = Some x

abbrev pub no_cut : Option (List ℕ × List ℕ)
no_cut = None

pub separator_at : (separator : ℕ) (before after : List ℕ) → Lacks separator before → cut_at separator (before ++ separator ∷ after) ≡ a_cut (before, after)
separator_at separator [] after lacks = ap (λ (t : Bool). cond t (Some ([], after)) (option_map (onto_front separator) (cut_at separator after))) (eq-eqb separator separator refl)
separator_at separator (b ∷ bs) after lacks =
    ap (λ (t : Bool). cond t (Some ([], bs ++ separator ∷ after)) (option_map (onto_front b) (cut_at separator (bs ++ separator ∷ after)))) (ne_eqb b separator lacks.0)
    ∙ ap (λ (o : Option (List ℕ × List ℕ)). option_map (onto_front b) o) (separator_at separator bs after lacks.1)

pub no_separator : (separator : ℕ) (w : List ℕ) → Lacks separator w → cut_at separator w ≡ no_cut
no_separator separator [] lacks = refl
no_separator separator (b ∷ bs) lacks =
    ap (λ (t : Bool). cond t (Some ([], bs)) (option_map (onto_front b) (cut_at separator bs))) (ne_eqb b separator lacks.0)
    ∙ ap (λ (o : Option (List ℕ × List ℕ)). option_map (onto_front b) o) (no_separator separator bs lacks.1)

-- the cut that a function of the code makes
pub cut_is_at : (separator : ℕ) (w before after : List ℕ) → IsCut separator w before after → cut_at separator w ≡ a_cut (before, after)
cut_is_at separator w before after cut = ap (cut_at separator) cut.whole ∙ separator_at separator before after cut.first

cut_is : (x y : List ℕ × List ℕ) → a_cut x ≡ Some y → x ≡ y
cut_is x y e = cc

none_cut : (x : List ℕ × List ℕ) → no_cut ≡ Some x → ⊥
none_cut x e = cc

some_cut : (x : List ℕ × List ℕ) → a_cut x ≡ None → ⊥
some_cut x e = cc

is_separator : (separator b : ℕ) → (b == separator) ≡ true → b ≡ separator
is_separator separator b e = grind (arith, nat_tests)

is_other : (separator b : ℕ) → (b == separator) ≡ false → b ≢ separator
is_other separator b e = λ z. absurd (grind (arith, nat_tests))

map_some : (b : ℕ) (o : Option (List ℕ × List ℕ)) (x : List ℕ × List ℕ) → option_map (onto_front b) o ≡ Some x
    → (y : List ℕ × List ℕ) × (o ≡ Some y) × (onto_front b y ≡ x)
map_some b None x e = absurd (none_cut x e)
map_some b (Some y) x e = (y, refl, cut_is (onto_front b y) x e)

map_none : (b : ℕ) (o : Option (List ℕ × List ℕ)) → option_map (onto_front b) o ≡ None → o ≡ None
map_none b None e = refl
map_none b (Some y) e = absurd (some_cut (onto_front b y) e)

-- the bytes around a cut, of which the first ones lack the separator
pub record Cut (separator : ℕ) (w : List ℕ) (x : List ℕ × List ℕ) : Type 0 where
  pub whole : w ≡ x.0 ++ separator ∷ x.1
  pub lacks : Lacks separator x.0

pub cut_only : (separator : ℕ) (w : List ℕ) (x : List ℕ × List ℕ) → cut_at separator w ≡ Some x → Cut separator w x
cut_only separator [] x e = absurd (none_cut x e)
cut_only separator (b ∷ bs) x e =
    elim (chosen (b == separator) (Some ([], bs)) (option_map (onto_front b) (cut_at separator bs)) (Some x) e) [
      | inl h ↦ subst (λ (y : List ℕ × List ℕ). Cut separator (b ∷ bs) y) (cut_is ([], bs) x h.1)
          (record { whole = ap (λ (k : ℕ). k ∷ bs) (is_separator separator b h.0); lacks = tt })
      | inr h ↦
          let p = map_some b (cut_at separator bs) x h.1 in
          let c = cut_only separator bs p.0 p.1 in
          subst (λ (z : List ℕ × List ℕ). Cut separator (b ∷ bs) z) p.2
          (record { whole = ap (λ (t : List ℕ). b ∷ t) c.whole; lacks = (is_other separator b h.0, c.lacks) })
    ]

-- where there is no cut there is no separator
pub none_lacks : (separator : ℕ) (w : List ℕ) → cut_at separator w ≡ None → Lacks separator w
none_lacks separator [] e = tt
none_lacks separator (b ∷ bs) e =
    elim (chosen (b == separator) (Some ([], bs)) (option_map (onto_front b) (cut_at separator bs)) None e) [
      | inl h ↦ absurd (some_cut ([], bs) h.1)
      | inr h ↦ (is_other separator b h.0, none_lacks separator bs (map_none b (cut_at separator bs) h.1))
    ]
