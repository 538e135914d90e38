-- A list that copies another, entry after entry.
use Rattle.std.proofs.Common.{◌≡◌, ℕ, zero, suc, ◌<◌, ◌≤◌, List, [], ◌∷◌, ◌++◌, length, take, map, Some, Bor, ap, sym, ◌∙◌, subst, arith, length-append}
use Rattle.std.specs.Prelude.{slice_get}
use Rattle.pk_types.specs.Text.{IsText}
use Rattle.keyfile_text.specs.Maps.{PairMap, pair_in, pairs_in, group_in, PairsAreTexts, GroupsAreTexts}

some_is : {X : Type 0} (a b : X) → Some a ≡ Some b → a ≡ b
some_is a b e = cc

pub entry_at : {X Y : Type 0} (f : X → Y) (es : List X) (i : ℕ) (x : X) → Some x ≡ slice_get es i → (i < length (map f es)) × (take (suc i) (map f es) ≡ take i (map f es) ++ f x ∷ [])
entry_at f [] i x e = absurd (cc)
entry_at f (y ∷ es) zero x e = (omega arith, ap (λ r. f r ∷ []) (sym (some_is x y e)))
entry_at f (y ∷ es) (suc i) x e = let more = entry_at f es i x e in (omega arith, ap (λ r. f y ∷ r) more.1)

pub one_copied : {Y : Type 0} (whole old new : List Y) (y : Y) (i : ℕ) → i ≡ length old → old ≡ take (length old) whole → (i < length whole) × (take (suc i) whole ≡ take i whole ++ y ∷ [])
    → new ≡ old ++ y ∷ [] → (new ≡ take (length new) whole) × (length new ≤ length whole)
one_copied whole old new y i at so more push =
    let len : length new ≡ suc i = ap length push ∙ length-append old (y ∷ []) ∙ omega arith in (
      push ∙ ap (λ r. r ++ y ∷ []) so ∙ ap (λ n. take n whole ++ y ∷ []) (sym at) ∙ sym more.1 ∙ ap (λ n. take n whole) (sym len),
      omega arith,
    )

pub pair_texts : (es : List (Bor (List ℕ) × Bor (List ℕ))) (i : ℕ) (e : Bor (List ℕ) × Bor (List ℕ)) → Some e ≡ slice_get es i → PairsAreTexts (map pair_in es)
    → IsText e.0.now × IsText e.1.now
pair_texts [] i e is texts = absurd (cc)
pair_texts (x ∷ es) zero e is texts = subst (λ (p : Bor (List ℕ) × Bor (List ℕ)). IsText p.0.now × IsText p.1.now) (sym (some_is e x is)) (texts.0, texts.1)
pair_texts (x ∷ es) (suc i) e is texts = pair_texts es i e is texts.2

pub group_texts : (es : List (Bor (List ℕ) × PairMap)) (i : ℕ) (e : Bor (List ℕ) × PairMap) → Some e ≡ slice_get es i → GroupsAreTexts (map group_in es)
    → IsText e.0.now × PairsAreTexts (pairs_in e.1)
group_texts [] i e is texts = absurd (cc)
group_texts (x ∷ es) zero e is texts = subst (λ (p : Bor (List ℕ) × PairMap). IsText p.0.now × PairsAreTexts (pairs_in p.1)) (sym (some_is e x is)) (texts.0, texts.1)
group_texts (x ∷ es) (suc i) e is texts = group_texts es i e is texts.2
