-- The newest item of a segment and of the items that proofs see.
use Rattle.std.proofs.Common.{◌≡◌, ℕ, ◌+◌, ◌-◌, ◌<◌, ◌==◌, ◌++◌, suc, Bool, false, List, [], ◌∷◌, Option, Some, None, refl, ap, sym, ◌∙◌, length, arith}
use Rattle.std.specs.Prelude.{map, reverse, slice_get}
use Rattle.std.specs.Option.{option_map}
use Rattle.std.proofs.lemmas.Bool.Decides.{nat_tests}
use Rattle.std.proofs.lemmas.List.{map-append, reverse-append}
use Rattle.authority_model.specs.declared.journal.Entry.{Entry}
use Rattle.authority_model.specs.declared.journal.Item.{Item}
use Rattle.authority_model.specs.declared.message.Output.{Output}
use Rattle.journal_segments.specs.Segments.{last_of}
use Rattle.journal_segments.specs.Text.{onto}
use Rattle.scenario_run.specs.Journals.{is_first}
use Rattle.scenario_run.specs.Text.{last_outputs}

-- the last of more than one item is that of the others
last_cons : (x y : Item) (xs : List Item) → last_of (x ∷ y ∷ xs) ≡ last_of (y ∷ xs)
last_cons x y xs =
    let one : length (x ∷ y ∷ xs) - 1 ≡ suc (length xs) = omega arith in
    let two : length (y ∷ xs) - 1 ≡ length xs = omega arith in
    ap (slice_get (x ∷ y ∷ xs)) one ∙ ap (slice_get (y ∷ xs)) (sym two)

-- the item at the end of a segment is its newest
pub last_push : (items : List Item) (i : Item) → last_of (items ++ i ∷ []) ≡ Some i
last_push [] i = refl
last_push (x ∷ []) i = last_cons x i []
last_push (x ∷ y ∷ xs) i = last_cons x y (xs ++ i ∷ []) ∙ last_push (y ∷ xs) i

-- it is the newest of the history
last_onto : (done items : List Item) (i : Item) → last_of items ≡ Some i → last_outputs (onto done items) ≡ i.entry.outputs
last_onto done [] i e = absurd (cc)
last_onto done (x ∷ []) i e = ap (λ (j : Item). j.entry.outputs) (some_same x i e)
  where
    some_same : (x i : Item) → Some x ≡ Some i → x ≡ i
    some_same x i e = cc
last_onto done (x ∷ y ∷ xs) i e = last_onto (x ∷ done) (y ∷ xs) i (sym (last_cons x y xs) ∙ e)

pub newest_outputs : (done items past : List Item) (o : Option Item) (e : Entry) → last_of items ≡ o → option_map (λ (i : Item). i.entry) o ≡ Some e → onto done items ≡ past → e.outputs ≡ last_outputs past
newest_outputs done items past None e last is whole = absurd (cc)
newest_outputs done items past (Some i) e last is whole =
    let same : i.entry ≡ e = cc in
    sym (ap (λ (x : Entry). x.outputs) same) ∙ sym (last_onto done items i last) ∙ ap last_outputs whole

-- one more item at the end is the newest in the other order
pub reversed_more : {A : Type 0} (f : A → Item) (xs : List A) (x : A) → reverse (map f (xs ++ x ∷ [])) ≡ f x ∷ reverse (map f xs)
reversed_more f xs x = ap reverse (map-append f xs (x ∷ [])) ∙ reverse-append (map f xs) (f x ∷ [])

-- a number above 0 is not 0
not_none : (n : ℕ) → (suc n == 0) ≡ false
not_none n = grind (arith, nat_tests)

-- there is none exactly where there is none in the other order
pub reversed_first : {A : Type 0} (f : A → Item) (xs : List A) → (length xs == 0) ≡ is_first (reverse (map f xs))
reversed_first f [] = refl
reversed_first f (x ∷ xs) = not_none (length xs) ∙ sym (ap is_first (reverse-append (f x ∷ []) (map f xs)) ∙ ends (reverse (map f xs)) (f x))
  where
    ends : (ys : List Item) (y : Item) → is_first (ys ++ y ∷ []) ≡ false
    ends [] y = refl
    ends (z ∷ ys) y = refl

-- one more was put at the end, where room was taken
pub pushed : {A : Type 0} (f : A → Item) (old roomy new : List A) (x : A) → roomy ≡ old → new ≡ roomy ++ x ∷ [] → reverse (map f new) ≡ f x ∷ reverse (map f old)
pushed f old roomy new x same put = ap (λ xs. reverse (map f xs)) (put ∙ ap (λ xs. xs ++ x ∷ []) same) ∙ reversed_more f old x
