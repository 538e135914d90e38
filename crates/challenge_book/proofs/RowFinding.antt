-- What the slab has at the keys of its index, as a list of challenges.
use Rattle.std.proofs.Common.{◌≡◌, inl, inr, ℕ, Bool, true, false, cond, nat_eq, List, [], ◌∷◌, ◌++◌, refl, sym, ap, ◌∙◌, subst, Option, Some, None, length, suc}
use Rattle.std.specs.Prelude.{option_to_list, find, map, slice_get}
use Rattle.std.specs.Option.{IsSomeAnd, option_and_then, option_map}
use Rattle.std.specs.Map.{lookup}
use Rattle.std.proofs.lemmas.Bool.Decides.{eqb_tells}
use Rattle.std.proofs.lemmas.Option.{slice_get-map}
use Rattle.slab.specs.Slab.{Slab, get}
use Rattle.authority_model.specs.declared.pending.Pending.{Pending}
use Rattle.entry_changes.specs.Changes.{is_of_entry}
use Rattle.challenge_book.specs.declared.filed.Filed.{Filed}
use Rattle.challenge_book.specs.Rows.{row_of, IsFiled, rows_in, AreRows}

-- an option that has a value with a property, as that value
pub held : {A : Type 0} (o : Option A) (P : A → Type 0) → IsSomeAnd o P → (x : A) × (o ≡ Some x) × P x
held None P h = absurd h
held (Some x) P h = (x, refl, h)

-- the one value that an option has
pub some_is : {A : Type 0} (x y : A) → Some x ≡ Some y → x ≡ y
some_is x y e = cc

-- the entries of an index: each a place of an entry, with a slab key
abbrev pub Entries : Type 0
Entries = List (ℕ × ℕ)

-- the challenge that is stored at a slab key
abbrev pub row_at : Slab Filed → ℕ → Option Pending
row_at s k = option_map row_of (get s k)

-- the challenge of the first entry stands first
pub head_row : (s : Slab Filed) (e : ℕ × ℕ) (es : Entries) (f : Filed) → get s e.1 ≡ Some f → rows_in s (e ∷ es) ≡ f.row ∷ rows_in s es
head_row s e es f is = ap (λ o. option_to_list (option_map row_of o) ++ rows_in s es) is

-- the slab key that the index has for an entry leads to the first challenge of that entry
pub found : (s : Slab Filed) (es : Entries) (c : ℕ) → AreRows s es → option_and_then (row_at s) (lookup (nat_eq c) es) ≡ find (is_of_entry c) (rows_in s es)
found s [] c rows = refl
found s (e ∷ es) c rows =
    let h = held (get s e.1) (IsFiled e.0) rows.0 in
    go h.0 h.1 (nat_eq c e.0) (found s es c rows.1.1)
    ∙ ap (λ n. cond (nat_eq c n) (Some h.0.row) (find (is_of_entry c) (rows_in s es))) (sym h.2.entry)
    ∙ ap (find (is_of_entry c)) (sym (head_row s e es h.0 h.1))
  where
    go : (f : Filed) → get s e.1 ≡ Some f → (b : Bool) → option_and_then (row_at s) (lookup (nat_eq c) es) ≡ find (is_of_entry c) (rows_in s es) → option_and_then (row_at s) (cond b (Some e.1) (lookup (nat_eq c) es)) ≡ cond b (Some f.row) (find (is_of_entry c) (rows_in s es))
    go f is true rest = ap (option_map row_of) is
    go f is false rest = rest

-- each entry of the index has a challenge
shown : (s : Slab Filed) (es : Entries) → AreRows s es → map Some (rows_in s es) ≡ map (λ (e : ℕ × ℕ). row_at s e.1) es
shown s [] rows = refl
shown s (e ∷ es) rows =
    let h = held (get s e.1) (IsFiled e.0) rows.0 in
    ap (map Some) (head_row s e es h.0 h.1) ∙ ap (λ xs. Some h.0.row ∷ xs) (shown s es rows.1.1) ∙ ap (λ o. option_map row_of o ∷ map (λ (f : ℕ × ℕ). row_at s f.1) es) (sym h.1)

-- there are as many challenges as entries
pub counted : (s : Slab Filed) (es : Entries) → AreRows s es → length es ≡ length (rows_in s es)
counted s [] rows = refl
counted s (e ∷ es) rows =
    let h = held (get s e.1) (IsFiled e.0) rows.0 in
    ap suc (counted s es rows.1.1) ∙ ap length (sym (head_row s e es h.0 h.1))

-- an option of options that is some option wrapped is that option
joined : {A : Type 0} (o : Option (Option A)) (p : Option A) → option_map Some p ≡ o → option_and_then (λ x. x) o ≡ p
joined o None e = ap (option_and_then (λ x. x)) (sym e)
joined o (Some x) e = ap (option_and_then (λ x. x)) (sym e)

-- a look-up through an option is a look-up inside it
shift : (s : Slab Filed) (o : Option (ℕ × ℕ)) → option_and_then (λ x. x) (option_map (λ (e : ℕ × ℕ). row_at s e.1) o) ≡ option_and_then (λ (e : ℕ × ℕ). row_at s e.1) o
shift s None = refl
shift s (Some e) = refl

-- the slab key at a place of the index leads to the challenge at that place
pub nth_row : (s : Slab Filed) (es : Entries) (i : ℕ) → AreRows s es → option_and_then (λ (e : ℕ × ℕ). row_at s e.1) (slice_get es i) ≡ slice_get (rows_in s es) i
nth_row s es i rows =
    sym (shift s (slice_get es i))
    ∙ joined (option_map (λ (e : ℕ × ℕ). row_at s e.1) (slice_get es i)) (slice_get (rows_in s es) i)
    (sym (slice_get-map Some (rows_in s es) i) ∙ ap (λ xs. slice_get xs i) (shown s es rows) ∙ slice_get-map (λ (e : ℕ × ℕ). row_at s e.1) es i)

-- the slab key that the index has for an entry is that of a challenge which that entry opened
pub at_key : (s : Slab Filed) (c k : ℕ) (es : Entries) → AreRows s es → lookup (nat_eq c) es ≡ Some k → IsSomeAnd (get s k) (IsFiled c)
at_key s c k [] rows is = cc
at_key s c k (e ∷ es) rows is =
    elim (eqb_tells c e.0) [
      | inl y ↦ subst (λ n. IsSomeAnd (get s n) (IsFiled c)) (some_is e.1 k (ap (λ b. cond b (Some e.1) (lookup (nat_eq c) es)) (sym y.0) ∙ is)) (subst (λ n. IsSomeAnd (get s e.1) (IsFiled n)) (sym y.1) rows.0)
      | inr n ↦ at_key s c k es rows.1.1 (ap (λ b. cond b (Some e.1) (lookup (nat_eq c) es)) (sym n.0) ∙ is)
    ]
