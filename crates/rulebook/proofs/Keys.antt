-- The rows of a map by texts, after one is put in and after its value is changed.
use Rattle.std.proofs.Common.{◌≡◌, ℕ, zero, suc, Bool, true, false, true≢false, cond, ◌&&◌, ◌==◌, List, [], ◌∷◌, Option, Some, None, refl, sym, ap, ◌∙◌, inl, inr, bytes_eq, is_some, slice_get, position, option_map}
use Rattle.std.specs.Prelude.{if◌then◌else◌, unwrap_or}
use Rattle.std.specs.Map.{keys_of}
use Rattle.std.proofs.lemmas.Bool.Decides.{Decides-eqb}
use Rattle.std.proofs.lemmas.Slice.Eq.{bytes_eq-Decides}
use Rattle.indexmap.specs.IndexMap.{insert_entry, set_value_at}
use Rattle.authority_model.specs.Lists.{or_else, when}
use Rattle.authority_model.specs.Words.{Bytes}
use Rattle.policy_decide.proofs.Lasts.{or_else-none}
use Rattle.rulebook.specs.Indexes.{TextKey, at_text, listed, add_where, add_place}
use Rattle.rulebook.specs.WorldIndexes.{at_process}
use Rattle.rulebook.proofs.Exact.{both, tells}
use Rattle.rulebook.proofs.Firsts.{position-cons}

-- comparing does not depend on the order
pub same_bytes : (xs ys : Bytes) → bytes_eq xs ys ≡ bytes_eq ys xs
same_bytes xs ys = elim (tells (bytes_eq xs ys)) [
  | inl hit ↦ hit ∙ sym ((bytes_eq-Decides ys xs).1 (sym ((bytes_eq-Decides xs ys).0 hit)))
  | inr miss ↦ miss ∙ elim (tells (bytes_eq ys xs)) [ inl hit ↦ absurd (true≢false (sym ((bytes_eq-Decides xs ys).1 (sym ((bytes_eq-Decides ys xs).0 hit))) ∙ miss)) | inr too ↦ sym too ]
]

-- equality of keys
abbrev pub same_key : TextKey → TextKey → Bool
same_key k l = bytes_eq k.items l.items

cond_twice : {A : Type 0} (b : Bool) (x y z : A) → cond b x z ≡ cond b x (cond b y z)
cond_twice true x y z = refl
cond_twice false x y z = refl

swapped : {A : Type 0} (a b : Bool) (x y z : A) → (a ≡ true → b ≡ false) → cond a x (cond b y z) ≡ cond b y (cond a x z)
swapped true true x y z apart = absurd (true≢false (apart refl))
swapped true false x y z apart = refl
swapped false b x y z apart = refl

put_here : {X : Type 0} (b : Bool) (k : TextKey) (v : X) (e : TextKey × X) (es rest : List (TextKey × X)) (q : Bytes) → same_key k e.0 ≡ b
    → at_text rest q ≡ cond (bytes_eq k.items q) (Some v) (at_text es q)
    → at_text (if b then (e.0, v) ∷ es else e ∷ rest) q ≡ cond (bytes_eq k.items q) (Some v) (at_text (e ∷ es) q)
put_here true k v e es rest q same later =
    let one : k.items ≡ e.0.items = (bytes_eq-Decides k.items e.0.items).0 same in
    let test : bytes_eq q e.0.items ≡ bytes_eq k.items q = ap (bytes_eq q) (sym one) ∙ same_bytes q k.items in
    ap (λ b. cond b (Some v) (at_text es q)) test
    ∙ cond_twice (bytes_eq k.items q) (Some v) (Some e.1) (at_text es q)
    ∙ ap (λ b. cond (bytes_eq k.items q) (Some v) (cond b (Some e.1) (at_text es q))) (sym test)
put_here false k v e es rest q same later =
    ap (cond (bytes_eq q e.0.items) (Some e.1)) later
    ∙ swapped (bytes_eq q e.0.items) (bytes_eq k.items q) (Some e.1) (Some v) (at_text es q)
    (λ hit. elim (tells (bytes_eq k.items q)) [
      | inl too ↦ absurd (true≢false (sym ((bytes_eq-Decides k.items e.0.items).1 ((bytes_eq-Decides k.items q).0 too ∙ (bytes_eq-Decides q e.0.items).0 hit)) ∙ same))
      | inr miss ↦ miss
    ])

-- what is at a text after a row is put in
pub put-text : {X : Type 0} (es : List (TextKey × X)) (k : TextKey) (v : X) (q : Bytes)
    → at_text (insert_entry same_key es k v) q ≡ cond (bytes_eq k.items q) (Some v) (at_text es q)
put-text [] k v q = ap (λ b. cond b (Some v) None) (same_bytes q k.items)
put-text (e ∷ es) k v q = put_here (same_key k e.0) k v e es (insert_entry same_key es k v) q refl (put-text es k v q)

-- the row at this index is the first of this text
abbrev IsAt : Bytes → List (TextKey × List ℕ) → ℕ → Type 0
IsAt g [] i = ⊥
IsAt g (e ∷ es) zero = bytes_eq g e.0.items ≡ true
IsAt g (e ∷ es) (suc i) = (bytes_eq g e.0.items ≡ false) × IsAt g es i

later_place : (b : Bool) (o : Option ℕ) (i : ℕ) → cond b (Some 0) (option_map suc o) ≡ Some (suc i) → (b ≡ false) × (o ≡ Some i)
later_place true o i e = absurd (cc)
later_place false None i e = absurd (cc)
later_place false (Some n) i e = (refl, cc)

first_place : (b : Bool) (o : Option ℕ) → cond b (Some 0) (option_map suc o) ≡ Some 0 → b ≡ true
first_place true o e = refl
first_place false None e = absurd (cc)
first_place false (Some n) e = absurd (cc)

found_at : (g : Bytes) (es : List (TextKey × List ℕ)) (i : ℕ) → position (λ k. bytes_eq g k.items) (keys_of es) ≡ Some i → IsAt g es i
found_at g [] i e = absurd (cc)
found_at g (x ∷ es) zero e = first_place _ _ (sym (position-cons (λ k. bytes_eq g k.items) x.0 (keys_of es)) ∙ e)
found_at g (x ∷ es) (suc i) e =
    let parts = later_place _ _ i (sym (position-cons (λ k. bytes_eq g k.items) x.0 (keys_of es)) ∙ e) in
    (parts.0, found_at g es i parts.1)

changed_here : (b : Bool) (old w : List ℕ) (o : Option (List ℕ)) (p : ℕ) → w ≡ add_place old p → unwrap_or (cond b (Some w) o) [] ≡ add_where b (unwrap_or (cond b (Some old) o) []) p
changed_here true old w o p is = is
changed_here false old w o p is = refl

changed_later : (b c : Bool) (x : List ℕ) (o r : Option (List ℕ)) (p : ℕ) → (b ≡ true → c ≡ false) → unwrap_or r [] ≡ add_where c (unwrap_or o []) p
    → unwrap_or (cond b (Some x) r) [] ≡ add_where c (unwrap_or (cond b (Some x) o) []) p
changed_later true c x o r p apart rest = sym (ap (λ t. add_where t x p) (apart refl))
changed_later false c x o r p apart rest = rest

changed : (g : Bytes) (es : List (TextKey × List ℕ)) (i : ℕ) (k : TextKey) (old w : List ℕ) (p : ℕ) (q : Bytes) → IsAt g es i → slice_get es i ≡ Some (k, old) → w ≡ add_place old p
    → listed (set_value_at es i w) q ≡ add_where (bytes_eq g q) (listed es q) p
changed g [] i k old w p q at is new = absurd at
changed g (e ∷ es) zero k old w p q at is new =
    let value : e.1 ≡ old = cc in
    let one : g ≡ e.0.items = (bytes_eq-Decides g e.0.items).0 at in
    let test : bytes_eq q e.0.items ≡ bytes_eq g q = ap (bytes_eq q) (sym one) ∙ same_bytes q g in
    ap (λ b. unwrap_or (cond b (Some w) (at_text es q)) []) test
    ∙ changed_here (bytes_eq g q) e.1 w (at_text es q) p (new ∙ ap (λ ps. add_place ps p) (sym value))
    ∙ ap (λ b. add_where (bytes_eq g q) (unwrap_or (cond b (Some e.1) (at_text es q)) []) p) (sym test)
changed g (e ∷ es) (suc i) k old w p q at is new =
    changed_later (bytes_eq q e.0.items) (bytes_eq g q) e.1 (at_text es q) (at_text (set_value_at es i w) q) p
    (λ hit. elim (tells (bytes_eq g q)) [
      | inl too ↦ absurd (true≢false (sym ((bytes_eq-Decides g e.0.items).1 ((bytes_eq-Decides g q).0 too ∙ (bytes_eq-Decides q e.0.items).0 hit)) ∙ at.0))
      | inr miss ↦ miss
    ])
    (changed g es i k old w p q at.1 is new)

-- what is listed at a text after a place goes last in the list that a look-up found
pub place-added : (g : Bytes) (es : List (TextKey × List ℕ)) (i : ℕ) (k : TextKey) (old w : List ℕ) (p : ℕ) (q : Bytes)
    → Some i ≡ position (λ k. bytes_eq g k.items) (keys_of es) → slice_get es i ≡ Some (k, old) → w ≡ add_place old p
    → listed (set_value_at es i w) q ≡ add_where (bytes_eq g q) (listed es q) p
place-added g es i k old w p q found is new = changed g es i k old w p q (found_at g es i (sym found)) is new

none_is : {A : Type 0} (o : Option A) → is_some o ≡ false → o ≡ None
none_is None e = refl
none_is (Some x) e = absurd (true≢false e)

first_put : {A : Type 0} (b : Bool) (o : Option A) (x : A) → (b ≡ true → o ≡ None) → cond b (Some x) o ≡ or_else o (when b x)
first_put true o x none = sym (ap (λ r. or_else r (Some x)) (none refl))
first_put false o x none = sym (or_else-none o)

-- what a text gets where it has nothing yet
pub put-where_none : {X : Type 0} (es : List (TextKey × X)) (text q : Bytes) (x : X) (o : Option X) → o ≡ at_text es text → is_some o ≡ false
    → cond (bytes_eq text q) (Some x) (at_text es q) ≡ or_else (at_text es q) (when (bytes_eq text q) x)
put-where_none es text q x o is none =
    first_put (bytes_eq text q) (at_text es q) x (λ hit. ap (at_text es) (sym ((bytes_eq-Decides text q).0 hit)) ∙ sym is ∙ none_is o none)

kept_where : {A : Type 0} (b : Bool) (o : Option A) (x : A) → (b ≡ true → is_some o ≡ true) → o ≡ or_else o (when b x)
kept_where b (Some y) x some = refl
kept_where true None x some = absurd (true≢false (sym (some refl)))
kept_where false None x some = refl

-- a text that has something keeps it
pub kept-where_some : {X : Type 0} (es : List (TextKey × X)) (text q : Bytes) (x : X) (o : Option X) → o ≡ at_text es text → is_some o ≡ true
    → at_text es q ≡ or_else (at_text es q) (when (bytes_eq text q) x)
kept-where_some es text q x o is some =
    kept_where (bytes_eq text q) (at_text es q) x (λ hit. ap (λ t. is_some (at_text es t)) (sym ((bytes_eq-Decides text q).0 hit)) ∙ ap is_some (sym is) ∙ some)

-- what a pid and a start get where they have nothing yet
pub put-process_none : (es : List ((ℕ × ℕ) × ℕ)) (pid start p s place : ℕ) (o : Option ℕ) → o ≡ at_process es pid start → is_some o ≡ false
    → cond ((pid == p) && (start == s)) (Some place) (at_process es p s) ≡ or_else (at_process es p s) (when ((pid == p) && (start == s)) place)
put-process_none es pid start p s place o is none =
    first_put ((pid == p) && (start == s)) (at_process es p s) place (λ hit.
    let parts = both (pid == p) (start == s) hit in
    ap (λ n. at_process es n s) (sym ((Decides-eqb pid p).0 parts.0)) ∙ ap (at_process es pid) (sym ((Decides-eqb start s).0 parts.1)) ∙ sym is ∙ none_is o none)
