-- Looking for a key among keys, and among the pairs that have them.
use Rattle.std.proofs.Common.{◌≡◌, ℕ, ◌+◌, Bool, false, ◌||◌, cond, List, [], ◌∷◌, ◌++◌, length, map, Some, None, get_or, refl, ap, sym, ◌∙◌}
use Rattle.std.specs.Prelude.{not, nat_lt, position, bytes_eq, slice_set}
use Rattle.std.specs.List.{prefix_len, list_any}
use Rattle.std.proofs.lemmas.List.{length-map, map-set, map_push, get_or-map, set-get_or}
use Rattle.std.proofs.lemmas.List.Quantifiers.{position-Some}
use Rattle.std.proofs.lemmas.Slice.Eq.{bytes_eq-Decides}
use Rattle.indexmap.specs.IndexSet.{insert_key}
use Rattle.pk_types.specs.declared.values.Pair.{Pair}
use Rattle.xml_pieces.specs.Keyed.{keys_of, has_key, place_of_key}

-- a test of f's values
list_any-map : {X Y : Type 0} (f : X → Y) (test : Y → Bool) (xs : List X) → list_any test (map f xs) ≡ list_any (λ x. test (f x)) xs
list_any-map f test [] = refl
list_any-map f test (x ∷ xs) = ap (λ t. test (f x) || t) (list_any-map f test xs)

prefix_len-map : {X Y : Type 0} (f : X → Y) (test : Y → Bool) (xs : List X) → prefix_len test (map f xs) ≡ prefix_len (λ x. test (f x)) xs
prefix_len-map f test [] = refl
prefix_len-map f test (x ∷ xs) = ap (λ n. cond (test (f x)) (1 + n) 0) (prefix_len-map f test xs)

position-map : {X Y : Type 0} (f : X → Y) (test : Y → Bool) (xs : List X) → position test (map f xs) ≡ position (λ x. test (f x)) xs
position-map f test xs =
    ap (λ n. cond (nat_lt n (length (map f xs))) (Some n) None) (prefix_len-map f (λ y. not (test y)) xs)
    ∙ ap (λ m. cond (nat_lt (prefix_len (λ x. not (test (f x))) xs) m) (Some (prefix_len (λ x. not (test (f x))) xs)) None) (length-map xs f)

-- the same place in two lists that have the same keys
pub same_place : {X : Type 0} (f : X → List ℕ) (key : List ℕ) (xs : List X) (pairs : List Pair) → map f xs ≡ keys_of pairs
    → position (λ x. bytes_eq key (f x)) xs ≡ place_of_key key pairs
same_place f key xs pairs same = sym (position-map f (bytes_eq key) xs) ∙ ap (position (bytes_eq key)) same ∙ position-map (λ p. p.key) (bytes_eq key) pairs

pub same_any : {X : Type 0} (f : X → List ℕ) (key : List ℕ) (xs : List X) (pairs : List Pair) → map f xs ≡ keys_of pairs
    → list_any (λ x. bytes_eq key (f x)) xs ≡ has_key key pairs
same_any f key xs pairs same = sym (list_any-map f (bytes_eq key) xs) ∙ ap (list_any (bytes_eq key)) same ∙ list_any-map (λ p. p.key) (bytes_eq key) pairs

-- a new key goes last on both sides
pub keys_push : {X : Type 0} (f : X → List ℕ) (xs : List X) (x : X) (pairs : List Pair) (key value : List ℕ) → map f xs ≡ keys_of pairs → f x ≡ key → has_key key pairs ≡ false
    → map f (insert_key (λ a b. bytes_eq (f a) (f b)) xs x) ≡ keys_of (pairs ++ (record { key = key; value = value }) ∷ [])
keys_push f xs x pairs key value same is new =
    let none : list_any (λ y. bytes_eq (f x) (f y)) xs ≡ false = ap (λ k. list_any (λ y. bytes_eq k (f y)) xs) is ∙ same_any f key xs pairs same ∙ new in
    ap (λ t. map f (cond t xs (xs ++ x ∷ []))) none
    ∙ map_push f xs x
    ∙ ap (λ ks. ks ++ f x ∷ []) same
    ∙ ap (λ k. keys_of pairs ++ k ∷ []) is
    ∙ sym (map_push (λ p. p.key) pairs (record { key = key; value = value }))

-- a key that stands stays where it is
pub keys_set : (pairs : List Pair) (i : ℕ) (pair : Pair) → place_of_key pair.key pairs ≡ Some i → keys_of (slice_set pairs i pair) ≡ keys_of pairs
keys_set pairs i pair e =
    let at = position-Some (λ (p : Pair). bytes_eq pair.key p.key) pairs i pair e in
    let same : pair.key ≡ (get_or pairs i pair).key = (bytes_eq-Decides pair.key (get_or pairs i pair).key).0 at.1 in
    map-set (λ p. p.key) pairs i pair
    ∙ ap (λ k. slice_set (keys_of pairs) i k) (same ∙ sym (get_or-map (λ p. p.key) pairs i pair pair.key at.0))
    ∙ set-get_or (keys_of pairs) i pair.key
