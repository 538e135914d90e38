-- What a type is doesn't depend on what stands behind it.
use Rattle.std.proofs.Common.{◌≡◌, ℕ, zero, suc, ◌-◌, ◌≤◌, List, [], ◌∷◌, ◌++◌, length, take, Bool, true, false, cond, eqb, Option, None, Some, refl, sym, ap, subst, ◌∙◌, arith, append_assoc}
use Rattle.std.specs.Option.{option_and_then}
use Rattle.std.proofs.lemmas.Bool.{eqb-true}
use Rattle.std.proofs.lemmas.List.{length-append, take_at}
use Rattle.dbus_values.specs.declared.class.Class.{Class}
use Rattle.dbus_values.specs.declared.class.Class.TheVariants as class
use Rattle.dbus_values.specs.Types.{class_of, is_basic}
use Rattle.dbus_values.specs.Signatures.{behind, members_on, members_end, entry_end, item_end, type_by, type_end, after_item}
use Rattle.dbus_values.specs.Trees.{IsItem}

and_then_some : {A B : Type 0} (f : A → Option B) (o : Option A) (y : B) → option_and_then f o ≡ Some y → (x : A) × (o ≡ Some x) × (f x ≡ Some y)
and_then_some f None y e = absurd cc
and_then_some f (Some x) y e = (x, refl, e)

some_is : {A : Type 0} (x y : A) → ◌≡◌ {A = Option A} (Some x) (Some y) → x ≡ y
some_is x y e = cc

cond_none : {A : Type 0} (b : Bool) (o : Option A) (y : A) → cond b None o ≡ Some y → (b ≡ false) × (o ≡ Some y)
cond_none true o y e = absurd cc
cond_none false o y e = (refl, e)

cond_some : {A : Type 0} (b : Bool) (o : Option A) (y : A) → cond b o None ≡ Some y → (b ≡ true) × (o ≡ Some y)
cond_some true o y e = (refl, e)
cond_some false o y e = absurd cc

-- the front that was passed, which is passed whatever stands behind it
pub record Front (step : List ℕ → Option (List ℕ)) (sig rest : List ℕ) : Type 0 where
  pub front : List ℕ
  pub split : sig ≡ front ++ rest
  pub long : 1 ≤ length front
  pub again : (types : List ℕ) → step (front ++ types) ≡ Some types

abbrev pub Local : (List ℕ → Option (List ℕ)) → Type 0
Local step = (sig rest : List ℕ) → step sig ≡ Some rest → Front step sig rest

behind_is : (letter : ℕ) (sig rest : List ℕ) → behind letter sig ≡ Some rest → sig ≡ letter ∷ rest
behind_is letter [] rest e = absurd cc
behind_is letter (c ∷ sig) rest e =
    let h = cond_some (eqb c letter) (Some sig) rest e in
    let first : c ≡ letter = eqb-true c letter h.0 in
    let same : sig ≡ rest = some_is sig rest h.1 in
    rw (first, same) refl

behind_again : (letter : ℕ) (sig : List ℕ) → behind letter (letter ∷ sig) ≡ Some sig
behind_again letter sig = let e : eqb letter letter ≡ true = same letter in rw e refl where
  same : (n : ℕ) → eqb n n ≡ true
  same n = grind arith

entry_again : (step : List ℕ → Option (List ℕ)) (key : ℕ) (front types : List ℕ) → is_basic (class_of key) ≡ true → step (front ++ 125 ∷ types) ≡ Some (125 ∷ types) → entry_end step (key ∷ ((front ++ 125 ∷ []) ++ types)) ≡ Some types
entry_again step key front types basic again =
    let r : (front ++ 125 ∷ []) ++ types ≡ front ++ 125 ∷ types = append_assoc front (125 ∷ []) types in
    rw (basic, r, again) refl

entry_local : (step : List ℕ → Option (List ℕ)) → Local step → Local (entry_end step)
entry_local step local [] rest e = absurd cc
entry_local step local (key ∷ sig) rest e =
    let h = cond_some (is_basic (class_of key)) (option_and_then (λ r. behind 125 r) (step sig)) rest e in
    let b = and_then_some (λ r. behind 125 r) (step sig) rest h.1 in
    let f = local sig b.0 b.1 in
    let closed : b.0 ≡ 125 ∷ rest = behind_is 125 b.0 rest b.2 in
    record {
      front = key ∷ (f.front ++ 125 ∷ []);
      split = ap (λ (x : List ℕ). key ∷ x) (f.split ∙ ap (λ (x : List ℕ). f.front ++ x) closed ∙ sym (append_assoc f.front (125 ∷ []) rest));
      long = omega arith;
      again = λ types. entry_again step key f.front types h.0 (f.again (125 ∷ types));
    }

item_local : (step : List ℕ → Option (List ℕ)) → Local step → Local (item_end step)
item_local step local [] rest e = absurd cc
item_local step local (c ∷ sig) rest e = go (eqb c 123) refl e where
  wrapped : (f : Front (entry_end step) sig rest) → eqb c 123 ≡ true → Front (item_end step) (c ∷ sig) rest
  wrapped f is = record {
    front = c ∷ f.front;
    split = ap (λ (x : List ℕ). c ∷ x) f.split;
    long = omega arith;
    again = λ types. rw is (f.again types);
  }

  plain : (f : Front step (c ∷ sig) rest) → eqb c 123 ≡ false → Front (item_end step) (c ∷ sig) rest
  plain f is = from f.front f.split f.long f.again where
    from : (front : List ℕ) → c ∷ sig ≡ front ++ rest → 1 ≤ length front → ((types : List ℕ) → step (front ++ types) ≡ Some types) → Front (item_end step) (c ∷ sig) rest
    from [] split long again = absurd (omega arith)
    from (x ∷ xs) split long again =
        let first : c ≡ x = cc in
        record { front = x ∷ xs; split = split; long = long; again = λ types. (let no : eqb x 123 ≡ false = rw first at is in rw no (again types)) }

  go : (b : Bool) → eqb c 123 ≡ b → cond b (entry_end step sig) (step (c ∷ sig)) ≡ Some rest → Front (item_end step) (c ∷ sig) rest
  go true is h = wrapped (entry_local step local sig rest h) is
  go false is h = plain (local (c ∷ sig) rest h) is

-- the members of a structure: as many steps suffice as there are letters
record Members (step : List ℕ → Option (List ℕ)) (sig rest : List ℕ) : Type 0 where
  front : List ℕ
  split : sig ≡ front ++ rest
  long : 1 ≤ length front
  again : (types : List ℕ) (m : ℕ) → length front ≤ m → members_end step m (front ++ types) ≡ Some types

members_step : (step : List ℕ → Option (List ℕ)) (m : ℕ) (sig r : List ℕ) → 1 ≤ m → step sig ≡ Some r → members_end step m sig ≡ members_on (members_end step (m - 1)) r
unfolding members_end
members_step step zero sig r le is = absurd (omega arith)
members_step step (suc m) sig r le is = let k : suc m - 1 ≡ m = omega arith in rw (is, k) refl

members_local : (step : List ℕ → Option (List ℕ)) → Local step → (n : ℕ) (sig rest : List ℕ) → members_end step n sig ≡ Some rest → Members step sig rest
unfolding members_end
members_local step local zero sig rest e = absurd cc
members_local step local (suc n) sig rest e = go (λ s h. members_local step local n s rest h) b.0 (local sig b.0 b.1) b.2 where
  b : (r : List ℕ) × (step sig ≡ Some r) × (members_on (members_end step n) r ≡ Some rest)
  b = and_then_some (λ r. members_on (members_end step n) r) (step sig) rest e

  closed : (c : ℕ) (r : List ℕ) → Front step sig (c ∷ r) → eqb c 41 ≡ true → r ≡ rest → Members step sig rest
  closed c r f is same =
      let letter : c ≡ 41 = eqb-true c 41 is in
      record {
        front = f.front ++ 41 ∷ [];
        split = f.split ∙ ap (λ (x : ℕ). f.front ++ x ∷ r) letter ∙ ap (λ (x : List ℕ). f.front ++ 41 ∷ x) same ∙ sym (append_assoc f.front (41 ∷ []) rest);
        long = omega (arith, length-append f.front (41 ∷ []));
        again = λ types m le. (let r1 : (f.front ++ 41 ∷ []) ++ types ≡ f.front ++ 41 ∷ types = append_assoc f.front (41 ∷ []) types in
            let one = members_step step m (f.front ++ 41 ∷ types) (41 ∷ types) (omega (arith, le, length-append f.front (41 ∷ []))) (f.again (41 ∷ types)) in
            rw (r1, one) refl);
      }

  onward : (c : ℕ) (r : List ℕ) → Front step sig (c ∷ r) → eqb c 41 ≡ false → Members step (c ∷ r) rest → Members step sig rest
  onward c r f is more = from more.front more.split more.long more.again where
    from : (front : List ℕ) → c ∷ r ≡ front ++ rest → 1 ≤ length front → ((types : List ℕ) (m : ℕ) → length front ≤ m → members_end step m (front ++ types) ≡ Some types) → Members step sig rest
    from [] split long again = absurd (omega arith)
    from (x ∷ xs) split long again =
        let first : c ≡ x = cc in
        let no : eqb x 41 ≡ false = rw first at is in
        record {
          front = f.front ++ x ∷ xs;
          split = f.split ∙ ap (λ (y : List ℕ). f.front ++ y) split ∙ sym (append_assoc f.front (x ∷ xs) rest);
          long = omega (arith, f.long, length-append f.front (x ∷ xs));
          again = λ types m le. (let r1 : (f.front ++ x ∷ xs) ++ types ≡ f.front ++ x ∷ (xs ++ types) = append_assoc f.front (x ∷ xs) types in
              let one = members_step step m (f.front ++ x ∷ (xs ++ types)) (x ∷ (xs ++ types)) (omega (arith, le, f.long, length-append f.front (x ∷ xs))) (f.again (x ∷ (xs ++ types))) in
              rw (r1, one, no) (again types (m - 1) (omega (arith, le, f.long, length-append f.front (x ∷ xs)))));
        }

  go : ((s : List ℕ) → members_end step n s ≡ Some rest → Members step s rest) → (r : List ℕ) → Front step sig r → members_on (members_end step n) r ≡ Some rest → Members step sig rest
  go ih [] f h = absurd cc
  go ih (c ∷ r) f h = pick (eqb c 41) refl h where
    pick : (t : Bool) → eqb c 41 ≡ t → cond t (Some r) (members_end step n (c ∷ r)) ≡ Some rest → Members step sig rest
    pick true is k = closed c r f is (some_is r rest k)
    pick false is k = onward c r f is (ih (c ∷ r) k)

array_again : (level arrays structs c : ℕ) (front types : List ℕ) → class_of c ≡ class.Array → eqb arrays 0 ≡ false → item_end (type_end level (arrays - 1) structs) (front ++ types) ≡ Some types → type_end (suc level) arrays structs (c ∷ (front ++ types)) ≡ Some types
unfolding type_end
array_again level arrays structs c front types is some again = rw (is, some) again

struct_again : (level arrays structs c : ℕ) (front types : List ℕ) → class_of c ≡ class.Struct → eqb structs 0 ≡ false → members_end (type_end level arrays (structs - 1)) (length (front ++ types)) (front ++ types) ≡ Some types → type_end (suc level) arrays structs (c ∷ (front ++ types)) ≡ Some types
unfolding type_end
struct_again level arrays structs c front types is some again = rw (is, some) again

letter_again : (k : Class) (level arrays structs c : ℕ) (types : List ℕ) → class_of c ≡ k → type_by k (type_end level) arrays structs types ≡ Some types → type_end (suc level) arrays structs (c ∷ types) ≡ Some types
unfolding type_end
letter_again k level arrays structs c types is plain = rw is plain

pub type_local : (level arrays structs : ℕ) → Local (type_end level arrays structs)
unfolding type_end
type_local zero arrays structs sig rest e = absurd cc
type_local (suc level) arrays structs [] rest e = absurd cc
type_local (suc level) arrays structs (c ∷ sig) rest e = go (class_of c) refl (λ a s. type_local level a s) e where
  letter : (k : Class) → class_of c ≡ k → ((types : List ℕ) → type_by k (type_end level) arrays structs types ≡ Some types) → type_by k (type_end level) arrays structs sig ≡ Some rest → Front (type_end (suc level) arrays structs) (c ∷ sig) rest
  letter k is plain h =
      let same : sig ≡ rest = some_is sig rest (sym (plain sig) ∙ h) in
      record { front = c ∷ []; split = ap (λ (x : List ℕ). c ∷ x) same; long = omega arith; again = λ types. letter_again k level arrays structs c types is (plain types) }

  go : (k : Class) → class_of c ≡ k → ((a s : ℕ) → Local (type_end level a s)) → type_by k (type_end level) arrays structs sig ≡ Some rest → Front (type_end (suc level) arrays structs) (c ∷ sig) rest
  go class.Array is ih h =
      let g = cond_none (eqb arrays 0) (item_end (type_end level (arrays - 1) structs) sig) rest h in
      let f = item_local (type_end level (arrays - 1) structs) (ih (arrays - 1) structs) sig rest g.1 in
      record { front = c ∷ f.front; split = ap (λ (x : List ℕ). c ∷ x) f.split; long = omega arith; again = λ types. array_again level arrays structs c f.front types is g.0 (f.again types) }
  go class.Struct is ih h =
      let g = cond_none (eqb structs 0) (members_end (type_end level arrays (structs - 1)) (length sig) sig) rest h in
      let f = members_local (type_end level arrays (structs - 1)) (ih arrays (structs - 1)) (length sig) sig rest g.1 in
      record { front = c ∷ f.front; split = ap (λ (x : List ℕ). c ∷ x) f.split; long = omega arith; again = λ types. struct_again level arrays structs c f.front types is g.0 (f.again types (length (f.front ++ types)) (omega (arith, length-append f.front types))) }
  go class.Entry is ih h = absurd cc
  go class.Other is ih h = absurd cc
  go class.Byte is ih h = letter class.Byte is (λ types. refl) h
  go class.Half is ih h = letter class.Half is (λ types. refl) h
  go class.Boolean is ih h = letter class.Boolean is (λ types. refl) h
  go class.Word is ih h = letter class.Word is (λ types. refl) h
  go class.Long is ih h = letter class.Long is (λ types. refl) h
  go class.Text is ih h = letter class.Text is (λ types. refl) h
  go class.Path is ih h = letter class.Path is (λ types. refl) h
  go class.Signature is ih h = letter class.Signature is (λ types. refl) h
  go class.Variant is ih h = letter class.Variant is (λ types. refl) h

front_take : (sig front rest : List ℕ) → sig ≡ front ++ rest → take (length sig - length rest) sig ≡ front
front_take sig front rest split =
    let k : length sig - length rest ≡ length front = omega (arith, ap length split, length-append front rest) in
    rw (k, split) (take_at front rest (length front) refl)

-- the item of an array is what stands before its rest
pub item_split : (sig rest : List ℕ) → after_item sig ≡ Some rest → (sig ≡ take (length sig - length rest) sig ++ rest) × IsItem (take (length sig - length rest) sig)
item_split sig rest e =
    let f = item_local (type_end 65 32 32) (type_local 65 32 32) sig rest e in
    let t = front_take sig f.front rest f.split in
    (f.split ∙ ap (λ (x : List ℕ). x ++ rest) (sym t), subst (λ (x : List ℕ). IsItem x) (sym t) f.again)
