-- What is walked to its end is the marshalled form of values that fit.
use Rattle.std.proofs.Common.{◌≡◌, ℕ, zero, suc, ◌+◌, ◌≤◌, List, [], ◌∷◌, ◌++◌, length, Bool, true, false, cond, eqb, Result, Ok, Err, refl, sym, ap, subst, ◌∙◌, arith, append_assoc}
use Rattle.std.proofs.lemmas.Bool.{eqb-true}
use Rattle.std.proofs.lemmas.List.{length-append}
use Rattle.dbus_values.specs.declared.class.Class.{Class}
use Rattle.dbus_values.specs.declared.fault.Fault.{Fault}
use Rattle.dbus_values.specs.Reading.{◌>>=◌}
use Rattle.dbus_values.specs.Parts.{Piece}
use Rattle.dbus_values.specs.Parts as part
use Rattle.dbus_values.specs.Opened.{Open}
use Rattle.dbus_values.specs.Opened as open_part
use Rattle.dbus_values.specs.Types.{class_of, align_of, is_basic}
use Rattle.dbus_values.specs.Basics.{gap, leaf_at}
use Rattle.dbus_values.specs.Walk.{State, state, resume, resumed, enter, enter_by, in_members, step, Walked, walk, is_done}
use Rattle.dbus_values.specs.Trees.{Tree, Trees, type_of, types_of, padding, marshalled, all_marshalled, Each, FitsAs, none, more}
use Rattle.dbus_values.proofs.Loops.{not_zero}
use Rattle.dbus_values.proofs.Numbers.{IsBytes, IsBytes-rest, length-padding}
use Rattle.dbus_values.proofs.Leaves.{leaf_takes}
use Rattle.dbus_values.proofs.Walking.{enter_by_leaf}

-- ---- steps of a walk that comes to its end

pub bind_bind : {A B C E : Type 0} (r : Result A E) (f : A → Result B E) (g : B → Result C E) (y : C) → ((r >>= f) >>= g) ≡ Ok y → (x : A) × (r ≡ Ok x) × ((f x >>= g) ≡ Ok y)
bind_bind (Ok x) f g y e = (x, refl, e)
bind_bind (Err d) f g y e = absurd cc

pub guard_bind : {A B E : Type 0} (b : Bool) (d : E) (r : Result A E) (g : A → Result B E) (y : B) → (cond b (Err d) r >>= g) ≡ Ok y → (b ≡ false) × ((r >>= g) ≡ Ok y)
guard_bind true d r g y e = absurd cc
guard_bind false d r g y e = (refl, e)

pub held_bind : {A B E : Type 0} (b : Bool) (d : E) (r : Result A E) (g : A → Result B E) (y : B) → (cond b r (Err d) >>= g) ≡ Ok y → (b ≡ true) × ((r >>= g) ≡ Ok y)
held_bind true d r g y e = (refl, e)
held_bind false d r g y e = absurd cc

-- one step, and what is left
pub record Going (n i limit : ℕ) (big : Bool) (s : State) (w : Walked) : Type 0 where
  pub left : ℕ
  pub fewer : n ≡ suc left
  pub goes : (step limit big s >>= λ x. walk left (i + 1) limit big x.1) ≡ Ok w

pub going : (n i limit : ℕ) (big : Bool) (s : State) (w : Walked) → is_done s ≡ false → walk n i limit big s ≡ Ok w → Going n i limit big s w
unfolding walk
going zero i limit big s w undone e = absurd cc
going (suc n) i limit big s w undone e = record { left = n; fewer = refl; goes = rw undone at e }

pub open_done : (f : Open) (fs : List Open) (types : List ℕ) (at : ℕ) (rest : List ℕ) → is_done (state (f ∷ fs) types at rest) ≡ false
open_done f fs types at rest = let e : eqb (length (f ∷ fs)) 0 ≡ false = not_zero (length (f ∷ fs)) (omega arith) in rw e refl

pub nothing_left : (r : Result (Piece × State) Fault) (i limit : ℕ) (big : Bool) (w : Walked) → (r >>= λ x. walk 0 i limit big x.1) ≡ Ok w → ⊥
unfolding walk
nothing_left (Ok x) i limit big w e = cc
nothing_left (Err d) i limit big w e = cc

abbrev with_part : Piece → ℕ → List ℕ → List Open × List ℕ → Result (Piece × State) Fault
with_part p at rest o = Ok (p, state o.0 o.1 at rest)

pub resumed_goes : (p : Piece) (fs : List Open) (types : List ℕ) (at : ℕ) (rest : List ℕ) (n i limit : ℕ) (big : Bool) (w : Walked) → (resumed p fs types at rest >>= λ x. walk n i limit big x.1) ≡ Ok w
    → (resume fs types at >>= λ o. walk n i limit big (state o.0 o.1 at rest)) ≡ Ok w
unfolding resumed
resumed_goes p fs types at rest n i limit big w e = go (resume fs types at) e where
  go : (r : Result (List Open × List ℕ) Fault) → ((r >>= with_part p at rest) >>= λ x. walk n i limit big x.1) ≡ Ok w → (r >>= λ o. walk n i limit big (state o.0 o.1 at rest)) ≡ Ok w
  go (Ok o) h = h
  go (Err d) h = absurd cc

-- ---- what was read

-- a value at the front, and the rest of the walk behind it
pub record Read (item : Bool) (d n limit : ℕ) (big : Bool) (fs : List Open) (sig : List ℕ) (at : ℕ) (bytes : List ℕ) (w : Walked) : Type 0 where
  pub tree : Tree
  pub types : List ℕ
  pub rest : List ℕ
  pub left : ℕ
  pub so_far : ℕ
  pub fits : FitsAs item d tree
  pub sig_is : sig ≡ type_of tree ++ types
  pub bytes_are : bytes ≡ marshalled big at tree ++ rest
  pub fewer : left ≤ n
  pub goes : (resume fs types (at + length (marshalled big at tree)) >>= λ o. walk left so_far limit big (state o.0 o.1 (at + length (marshalled big at tree)) rest)) ≡ Ok w

-- the same from its first byte, behind the padding
pub record Got (item : Bool) (d n limit align : ℕ) (big : Bool) (fs : List Open) (sig : List ℕ) (here : ℕ) (bytes : List ℕ) (w : Walked) : Type 0 where
  pub tree : Tree
  pub types : List ℕ
  pub content : List ℕ
  pub rest : List ℕ
  pub left : ℕ
  pub so_far : ℕ
  pub fits : FitsAs item d tree
  pub sig_is : sig ≡ type_of tree ++ types
  pub form : (from : ℕ) → from + gap align from ≡ here → marshalled big from tree ≡ padding (gap align from) ++ content
  pub bytes_are : bytes ≡ content ++ rest
  pub fewer : left ≤ n
  pub goes : (resume fs types (here + length content) >>= λ o. walk left so_far limit big (state o.0 o.1 (here + length content) rest)) ≡ Ok w

pub got_read : (item : Bool) (d n limit align : ℕ) (big : Bool) (fs : List Open) (sig : List ℕ) (at here : ℕ) (bytes inner : List ℕ) (w : Walked) → bytes ≡ padding (gap align at) ++ inner → here ≡ at + gap align at
    → Got item d n limit align big fs sig here inner w → Read item d n limit big fs sig at bytes w
got_read item d n limit align big fs sig at here bytes inner w split place g =
    let form = g.form at (sym place) in
    let size : here + length g.content ≡ at + length (marshalled big at g.tree) = omega (arith, ap length form, length-append (padding (gap align at)) g.content, length-padding (gap align at), place) in
    record {
      tree = g.tree;
      types = g.types;
      rest = g.rest;
      left = g.left;
      so_far = g.so_far;
      fits = g.fits;
      sig_is = g.sig_is;
      bytes_are = split ∙ ap (λ (x : List ℕ). padding (gap align at) ++ x) g.bytes_are ∙ sym (append_assoc (padding (gap align at)) g.content g.rest) ∙ ap (λ (x : List ℕ). x ++ g.rest) (sym form);
      fewer = g.fewer;
      goes = subst (λ (q : ℕ). (resume fs g.types q >>= λ o. walk g.left g.so_far limit big (state o.0 o.1 q g.rest)) ≡ Ok w) size g.goes;
    }

pub leaf_got : (k : Class) (d n i limit : ℕ) (big : Bool) (fs : List Open) (c : ℕ) (sig : List ℕ) (here : ℕ) (bytes : List ℕ) (w : Walked) → class_of c ≡ k → is_basic k ≡ true → IsBytes bytes
    → (enter_by k limit big fs c sig here bytes >>= λ x. walk n i limit big x.1) ≡ Ok w → Got false d n limit (align_of (class_of c)) big fs (c ∷ sig) here bytes w
leaf_got k d n i limit big fs c sig here bytes w is basic fits e =
    let e' : ((leaf_at k big c here bytes >>= λ x. resumed x.0 fs sig x.1.at x.1.rest) >>= λ x. walk n i limit big x.1) ≡ Ok w = subst (λ (r : Result (Piece × State) Fault). (r >>= λ x. walk n i limit big x.1) ≡ Ok w) (enter_by_leaf k limit big fs c sig here bytes basic) e in
    let b = bind_bind (leaf_at k big c here bytes) (λ x. resumed x.0 fs sig x.1.at x.1.rest) (λ x. walk n i limit big x.1) w e' in
    let leaf = leaf_takes k big c here bytes b.0 is fits b.1 in
    let goes = resumed_goes b.0.0 fs sig b.0.1.at b.0.1.rest n i limit big w b.2 in
    record {
      tree = leaf.tree;
      types = sig;
      content = leaf.content;
      rest = b.0.1.rest;
      left = n;
      so_far = i;
      fits = leaf.fits false d;
      sig_is = ap (λ (x : List ℕ). x ++ sig) (sym leaf.type_is);
      form = λ from same. leaf.form from;
      bytes_are = leaf.taken.split;
      fewer = omega arith;
      goes = subst (λ (q : ℕ). (resume fs sig q >>= λ o. walk n i limit big (state o.0 o.1 q b.0.1.rest)) ≡ Ok w) leaf.taken.place goes;
    }

-- the law for walks of at most m parts
abbrev pub Finds : ℕ → ℕ → Bool → Type 0
Finds m limit big = (d n i : ℕ) (fs : List Open) (sig : List ℕ) (at : ℕ) (bytes : List ℕ) (w : Walked) → n ≤ m → length fs + d ≡ limit → IsBytes bytes
    → (enter limit big fs sig at bytes >>= λ x. walk n i limit big x.1) ≡ Ok w → Read false d n limit big fs sig at bytes w

-- ---- structures

pub record Members (d n limit : ℕ) (big : Bool) (fs : List Open) (sig : List ℕ) (at : ℕ) (bytes : List ℕ) (w : Walked) : Type 0 where
  pub trees : Trees
  pub types : List ℕ
  pub rest : List ℕ
  pub left : ℕ
  pub so_far : ℕ
  pub fit : Each (FitsAs false d) trees
  pub sig_is : sig ≡ types_of trees ++ 41 ∷ types
  pub bytes_are : bytes ≡ all_marshalled big at trees ++ rest
  pub fewer : left ≤ n
  pub goes : (resume fs types (at + length (all_marshalled big at trees)) >>= λ o. walk left so_far limit big (state o.0 o.1 (at + length (all_marshalled big at trees)) rest)) ≡ Ok w

members_closed : (d n left i limit : ℕ) (big : Bool) (fs : List Open) (c : ℕ) (sig : List ℕ) (at : ℕ) (bytes : List ℕ) (w : Walked) → n ≡ suc left → eqb c 41 ≡ true → (resumed (part.Leave 40) fs sig at bytes >>= λ x. walk left i limit big x.1) ≡ Ok w → Members d n limit big fs (c ∷ sig) at bytes w
members_closed d n left i limit big fs c sig at bytes w fewer is e =
    let k : at ≡ at + 0 = omega arith in
    record {
      trees = none;
      types = sig;
      rest = bytes;
      left = left;
      so_far = i;
      fit = tt;
      sig_is = ap (λ (x : ℕ). x ∷ sig) (eqb-true c 41 is);
      bytes_are = refl;
      fewer = omega (arith, fewer);
      goes = subst (λ (q : ℕ). (resume fs sig q >>= λ o. walk left i limit big (state o.0 o.1 q bytes)) ≡ Ok w) k (resumed_goes (part.Leave 40) fs sig at bytes left i limit big w e);
    }

members_longer : (d n n1 limit : ℕ) (big : Bool) (fs : List Open) (sig : List ℕ) (at : ℕ) (bytes : List ℕ) (w : Walked) → n1 ≤ n → (r : Read false d n1 limit big (open_part.Members ∷ fs) sig at bytes w)
    → Members d r.left limit big fs r.types (at + length (marshalled big at r.tree)) r.rest w → Members d n limit big fs sig at bytes w
members_longer d n n1 limit big fs sig at bytes w le r m =
    let one = marshalled big at r.tree in
    let next = at + length one in
    let others = all_marshalled big next m.trees in
    let size : next + length others ≡ at + length (one ++ others) = omega (arith, length-append one others) in
    record {
      trees = more r.tree m.trees;
      types = m.types;
      rest = m.rest;
      left = m.left;
      so_far = m.so_far;
      fit = (r.fits, m.fit);
      sig_is = r.sig_is ∙ ap (λ (x : List ℕ). type_of r.tree ++ x) m.sig_is ∙ sym (append_assoc (type_of r.tree) (types_of m.trees) (41 ∷ m.types));
      bytes_are = r.bytes_are ∙ ap (λ (x : List ℕ). one ++ x) m.bytes_are ∙ sym (append_assoc one others m.rest);
      fewer = omega (arith, m.fewer, r.fewer);
      goes = subst (λ (q : ℕ). (resume fs m.types q >>= λ o. walk m.left m.so_far limit big (state o.0 o.1 q m.rest)) ≡ Ok w) size m.goes;
    }

pub members_found : (m limit : ℕ) (big : Bool) (ih : Finds m limit big) (k d n i : ℕ) (fs : List Open) (sig : List ℕ) (at : ℕ) (bytes : List ℕ) (w : Walked) → n ≤ k → n ≤ suc m → length fs + 1 + d ≡ limit → IsBytes bytes
    → walk n i limit big (state (open_part.Members ∷ fs) sig at bytes) ≡ Ok w → Members d n limit big fs sig at bytes w
unfolding in_members resume
members_found m limit big ih zero d n i fs sig at bytes w lt le deep fits e =
    let g = going n i limit big _ w (open_done open_part.Members fs sig at bytes) e in
    absurd (omega (arith, g.fewer))
members_found m limit big ih (suc k) d n i fs sig at bytes w lt le deep fits e =
    let g = going n i limit big _ w (open_done open_part.Members fs sig at bytes) e in
    go sig refl g (λ n' i' sig' at' bytes' lt' le' fits' e'. members_found m limit big ih k d n' i' fs sig' at' bytes' w lt' le' deep fits' e') where
      go : (s : List ℕ) → sig ≡ s → Going n i limit big (state (open_part.Members ∷ fs) sig at bytes) w
          → ((n' i' : ℕ) (sig' : List ℕ) (at' : ℕ) (bytes' : List ℕ) → n' ≤ k → n' ≤ suc m → IsBytes bytes' → walk n' i' limit big (state (open_part.Members ∷ fs) sig' at' bytes') ≡ Ok w → Members d n' limit big fs sig' at' bytes' w)
          → Members d n limit big fs sig at bytes w
      go [] same g again = let h : (in_members limit big fs [] at bytes >>= λ x. walk g.left (i + 1) limit big x.1) ≡ Ok w = subst (λ (s : List ℕ). (in_members limit big fs s at bytes >>= λ x. walk g.left (i + 1) limit big x.1) ≡ Ok w) same g.goes in absurd cc
      go (c ∷ s) same g again =
          subst (λ (z : List ℕ). Members d n limit big fs z at bytes w) (sym same) (pick (eqb c 41) refl (subst (λ (z : List ℕ). (in_members limit big fs z at bytes >>= λ x. walk g.left (i + 1) limit big x.1) ≡ Ok w) same g.goes)) where
            pick : (b : Bool) → eqb c 41 ≡ b → (cond b (resumed (part.Leave 40) fs s at bytes) (enter limit big (open_part.Members ∷ fs) (c ∷ s) at bytes) >>= λ x. walk g.left (i + 1) limit big x.1) ≡ Ok w → Members d n limit big fs (c ∷ s) at bytes w
            pick true is h = members_closed d n g.left (i + 1) limit big fs c s at bytes w g.fewer is h
            pick false is h =
                let r = ih d g.left (i + 1) (open_part.Members ∷ fs) (c ∷ s) at bytes w (omega (arith, g.fewer)) (omega arith) fits h in
                let rest_fits = IsBytes-rest (marshalled big at r.tree) r.rest (subst IsBytes r.bytes_are fits) in
                members_longer d n g.left limit big fs (c ∷ s) at bytes w (omega (arith, g.fewer)) r (again r.left r.so_far r.types _ r.rest (omega (arith, g.fewer, r.fewer)) (omega (arith, g.fewer, r.fewer)) rest_fits r.goes)
