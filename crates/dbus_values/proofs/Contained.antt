-- What is walked to its end is the marshalled form of values that fit: arrays, dict entries, variants, and
-- with them all values.
use Rattle.std.proofs.Common.{◌≡◌, ℕ, zero, suc, ◌+◌, ◌<◌, ◌≤◌, List, [], ◌∷◌, ◌++◌, length, Bool, true, false, cond, eqb, ltb, Ok, refl, sym, ap, subst, ◌∙◌, arith, append_assoc}
use Rattle.std.proofs.lemmas.Bool.{ltb-true, eqb-true}
use Rattle.std.proofs.lemmas.List.{length-append, append-nil}
use Rattle.dbus_values.specs.declared.fault.FaultKind.TheVariants as fault
use Rattle.dbus_values.specs.Reading.{◌>>=◌, bad}
use Rattle.dbus_values.specs.Parts.{Piece}
use Rattle.dbus_values.specs.Parts as part
use Rattle.dbus_values.specs.Opened.{Open}
use Rattle.dbus_values.specs.Opened as open_part
use Rattle.dbus_values.specs.Types.{class_of, is_basic}
use Rattle.dbus_values.specs.Basics.{gap, pad}
use Rattle.dbus_values.specs.Walk.{state, resume, resumed, enter, enter_entry, enter_item, in_items, in_key, in_closing, Walked, walk}
use Rattle.dbus_values.specs.Trees.{Tree, Trees, type_of, padding, marshalled, all_marshalled, IsBasic, Each, FitsAs, Number, Text, Array, Struct, Entry, Variant, none, more}
use Rattle.dbus_values.proofs.Loops.{not_zero}
use Rattle.dbus_values.proofs.Numbers.{IsBytes, IsBytes-rest, zeros_takes}
use Rattle.dbus_values.proofs.Found.{bind_bind, held_bind, Going, going, open_done, resumed_goes, Read, Got, got_read, Finds}

-- ---- dict entries

basic_tree : (d : ℕ) (k : Tree) (c : ℕ) (s types : List ℕ) → c ∷ s ≡ type_of k ++ types → is_basic (class_of c) ≡ true → FitsAs false d k → IsBasic k
basic_tree d (Number l n) c s types same basic fits = tt
basic_tree d (Text l t) c s types same basic fits = tt
basic_tree d (Array item ts) c s types same basic fits = let e : c ≡ 97 = cc in let b : false ≡ true = rw e at basic in absurd cc
basic_tree d (Struct ts) c s types same basic fits = let e : c ≡ 40 = cc in let b : false ≡ true = rw e at basic in absurd cc
basic_tree d (Entry k v) c s types same basic fits = let e : c ≡ 123 = cc in let b : false ≡ true = rw e at basic in absurd cc
basic_tree d (Variant t) c s types same basic fits = let e : c ≡ 118 = cc in let b : false ≡ true = rw e at basic in absurd cc

-- the key
record KeyRead (d n limit : ℕ) (big : Bool) (fs : List Open) (sig : List ℕ) (at : ℕ) (bytes : List ℕ) (w : Walked) : Type 0 where
  before : ℕ
  less : n ≡ suc before
  read : Read false d before limit big (open_part.Value ∷ fs) sig at bytes w
  basic : IsBasic read.tree

key_found : (m limit : ℕ) (big : Bool) (ih : Finds m limit big) (d n i : ℕ) (fs : List Open) (sig : List ℕ) (at : ℕ) (bytes : List ℕ) (w : Walked) → n ≤ suc m → length fs + 1 + d ≡ limit → IsBytes bytes
    → walk n i limit big (state (open_part.Key ∷ fs) sig at bytes) ≡ Ok w → KeyRead d n limit big fs sig at bytes w
unfolding in_key
key_found m limit big ih d n i fs [] at bytes w le deep fits e =
    let g = going n i limit big _ w (open_done open_part.Key fs [] at bytes) e in
    let h = g.goes in absurd cc
key_found m limit big ih d n i fs (c ∷ s) at bytes w le deep fits e =
    let g = going n i limit big _ w (open_done open_part.Key fs (c ∷ s) at bytes) e in
    let h = held_bind (is_basic (class_of c)) (record { kind = fault.Text; at = at }) (enter limit big (open_part.Value ∷ fs) (c ∷ s) at bytes) (λ x. walk g.left (i + 1) limit big x.1) w g.goes in
    let r = ih d g.left (i + 1) (open_part.Value ∷ fs) (c ∷ s) at bytes w (omega (arith, g.fewer)) (omega arith) fits h.1 in
    record { before = g.left; less = g.fewer; read = r; basic = basic_tree d r.tree c s r.types r.sig_is h.0 r.fits }

-- the end
record Closed (n limit : ℕ) (big : Bool) (fs : List Open) (sig : List ℕ) (at : ℕ) (bytes : List ℕ) (w : Walked) : Type 0 where
  types : List ℕ
  left : ℕ
  so_far : ℕ
  sig_is : sig ≡ 125 ∷ types
  fewer : left ≤ n
  goes : (resume fs types at >>= λ o. walk left so_far limit big (state o.0 o.1 at bytes)) ≡ Ok w

closing_found : (n i limit : ℕ) (big : Bool) (fs : List Open) (sig : List ℕ) (at : ℕ) (bytes : List ℕ) (w : Walked) → walk n i limit big (state (open_part.Closing ∷ fs) sig at bytes) ≡ Ok w → Closed n limit big fs sig at bytes w
unfolding in_closing
closing_found n i limit big fs [] at bytes w e =
    let g = going n i limit big _ w (open_done open_part.Closing fs [] at bytes) e in
    let h = g.goes in absurd cc
closing_found n i limit big fs (c ∷ s) at bytes w e =
    let g = going n i limit big _ w (open_done open_part.Closing fs (c ∷ s) at bytes) e in
    let h = held_bind (eqb c 125) (record { kind = fault.Text; at = at }) (resumed (part.Leave 123) fs s at bytes) (λ x. walk g.left (i + 1) limit big x.1) w g.goes in
    record { types = s; left = g.left; so_far = i + 1; sig_is = ap (λ (x : ℕ). x ∷ s) (eqb-true c 125 h.0); fewer = omega (arith, g.fewer); goes = resumed_goes (part.Leave 123) fs s at bytes g.left (i + 1) limit big w h.1 }

entry_from : (d n limit : ℕ) (big : Bool) (fs : List Open) (sig : List ℕ) (here : ℕ) (bytes : List ℕ) (w : Walked) (k : KeyRead d n limit big fs sig here bytes w)
    → (v : Read false d k.read.left limit big (open_part.Closing ∷ fs) k.read.types (here + length (marshalled big here k.read.tree)) k.read.rest w)
    → Closed v.left limit big fs v.types (here + length (marshalled big here k.read.tree) + length (marshalled big (here + length (marshalled big here k.read.tree)) v.tree)) v.rest w
    → Got true (suc d) n limit 8 big fs (123 ∷ sig) here bytes w
unfolding FitsAs
entry_from d n limit big fs sig here bytes w k v c =
    let kt = k.read.tree in
    let vt = v.tree in
    let km = marshalled big here kt in
    let next = here + length km in
    let vm = marshalled big next vt in
    let size : next + length vm ≡ here + length (km ++ vm) = omega (arith, length-append km vm) in
    let inner : sig ≡ (type_of kt ++ (type_of vt ++ 125 ∷ [])) ++ c.types =
    k.read.sig_is ∙ ap (λ (x : List ℕ). type_of kt ++ x) (v.sig_is ∙ ap (λ (x : List ℕ). type_of vt ++ x) c.sig_is ∙ sym (append_assoc (type_of vt) (125 ∷ []) c.types)) ∙ sym (append_assoc (type_of kt) (type_of vt ++ 125 ∷ []) c.types) in
    record {
      tree = Entry kt vt;
      types = c.types;
      content = km ++ vm;
      rest = v.rest;
      left = c.left;
      so_far = c.so_far;
      fits = (k.basic, k.read.fits, v.fits);
      sig_is = ap (λ (x : List ℕ). 123 ∷ x) inner;
      form = λ from same. subst (λ (h : ℕ). marshalled big from (Entry kt vt) ≡ padding (gap 8 from) ++ (marshalled big h kt ++ marshalled big (h + length (marshalled big h kt)) vt)) same refl;
      bytes_are = k.read.bytes_are ∙ ap (λ (x : List ℕ). km ++ x) v.bytes_are ∙ sym (append_assoc km vm v.rest);
      fewer = omega (arith, c.fewer, v.fewer, k.read.fewer, k.less);
      goes = subst (λ (q : ℕ). (resume fs c.types q >>= λ o. walk c.left c.so_far limit big (state o.0 o.1 q v.rest)) ≡ Ok w) size c.goes;
    }

entry_found : (m limit : ℕ) (big : Bool) (ih : Finds m limit big) (d n i : ℕ) (fs : List Open) (sig : List ℕ) (at : ℕ) (bytes : List ℕ) (w : Walked) → n ≤ suc m → length fs + d ≡ limit → IsBytes bytes
    → (enter_entry limit fs sig at bytes >>= λ x. walk n i limit big x.1) ≡ Ok w → Read true d n limit big fs (123 ∷ sig) at bytes w
unfolding enter_entry resume
entry_found m limit big ih zero n i fs sig at bytes w le deep fits e =
    let b = bind_bind (pad 8 at bytes) (λ p. cond (ltb (length fs) limit) (Ok (part.Enter 123, state (open_part.Key ∷ fs) sig p.at p.rest)) (bad fault.Depth p.at)) (λ x. walk n i limit big x.1) w e in
    let h = held_bind (ltb (length fs) limit) (record { kind = fault.Depth; at = b.0.at }) (Ok (part.Enter 123, state (open_part.Key ∷ fs) sig b.0.at b.0.rest)) (λ x. walk n i limit big x.1) w b.2 in
    let lt : length fs < limit = ltb-true _ _ h.0 in
    absurd (omega arith)
entry_found m limit big ih (suc d) n i fs sig at bytes w le deep fits e =
    let b = bind_bind (pad 8 at bytes) (λ p. cond (ltb (length fs) limit) (Ok (part.Enter 123, state (open_part.Key ∷ fs) sig p.at p.rest)) (bad fault.Depth p.at)) (λ x. walk n i limit big x.1) w e in
    let h = held_bind (ltb (length fs) limit) (record { kind = fault.Depth; at = b.0.at }) (Ok (part.Enter 123, state (open_part.Key ∷ fs) sig b.0.at b.0.rest)) (λ x. walk n i limit big x.1) w b.2 in
    let z = zeros_takes (gap 8 at) at bytes b.0 b.1 in
    let fits1 = IsBytes-rest (padding (gap 8 at)) b.0.rest (subst IsBytes z.0 fits) in
    let k = key_found m limit big ih d n i fs sig b.0.at b.0.rest w le (omega arith) fits1 h.1 in
    let next = b.0.at + length (marshalled big b.0.at k.read.tree) in
    let fits2 = IsBytes-rest (marshalled big b.0.at k.read.tree) k.read.rest (subst IsBytes k.read.bytes_are fits1) in
    let g = going k.read.left k.read.so_far limit big (state (open_part.Value ∷ fs) k.read.types next k.read.rest) w (open_done open_part.Value fs k.read.types next k.read.rest) k.read.goes in
    let v = ih d g.left (k.read.so_far + 1) (open_part.Closing ∷ fs) k.read.types next k.read.rest w (omega (arith, g.fewer, k.read.fewer, k.less)) (omega arith) fits2 g.goes in
    let c = closing_found v.left v.so_far limit big fs v.types (next + length (marshalled big next v.tree)) v.rest w v.goes in
    let wide : Read false d k.read.left limit big (open_part.Closing ∷ fs) k.read.types next k.read.rest w = record {
      tree = v.tree;
      types = v.types;
      rest = v.rest;
      left = v.left;
      so_far = v.so_far;
      fits = v.fits;
      sig_is = v.sig_is;
      bytes_are = v.bytes_are;
      fewer = omega (arith, v.fewer, g.fewer);
      goes = v.goes;
    } in
    got_read true (suc d) n limit 8 big fs (123 ∷ sig) at b.0.at bytes b.0.rest w z.0 z.1 (entry_from d n limit big fs sig b.0.at b.0.rest w k wide c)

-- ---- arrays

item_fits : (d : ℕ) (t : Tree) → FitsAs false d t → FitsAs true d t
unfolding FitsAs
item_fits d (Number c n) fits = fits
item_fits d (Text c t) fits = fits
item_fits zero (Array item ts) fits = fits
item_fits (suc d) (Array item ts) fits = fits
item_fits zero (Struct ts) fits = fits
item_fits (suc d) (Struct ts) fits = fits
item_fits d (Entry k v) fits = absurd fits
item_fits zero (Variant t) fits = fits
item_fits (suc d) (Variant t) fits = fits

item_found : (m limit : ℕ) (big : Bool) (ih : Finds m limit big) (d n i : ℕ) (fs : List Open) (item : List ℕ) (at : ℕ) (bytes : List ℕ) (w : Walked) → n ≤ m → length fs + d ≡ limit → IsBytes bytes
    → (enter_item limit big fs item at bytes >>= λ x. walk n i limit big x.1) ≡ Ok w → Read true d n limit big fs item at bytes w
item_found m limit big ih d n i fs [] at bytes w le deep fits e = absurd cc
item_found m limit big ih d n i fs (c ∷ s) at bytes w le deep fits e = pick (eqb c 123) refl e where
  pick : (b : Bool) → eqb c 123 ≡ b → (cond b (enter_entry limit fs s at bytes) (enter limit big fs (c ∷ s) at bytes) >>= λ x. walk n i limit big x.1) ≡ Ok w → Read true d n limit big fs (c ∷ s) at bytes w
  pick true is h = subst (λ (l : ℕ). Read true d n limit big fs (l ∷ s) at bytes w) (sym (eqb-true c 123 is)) (entry_found m limit big ih d n i fs s at bytes w (omega arith) deep fits h)
  pick false is h =
      let r = ih d n i fs (c ∷ s) at bytes w le deep fits h in
      record {
        tree = r.tree;
        types = r.types;
        rest = r.rest;
        left = r.left;
        so_far = r.so_far;
        fits = item_fits d r.tree r.fits;
        sig_is = r.sig_is;
        bytes_are = r.bytes_are;
        fewer = r.fewer;
        goes = r.goes;
      }

pub record ItemsRead (d n limit : ℕ) (big : Bool) (item : List ℕ) (fs : List Open) (behind : List ℕ) (place : ℕ) (outside : List ℕ) (at : ℕ) (bytes : List ℕ) (w : Walked) : Type 0 where
  pub trees : Trees
  pub left : ℕ
  pub so_far : ℕ
  pub each : Each (λ t. (type_of t ≡ item) × FitsAs true d t) trees
  pub bytes_are : bytes ≡ all_marshalled big at trees
  pub fewer : left ≤ n
  pub goes : (resume fs behind place >>= λ o. walk left so_far limit big (state o.0 o.1 place outside)) ≡ Ok w

no_bytes : (bytes : List ℕ) → eqb (length bytes) 0 ≡ true → bytes ≡ []
no_bytes [] e = refl
no_bytes (b ∷ bytes) e = let k : length (b ∷ bytes) ≡ 0 = eqb-true _ _ e in absurd (omega arith)

-- an item takes all of the array's type
item_whole : (n i limit : ℕ) (big : Bool) (item behind : List ℕ) (place : ℕ) (outside : List ℕ) (fs : List Open) (types : List ℕ) (at : ℕ) (bytes : List ℕ) (w : Walked) → walk n i limit big (state (open_part.Items item behind place outside ∷ fs) types at bytes) ≡ Ok w → types ≡ []
unfolding in_items
item_whole n i limit big item behind place outside fs [] at bytes w e = refl
item_whole n i limit big item behind place outside fs (c ∷ types) at bytes w e =
    let F = open_part.Items item behind place outside in
    let g = going n i limit big _ w (open_done F fs (c ∷ types) at bytes) e in
    let no : eqb (length (c ∷ types)) 0 ≡ false = not_zero (length (c ∷ types)) (omega arith) in
    let h = rw no at g.goes in
    absurd cc

items_longer : (d n n1 limit : ℕ) (big : Bool) (item : List ℕ) (fs : List Open) (behind : List ℕ) (place : ℕ) (outside : List ℕ) (at : ℕ) (bytes : List ℕ) (w : Walked) → n1 ≤ n
    → (r : Read true d n1 limit big (open_part.Items item behind place outside ∷ fs) item at bytes w) → r.types ≡ []
    → ItemsRead d r.left limit big item fs behind place outside (at + length (marshalled big at r.tree)) r.rest w → ItemsRead d n limit big item fs behind place outside at bytes w
items_longer d n n1 limit big item fs behind place outside at bytes w le r whole m =
    let type_is : type_of r.tree ≡ item = sym (r.sig_is ∙ ap (λ (x : List ℕ). type_of r.tree ++ x) whole ∙ append-nil (type_of r.tree)) in
    record {
      trees = more r.tree m.trees;
      left = m.left;
      so_far = m.so_far;
      each = ((type_is, r.fits), m.each);
      bytes_are = r.bytes_are ∙ ap (λ (x : List ℕ). marshalled big at r.tree ++ x) m.bytes_are;
      fewer = omega (arith, m.fewer, r.fewer);
      goes = m.goes;
    }

pub items_found : (m limit : ℕ) (big : Bool) (ih : Finds m limit big) (k d n i : ℕ) (item : List ℕ) (fs : List Open) (behind : List ℕ) (place : ℕ) (outside : List ℕ) (at : ℕ) (bytes : List ℕ) (w : Walked) → n ≤ k → n ≤ suc m → length fs + 1 + d ≡ limit → IsBytes bytes
    → walk n i limit big (state (open_part.Items item behind place outside ∷ fs) [] at bytes) ≡ Ok w → ItemsRead d n limit big item fs behind place outside at bytes w
unfolding in_items resume
items_found m limit big ih zero d n i item fs behind place outside at bytes w lt le deep fits e =
    let g = going n i limit big _ w (open_done (open_part.Items item behind place outside) fs [] at bytes) e in
    absurd (omega (arith, g.fewer))
items_found m limit big ih (suc k) d n i item fs behind place outside at bytes w lt le deep fits e =
    let g = going n i limit big _ w (open_done (open_part.Items item behind place outside) fs [] at bytes) e in
    pick g (λ n' i' at' bytes' lt' le' fits' e'. items_found m limit big ih k d n' i' item fs behind place outside at' bytes' w lt' le' deep fits' e') (eqb (length bytes) 0) refl g.goes where
      pick : (g : Going n i limit big (state (open_part.Items item behind place outside ∷ fs) [] at bytes) w)
          → ((n' i' at' : ℕ) (bytes' : List ℕ) → n' ≤ k → n' ≤ suc m → IsBytes bytes' → walk n' i' limit big (state (open_part.Items item behind place outside ∷ fs) [] at' bytes') ≡ Ok w → ItemsRead d n' limit big item fs behind place outside at' bytes' w)
          → (b : Bool) → eqb (length bytes) 0 ≡ b → (cond b (resumed (part.Leave 97) fs behind place outside) (enter_item limit big (open_part.Items item behind place outside ∷ fs) item at bytes) >>= λ x. walk g.left (i + 1) limit big x.1) ≡ Ok w → ItemsRead d n limit big item fs behind place outside at bytes w
      pick g again true is h = record {
        trees = none;
        left = g.left;
        so_far = i + 1;
        each = tt;
        bytes_are = no_bytes bytes is;
        fewer = omega (arith, g.fewer);
        goes = resumed_goes (part.Leave 97) fs behind place outside g.left (i + 1) limit big w h;
      }
      pick g again false is h =
          let F = open_part.Items item behind place outside ∷ fs in
          let r = item_found m limit big ih d g.left (i + 1) F item at bytes w (omega (arith, g.fewer)) (omega arith) fits h in
          let next = at + length (marshalled big at r.tree) in
          let whole = item_whole r.left r.so_far limit big item behind place outside fs r.types next r.rest w r.goes in
          let goes : walk r.left r.so_far limit big (state F [] next r.rest) ≡ Ok w = subst (λ (z : List ℕ). walk r.left r.so_far limit big (state F z next r.rest) ≡ Ok w) whole r.goes in
          let rest_fits = IsBytes-rest (marshalled big at r.tree) r.rest (subst IsBytes r.bytes_are fits) in
          items_longer d n g.left limit big item fs behind place outside at bytes w (omega (arith, g.fewer)) r whole (again r.left r.so_far next r.rest (omega (arith, g.fewer, r.fewer)) (omega (arith, g.fewer, r.fewer)) rest_fits goes)
