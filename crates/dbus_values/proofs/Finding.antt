-- What is walked to its end is the marshalled form of values that fit: every value.
use Rattle.std.proofs.Common.{◌≡◌, ℕ, zero, suc, ◌+◌, ◌-◌, ◌<◌, ◌≤◌, ◌^◌, List, [], ◌∷◌, ◌++◌, length, take, drop, Bool, true, false, cond, eqb, ltb, Result, Ok, Option, None, Some, refl, sym, ap, subst, ◌∙◌, arith, append_assoc}
use Rattle.std.specs.Int.{w32}
use Rattle.std.proofs.lemmas.Bool.{ltb-false, ltb-true, eqb-true}
use Rattle.std.proofs.lemmas.List.{take-append-drop, length-append, length-take, append-nil}
use Rattle.dbus_values.specs.declared.class.Class.{Class}
use Rattle.dbus_values.specs.declared.class.Class.TheVariants as class
use Rattle.dbus_values.specs.declared.fault.Fault.{Fault}
use Rattle.dbus_values.specs.declared.fault.FaultKind.TheVariants as fault
use Rattle.dbus_values.specs.Reading.{◌>>=◌, bad, Spot, spot_at}
use Rattle.dbus_values.specs.Parts.{Piece}
use Rattle.dbus_values.specs.Parts as part
use Rattle.dbus_values.specs.Opened.{Open}
use Rattle.dbus_values.specs.Opened as open_part
use Rattle.dbus_values.specs.Types.{class_of, align_of, is_basic}
use Rattle.dbus_values.specs.Signatures.{after_item, after_type, is_signature, item_align}
use Rattle.dbus_values.specs.Basics.{gap, pad, number_at, signature_at}
use Rattle.dbus_values.specs.Walk.{State, state, rest_of, resume, enter, enter_by, enter_array, enter_struct, enter_variant, Walked, walked, walk}
use Rattle.dbus_values.specs.Trees.{Trees, type_of, types_of, bytes_of, padding, marshalled, all_marshalled, Each, HasOne, FitsAs, Array, Struct, Variant, none, more}
use Rattle.dbus_values.proofs.Loops.{not_zero}
use Rattle.dbus_values.proofs.Numbers.{IsBytes, IsBytes-rest, IsBytes-take, ok_is, length-padding, zeros_takes, number_takes, sig_takes, wide32}
use Rattle.dbus_values.proofs.Walking.{item_front}
use Rattle.dbus_values.proofs.Grammar.{item_split}
use Rattle.dbus_values.proofs.Letters.{array_letter, struct_letter, variant_letter}
use Rattle.dbus_values.proofs.Found.{bind_bind, guard_bind, held_bind, going, open_done, nothing_left, Read, Got, got_read, leaf_got, Finds, members_found}
use Rattle.dbus_values.proofs.Contained.{items_found}

rest_of_ok : (o : Option (List ℕ)) (at : ℕ) (x : List ℕ) → rest_of o at ≡ Ok x → o ≡ Some x
rest_of_ok None at x e = absurd cc
rest_of_ok (Some s) at x e = ap (λ (y : List ℕ). Some y) (ok_is {E = Fault} s x e)

-- ---- arrays

array_got : (m limit : ℕ) (big : Bool) (ih : Finds m limit big) (d n i : ℕ) (fs : List Open) (sig : List ℕ) (here : ℕ) (bytes : List ℕ) (w : Walked) → n ≤ suc m → length fs + 1 + d ≡ limit → IsBytes bytes
    → (enter_array big fs sig here bytes >>= λ x. walk n i limit big x.1) ≡ Ok w → Got false (suc d) n limit 4 big fs (97 ∷ sig) here bytes w
unfolding enter_array FitsAs
array_got m limit big ih d n i fs sig here bytes w le deep fits e =
    let go : Piece × State → Result Walked Fault = λ x. walk n i limit big x.1 in
    let opened : List ℕ → ℕ → Spot → Result (Piece × State) Fault = λ end k p. Ok (part.Enter 97, state (open_part.Items (take (length sig - length end) sig) end (p.at + k) (drop k p.rest) ∷ fs) [] p.at (take k p.rest)) in
    let b0 = bind_bind (rest_of (after_item sig) here) (λ end. number_at big w32 here bytes >>= λ k. cond (ltb (length k.1.rest) (gap (item_align sig) k.1.at + k.0)) (bad fault.Length here) (pad (item_align sig) k.1.at k.1.rest >>= opened end k.0)) go w e in
    let end = b0.0 in
    let b1 = bind_bind (number_at big w32 here bytes) (λ k. cond (ltb (length k.1.rest) (gap (item_align sig) k.1.at + k.0)) (bad fault.Length here) (pad (item_align sig) k.1.at k.1.rest >>= opened end k.0)) go w b0.2 in
    let count = b1.0.0 in
    let from = b1.0.1 in
    let h = guard_bind (ltb (length from.rest) (gap (item_align sig) from.at + count)) (record { kind = fault.Length; at = here }) (pad (item_align sig) from.at from.rest >>= opened end count) go w b1.2 in
    let b2 = bind_bind (pad (item_align sig) from.at from.rest) (opened end count) go w h.1 in
    let q = b2.0 in
    array_read end count from q (rest_of_ok (after_item sig) here end b0.1) b1.1 (ltb-false _ _ h.0) b2.1 b2.2 where
      array_read : (end : List ℕ) (count : ℕ) (from q : Spot) → after_item sig ≡ Some end → number_at big w32 here bytes ≡ Ok (count, from) → gap (item_align sig) from.at + count ≤ length from.rest → pad (item_align sig) from.at from.rest ≡ Ok q
          → walk n i limit big (state (open_part.Items (take (length sig - length end) sig) end (q.at + count) (drop count q.rest) ∷ fs) [] q.at (take count q.rest)) ≡ Ok w → Got false (suc d) n limit 4 big fs (97 ∷ sig) here bytes w
      array_read end count from q ended counted enough padded walked_on =
          let item = take (length sig - length end) sig in
          let s = item_split sig end ended in
          let align : item_align sig ≡ item_align item = ap item_align s.0 ∙ item_front item end s.1 in
          let num = number_takes big w32 (2 ^ 32) wide32 here bytes (count, from) fits counted in
          let at_from : from.at ≡ here + 4 = omega (arith, num.0.place, wide32.len big count) in
          let fits1 = IsBytes-rest (bytes_of big w32 count) from.rest (subst IsBytes num.0.split fits) in
          let g = gap (item_align item) (here + 4) in
          let gap_is : gap (item_align sig) from.at ≡ g = rw (align, at_from) refl in
          let z = zeros_takes (gap (item_align sig) from.at) from.at from.rest q padded in
          let split1 : from.rest ≡ padding g ++ q.rest = subst (λ (x : ℕ). from.rest ≡ padding x ++ q.rest) gap_is z.0 in
          let at_q : q.at ≡ here + 4 + g = omega (arith, z.1, gap_is, at_from) in
          let fits2 = IsBytes-rest (padding g) q.rest (subst IsBytes split1 fits1) in
          let inside = take count q.rest in
          let outside = drop count q.rest in
          let len : length inside ≡ count = omega (arith, length-take count q.rest, ap length split1, length-append (padding g) q.rest, length-padding g, gap_is) in
          let r = items_found m limit big ih n d n i item fs end (q.at + count) outside q.at inside w (omega arith) le deep (IsBytes-take count q.rest fits2) walked_on in
          let form = all_marshalled big (here + 4 + g) r.trees in
          let inside_is : inside ≡ form = r.bytes_are ∙ ap (λ (x : ℕ). all_marshalled big x r.trees) at_q in
          let size : length form ≡ count = sym (ap length inside_is) ∙ len in
          let content = bytes_of big w32 (length form) ++ (padding g ++ form) in
          let all : here + length content ≡ q.at + count = omega (arith, length-append (bytes_of big w32 (length form)) (padding g ++ form), length-append (padding g) form, length-padding g, wide32.len big (length form), size, at_q) in
          let rest_is : q.rest ≡ form ++ outside = sym (take-append-drop count q.rest) ∙ ap (λ (x : List ℕ). x ++ outside) inside_is in
          let whole : bytes ≡ content ++ outside =
          num.0.split ∙ ap (λ (x : ℕ). bytes_of big w32 x ++ from.rest) (sym size) ∙ ap (λ (x : List ℕ). bytes_of big w32 (length form) ++ x) (split1 ∙ ap (λ (x : List ℕ). padding g ++ x) rest_is ∙ sym (append_assoc (padding g) form outside))
          ∙ sym (append_assoc (bytes_of big w32 (length form)) (padding g ++ form) outside) in
          record {
            tree = Array item r.trees;
            types = end;
            content = content;
            rest = outside;
            left = r.left;
            so_far = r.so_far;
            fits = (s.1, r.each);
            sig_is = ap (λ (x : List ℕ). 97 ∷ x) s.0;
            form = λ start same. subst (λ (x : ℕ). marshalled big start (Array item r.trees) ≡ padding (gap 4 start) ++ (bytes_of big w32 (length (all_marshalled big (x + 4 + gap (item_align item) (x + 4)) r.trees)) ++ (padding (gap (item_align item) (x + 4)) ++ all_marshalled big (x + 4 + gap (item_align item) (x + 4)) r.trees))) same refl;
            bytes_are = whole;
            fewer = r.fewer;
            goes = subst (λ (x : ℕ). (resume fs end x >>= λ o. walk r.left r.so_far limit big (state o.0 o.1 x outside)) ≡ Ok w) (sym all) r.goes;
          }

-- ---- structures

has_one : (ts : Trees) (c : ℕ) (s types : List ℕ) → c ∷ s ≡ types_of ts ++ 41 ∷ types → eqb c 41 ≡ false → HasOne ts
has_one none c s types same other = let e : c ≡ 41 = cc in let b : true ≡ false = rw e at other in absurd cc
has_one (more t ts) c s types same other = tt

struct_got : (m limit : ℕ) (big : Bool) (ih : Finds m limit big) (d n i : ℕ) (fs : List Open) (sig : List ℕ) (here : ℕ) (bytes : List ℕ) (w : Walked) → n ≤ suc m → length fs + 1 + d ≡ limit → IsBytes bytes
    → (enter_struct fs sig here bytes >>= λ x. walk n i limit big x.1) ≡ Ok w → Got false (suc d) n limit 8 big fs (40 ∷ sig) here bytes w
unfolding enter_struct FitsAs
struct_got m limit big ih d n i fs [] here bytes w le deep fits e = absurd cc
struct_got m limit big ih d n i fs (c ∷ s) here bytes w le deep fits e =
    let h = guard_bind (eqb c 41) (record { kind = fault.Text; at = here }) (Ok (part.Enter 40, state (open_part.Members ∷ fs) (c ∷ s) here bytes)) (λ x. walk n i limit big x.1) w e in
    let r = members_found m limit big ih n d n i fs (c ∷ s) here bytes w (omega arith) le deep fits h.1 in
    record {
      tree = Struct r.trees;
      types = r.types;
      content = all_marshalled big here r.trees;
      rest = r.rest;
      left = r.left;
      so_far = r.so_far;
      fits = (has_one r.trees c s r.types r.sig_is h.0, r.fit);
      sig_is = ap (λ (x : List ℕ). 40 ∷ x) (r.sig_is ∙ sym (append_assoc (types_of r.trees) (41 ∷ []) r.types));
      form = λ start same. subst (λ (x : ℕ). marshalled big start (Struct r.trees) ≡ padding (gap 8 start) ++ all_marshalled big x r.trees) same refl;
      bytes_are = r.bytes_are;
      fewer = r.fewer;
      goes = r.goes;
    }

-- ---- variants

inner_whole : (fs : List Open) (behind types : List ℕ) (at n i limit : ℕ) (big : Bool) (rest : List ℕ) (w : Walked) → (resume (open_part.Inner behind ∷ fs) types at >>= λ o. walk n i limit big (state o.0 o.1 at rest)) ≡ Ok w → types ≡ []
unfolding resume
inner_whole fs behind [] at n i limit big rest w e = refl
inner_whole fs behind (c ∷ types) at n i limit big rest w e = absurd cc

no_types : (sig : List ℕ) → eqb (length sig) 0 ≡ true → sig ≡ []
no_types [] e = refl
no_types (c ∷ sig) e = let k : length (c ∷ sig) ≡ 0 = eqb-true _ _ e in absurd (omega arith)

variant_got : (m limit : ℕ) (big : Bool) (ih : Finds m limit big) (d n i : ℕ) (fs : List Open) (sig : List ℕ) (here : ℕ) (bytes : List ℕ) (w : Walked) → n ≤ suc m → length fs + 1 + d ≡ limit → IsBytes bytes
    → (enter_variant fs sig here bytes >>= λ x. walk n i limit big x.1) ≡ Ok w → Got false (suc d) n limit 1 big fs (118 ∷ sig) here bytes w
unfolding enter_variant FitsAs padding resume
variant_got m limit big ih d n i fs sig here bytes w le deep fits e =
    let go : Piece × State → Result Walked Fault = λ x. walk n i limit big x.1 in
    let opened : List ℕ × Spot → List ℕ → Result (Piece × State) Fault = λ s end. cond (eqb (length end) 0) (Ok (part.Variant s.0, state (open_part.Inner sig ∷ fs) s.0 s.1.at s.1.rest)) (bad fault.Text here) in
    let b0 = bind_bind (signature_at here bytes) (λ s. rest_of (after_type s.0) here >>= opened s) go w e in
    let s = b0.0 in
    let b1 = bind_bind (rest_of (after_type s.0) here) (opened s) go w b0.2 in
    let h = held_bind (eqb (length b1.0) 0) (record { kind = fault.Text; at = here }) (Ok (part.Variant s.0, state (open_part.Inner sig ∷ fs) s.0 s.1.at s.1.rest)) go w b1.2 in
    let alone : after_type s.0 ≡ Some [] = rest_of_ok (after_type s.0) here b1.0 b1.1 ∙ ap (λ (x : List ℕ). Some x) (no_types b1.0 h.0) in
    variant_read s.0 s.1 b0.1 alone h.1 where
      variant_read : (text : List ℕ) (from : Spot) → signature_at here bytes ≡ Ok (text, from) → after_type text ≡ Some [] → walk n i limit big (state (open_part.Inner sig ∷ fs) text from.at from.rest) ≡ Ok w → Got false (suc d) n limit 1 big fs (118 ∷ sig) here bytes w
      variant_read text from signed alone walked_on =
          let t = sig_takes here bytes (text, from) signed in
          let g = going n i limit big (state (open_part.Inner sig ∷ fs) text from.at from.rest) w (open_done (open_part.Inner sig) fs text from.at from.rest) walked_on in
          let fits1 = IsBytes-rest (length text ∷ (text ++ 0 ∷ [])) from.rest (subst IsBytes t.0.split fits) in
          let r = ih d g.left (i + 1) (open_part.Inner sig ∷ fs) text from.at from.rest w (omega (arith, g.fewer)) (omega arith) fits1 g.goes in
          let whole = inner_whole fs sig r.types (from.at + length (marshalled big from.at r.tree)) r.left r.so_far limit big r.rest w r.goes in
          let type_is : text ≡ type_of r.tree = r.sig_is ∙ ap (λ (x : List ℕ). type_of r.tree ++ x) whole ∙ append-nil (type_of r.tree) in
          let place : from.at ≡ here + length (type_of r.tree) + 2 = omega (arith, t.0.place, length-append text (0 ∷ []), ap length type_is) in
          let T = type_of r.tree in
          let inside = marshalled big (here + length T + 2) r.tree in
          let inside_is : marshalled big from.at r.tree ≡ inside = ap (λ (x : ℕ). marshalled big x r.tree) place in
          let goes : (resume fs sig (from.at + length (marshalled big from.at r.tree)) >>= λ o. walk r.left r.so_far limit big (state o.0 o.1 (from.at + length (marshalled big from.at r.tree)) r.rest)) ≡ Ok w =
          subst (λ (x : List ℕ). (resume (open_part.Inner sig ∷ fs) x (from.at + length (marshalled big from.at r.tree)) >>= λ o. walk r.left r.so_far limit big (state o.0 o.1 (from.at + length (marshalled big from.at r.tree)) r.rest)) ≡ Ok w) whole r.goes in
          let size : from.at + length (marshalled big from.at r.tree) ≡ here + length (length T ∷ (T ++ 0 ∷ inside)) = omega (arith, ap length inside_is, length-append T (0 ∷ inside), place) in
          let front : length text ∷ (text ++ 0 ∷ []) ≡ length T ∷ (T ++ 0 ∷ []) = ap (λ (x : List ℕ). length x ∷ (x ++ 0 ∷ [])) type_is in
          let bytes_are : bytes ≡ (length T ∷ (T ++ 0 ∷ inside)) ++ r.rest =
          t.0.split ∙ ap (λ (x : List ℕ). x ++ from.rest) front ∙ ap (λ (x : List ℕ). (length T ∷ (T ++ 0 ∷ [])) ++ x) (r.bytes_are ∙ ap (λ (x : List ℕ). x ++ r.rest) inside_is)
          ∙ ap (λ (x : List ℕ). length T ∷ x) (append_assoc T (0 ∷ []) (inside ++ r.rest) ∙ sym (append_assoc T (0 ∷ inside) r.rest)) in
          record {
            tree = Variant r.tree;
            types = sig;
            content = length T ∷ (T ++ 0 ∷ inside);
            rest = r.rest;
            left = r.left;
            so_far = r.so_far;
            fits = (subst (λ (x : List ℕ). is_signature x ≡ true) type_is t.1, subst (λ (x : List ℕ). after_type x ≡ Some []) type_is alone, r.fits);
            sig_is = refl;
            form = λ start same. (let no_gap : gap 1 start ≡ 0 = omega arith in
                let here_is : start ≡ here = omega (arith, same, no_gap) in
                rw no_gap (ap (λ (x : ℕ). length T ∷ (T ++ 0 ∷ marshalled big (x + length T + 2) r.tree)) here_is));
            bytes_are = bytes_are;
            fewer = omega (arith, r.fewer, g.fewer);
            goes = subst (λ (x : ℕ). (resume fs sig x >>= λ o. walk r.left r.so_far limit big (state o.0 o.1 x r.rest)) ≡ Ok w) size goes;
          }

-- ---- every value

leaf_read : (k : Class) (d n i limit : ℕ) (big : Bool) (fs : List Open) (c : ℕ) (sig : List ℕ) (at here : ℕ) (bytes inner : List ℕ) (w : Walked) → class_of c ≡ k → is_basic k ≡ true → IsBytes inner → bytes ≡ padding (gap (align_of k) at) ++ inner → here ≡ at + gap (align_of k) at
    → (enter_by k limit big fs c sig here inner >>= λ x. walk n i limit big x.1) ≡ Ok w → Read false d n limit big fs (c ∷ sig) at bytes w
leaf_read k d n i limit big fs c sig at here bytes inner w is basic fits split place e =
    got_read false d n limit (align_of k) big fs (c ∷ sig) at here bytes inner w split place (subst (λ (j : Class). Got false d n limit (align_of j) big fs (c ∷ sig) here inner w) is (leaf_got k d n i limit big fs c sig here inner w is basic fits e))

-- with room for one more container
deeper : (d n : ℕ) (fs : List Open) (limit at : ℕ) (r : Result (Piece × State) Fault) (go : Piece × State → Result Walked Fault) (w : Walked) → length fs + d ≡ limit → (cond (ltb (length fs) limit) r (bad fault.Depth at) >>= go) ≡ Ok w → (e : ℕ) × (d ≡ suc e) × (length fs + 1 + e ≡ limit) × ((r >>= go) ≡ Ok w)
deeper zero n fs limit at r go w deep e =
    let h = held_bind (ltb (length fs) limit) (record { kind = fault.Depth; at = at }) r go w e in
    let lt : length fs < limit = ltb-true _ _ h.0 in
    absurd (omega arith)
deeper (suc d) n fs limit at r go w deep e =
    let h = held_bind (ltb (length fs) limit) (record { kind = fault.Depth; at = at }) r go w e in
    (d, refl, omega arith, h.1)

by_class : (k : Class) (m limit : ℕ) (big : Bool) (ih : Finds m limit big) (d n i : ℕ) (fs : List Open) (c : ℕ) (sig : List ℕ) (at here : ℕ) (bytes inner : List ℕ) (w : Walked) → class_of c ≡ k → n ≤ suc m → length fs + d ≡ limit → IsBytes inner → bytes ≡ padding (gap (align_of k) at) ++ inner → here ≡ at + gap (align_of k) at
    → (enter_by k limit big fs c sig here inner >>= λ x. walk n i limit big x.1) ≡ Ok w → Read false d n limit big fs (c ∷ sig) at bytes w
by_class class.Array m limit big ih d n i fs c sig at here bytes inner w is le deep fits split place e =
    let h = deeper d n fs limit here (enter_array big fs sig here inner) (λ x. walk n i limit big x.1) w deep e in
    let got = array_got m limit big ih h.0 n i fs sig here inner w le h.2 fits h.3 in
    let read = got_read false (suc h.0) n limit 4 big fs (97 ∷ sig) at here bytes inner w split place got in
    subst (λ (x : ℕ). Read false x n limit big fs (c ∷ sig) at bytes w) (sym h.1) (subst (λ (l : ℕ). Read false (suc h.0) n limit big fs (l ∷ sig) at bytes w) (sym (array_letter c is)) read)
by_class class.Struct m limit big ih d n i fs c sig at here bytes inner w is le deep fits split place e =
    let h = deeper d n fs limit here (enter_struct fs sig here inner) (λ x. walk n i limit big x.1) w deep e in
    let got = struct_got m limit big ih h.0 n i fs sig here inner w le h.2 fits h.3 in
    let read = got_read false (suc h.0) n limit 8 big fs (40 ∷ sig) at here bytes inner w split place got in
    subst (λ (x : ℕ). Read false x n limit big fs (c ∷ sig) at bytes w) (sym h.1) (subst (λ (l : ℕ). Read false (suc h.0) n limit big fs (l ∷ sig) at bytes w) (sym (struct_letter c is)) read)
by_class class.Variant m limit big ih d n i fs c sig at here bytes inner w is le deep fits split place e =
    let h = deeper d n fs limit here (enter_variant fs sig here inner) (λ x. walk n i limit big x.1) w deep e in
    let got = variant_got m limit big ih h.0 n i fs sig here inner w le h.2 fits h.3 in
    let read = got_read false (suc h.0) n limit 1 big fs (118 ∷ sig) at here bytes inner w split place got in
    subst (λ (x : ℕ). Read false x n limit big fs (c ∷ sig) at bytes w) (sym h.1) (subst (λ (l : ℕ). Read false (suc h.0) n limit big fs (l ∷ sig) at bytes w) (sym (variant_letter c is)) read)
by_class class.Entry m limit big ih d n i fs c sig at here bytes inner w is le deep fits split place e = absurd cc
by_class class.Other m limit big ih d n i fs c sig at here bytes inner w is le deep fits split place e = absurd cc
by_class class.Byte m limit big ih d n i fs c sig at here bytes inner w is le deep fits split place e = leaf_read class.Byte d n i limit big fs c sig at here bytes inner w is refl fits split place e
by_class class.Half m limit big ih d n i fs c sig at here bytes inner w is le deep fits split place e = leaf_read class.Half d n i limit big fs c sig at here bytes inner w is refl fits split place e
by_class class.Boolean m limit big ih d n i fs c sig at here bytes inner w is le deep fits split place e = leaf_read class.Boolean d n i limit big fs c sig at here bytes inner w is refl fits split place e
by_class class.Word m limit big ih d n i fs c sig at here bytes inner w is le deep fits split place e = leaf_read class.Word d n i limit big fs c sig at here bytes inner w is refl fits split place e
by_class class.Long m limit big ih d n i fs c sig at here bytes inner w is le deep fits split place e = leaf_read class.Long d n i limit big fs c sig at here bytes inner w is refl fits split place e
by_class class.Text m limit big ih d n i fs c sig at here bytes inner w is le deep fits split place e = leaf_read class.Text d n i limit big fs c sig at here bytes inner w is refl fits split place e
by_class class.Path m limit big ih d n i fs c sig at here bytes inner w is le deep fits split place e = leaf_read class.Path d n i limit big fs c sig at here bytes inner w is refl fits split place e
by_class class.Signature m limit big ih d n i fs c sig at here bytes inner w is le deep fits split place e = leaf_read class.Signature d n i limit big fs c sig at here bytes inner w is refl fits split place e

-- What is walked begins with the form of a value that fits, whatever stands behind it.
pub find_value : (m limit : ℕ) (big : Bool) → Finds m limit big
unfolding enter
find_value zero limit big d n i fs sig at bytes w le deep fits e =
    let k : n ≡ 0 = omega arith in
    absurd (nothing_left (enter limit big fs sig at bytes) i limit big w (subst (λ (x : ℕ). (enter limit big fs sig at bytes >>= λ y. walk x i limit big y.1) ≡ Ok w) k e))
find_value (suc m) limit big d n i fs [] at bytes w le deep fits e = absurd cc
find_value (suc m) limit big d n i fs (c ∷ sig) at bytes w le deep fits e =
    let b = bind_bind (pad (align_of (class_of c)) at bytes) (λ p. enter_by (class_of c) limit big fs c sig p.at p.rest) (λ x. walk n i limit big x.1) w e in
    let z = zeros_takes (gap (align_of (class_of c)) at) at bytes b.0 b.1 in
    let inner_fits = IsBytes-rest (padding (gap (align_of (class_of c)) at)) b.0.rest (subst IsBytes z.0 fits) in
    by_class (class_of c) m limit big (find_value m limit big) d n i fs c sig at b.0.at bytes b.0.rest w refl le deep inner_fits z.0 z.1 b.2

-- a row of values, of all the types of a signature
pub record Row (d : ℕ) (big : Bool) (sig : List ℕ) (at : ℕ) (bytes : List ℕ) (w : Walked) : Type 0 where
  pub trees : Trees
  pub fit : Each (FitsAs false d) trees
  pub sig_is : sig ≡ types_of trees
  pub bytes_are : bytes ≡ all_marshalled big at trees ++ w.rest
  pub place : w.at ≡ at + length (all_marshalled big at trees)

row_longer : (d n limit : ℕ) (big : Bool) (sig : List ℕ) (at : ℕ) (bytes : List ℕ) (w : Walked) (r : Read false d n limit big [] sig at bytes w) → Row d big r.types (at + length (marshalled big at r.tree)) r.rest w → Row d big sig at bytes w
row_longer d n limit big sig at bytes w r m =
    let one = marshalled big at r.tree in
    let others = all_marshalled big (at + length one) m.trees in
    record {
      trees = more r.tree m.trees;
      fit = (r.fits, m.fit);
      sig_is = r.sig_is ∙ ap (λ (x : List ℕ). type_of r.tree ++ x) m.sig_is;
      bytes_are = r.bytes_are ∙ ap (λ (x : List ℕ). one ++ x) m.bytes_are ∙ sym (append_assoc one others w.rest);
      place = omega (arith, m.place, length-append one others);
    }

row_end : (d : ℕ) (big : Bool) (at : ℕ) (bytes : List ℕ) (w : Walked) (so_far : ℕ) → walked so_far (spot_at at bytes) ≡ w → Row d big [] at bytes w
row_end d big at bytes w so_far same = subst (λ (v : Walked). Row d big [] at bytes v) same (record { trees = none; fit = tt; sig_is = refl; bytes_are = refl; place = omega arith })

pub row_found : (k d n i limit : ℕ) (big : Bool) (sig : List ℕ) (at : ℕ) (bytes : List ℕ) (w : Walked) → n ≤ k → d ≡ limit → IsBytes bytes → walk n i limit big (state [] sig at bytes) ≡ Ok w → Row d big sig at bytes w
unfolding walk resume
row_found k d zero i limit big sig at bytes w le deep fits e = absurd cc
row_found zero d (suc n) i limit big sig at bytes w le deep fits e = absurd (omega arith)
row_found (suc k) d (suc n) i limit big [] at bytes w le deep fits e = row_end d big at bytes w i (ok_is {E = Fault} (walked i (spot_at at bytes)) w e)
row_found (suc k) d (suc n) i limit big (c ∷ sig) at bytes w le deep fits e =
    let undone : eqb (length (c ∷ sig)) 0 ≡ false = not_zero (length (c ∷ sig)) (omega arith) in
    let h : (enter limit big [] (c ∷ sig) at bytes >>= λ x. walk n (i + 1) limit big x.1) ≡ Ok w = rw undone at e in
    let r = find_value n limit big d n (i + 1) [] (c ∷ sig) at bytes w (omega arith) (omega arith) fits h in
    let rest_fits = IsBytes-rest (marshalled big at r.tree) r.rest (subst IsBytes r.bytes_are fits) in
    row_longer d n limit big (c ∷ sig) at bytes w r (row_found k d r.left r.so_far limit big r.types (at + length (marshalled big at r.tree)) r.rest w (omega (arith, r.fewer)) deep rest_fits r.goes)
