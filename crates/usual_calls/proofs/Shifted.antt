-- Where values stand matters only up to multiples of 8.
use Rattle.std.proofs.Common.{◌≡◌, ℕ, ◌+◌, ◌%◌, List, ◌∷◌, [], ◌++◌, length, Bool, refl, ap, ◌∙◌, arith}
use Rattle.std.specs.Int.{w32}
use Rattle.dbus_values.specs.declared.class.Class.{Class}
use Rattle.dbus_values.specs.declared.class.Class.TheVariants as class
use Rattle.dbus_values.specs.Types.{class_of, align_of}
use Rattle.dbus_values.specs.Basics.{gap}
use Rattle.dbus_values.specs.Signatures.{item_align}
use Rattle.dbus_values.specs.Trees.{Tree, Trees, none, more, Number, Text, Array, Struct, Entry, Variant, type_of, bytes_of, padding, number_bytes, text_bytes, marshalled, all_marshalled}

gap_1 : (p at : ℕ) → p % 8 ≡ 0 → gap 1 (p + at) ≡ gap 1 at
gap_1 p at e = omega arith

gap_2 : (p at : ℕ) → p % 8 ≡ 0 → gap 2 (p + at) ≡ gap 2 at
gap_2 p at e = omega arith

gap_4 : (p at : ℕ) → p % 8 ≡ 0 → gap 4 (p + at) ≡ gap 4 at
gap_4 p at e = omega arith

gap_8 : (p at : ℕ) → p % 8 ≡ 0 → gap 8 (p + at) ≡ gap 8 at
gap_8 p at e = omega arith

gap_of : (k : Class) (p at : ℕ) → p % 8 ≡ 0 → gap (align_of k) (p + at) ≡ gap (align_of k) at
gap_of class.Byte p at e = gap_1 p at e
gap_of class.Half p at e = gap_2 p at e
gap_of class.Boolean p at e = gap_4 p at e
gap_of class.Word p at e = gap_4 p at e
gap_of class.Long p at e = gap_8 p at e
gap_of class.Text p at e = gap_4 p at e
gap_of class.Path p at e = gap_4 p at e
gap_of class.Signature p at e = gap_1 p at e
gap_of class.Array p at e = gap_4 p at e
gap_of class.Struct p at e = gap_8 p at e
gap_of class.Entry p at e = gap_8 p at e
gap_of class.Variant p at e = gap_1 p at e
gap_of class.Other p at e = gap_1 p at e

item_gap : (item : List ℕ) (p at : ℕ) → p % 8 ≡ 0 → gap (item_align item) (p + at) ≡ gap (item_align item) at
item_gap [] p at e = gap_1 p at e
item_gap (c ∷ sig) p at e = gap_of (class_of c) p at e

abbrev array_bytes : Bool → ℕ → ℕ → List ℕ → List ℕ
array_bytes big g h inside = padding g ++ (bytes_of big w32 (length inside) ++ (padding h ++ inside))

mutual
  one : (big : Bool) (p : ℕ) → p % 8 ≡ 0 → (t : Tree) (at : ℕ) → marshalled big (p + at) t ≡ marshalled big at t
  one big p e (Number c n) at = ap (λ (g : ℕ). padding g ++ number_bytes big (class_of c) n) (gap_of (class_of c) p at e)
  one big p e (Text c t) at = ap (λ (g : ℕ). padding g ++ text_bytes big (class_of c) t) (gap_of (class_of c) p at e)
  one big p e (Array item ts) at =
      let g : gap 4 (p + at) ≡ gap 4 at = gap_4 p at e in
      let k : p + at + gap 4 (p + at) + 4 ≡ p + (at + gap 4 at + 4) = omega (arith, g) in
      let h : gap (item_align item) (p + at + gap 4 (p + at) + 4) ≡ gap (item_align item) (at + gap 4 at + 4) = ap (λ (q : ℕ). gap (item_align item) q) k ∙ item_gap item p (at + gap 4 at + 4) e in
      let j : p + at + gap 4 (p + at) + 4 + gap (item_align item) (p + at + gap 4 (p + at) + 4) ≡ p + (at + gap 4 at + 4 + gap (item_align item) (at + gap 4 at + 4)) = omega (arith, k, h) in
      let inside = ap (λ (q : ℕ). all_marshalled big q ts) j ∙ all big p e ts (at + gap 4 at + 4 + gap (item_align item) (at + gap 4 at + 4)) in
      ap (λ (q : ℕ). array_bytes big q (gap (item_align item) (p + at + gap 4 (p + at) + 4)) (all_marshalled big (p + at + gap 4 (p + at) + 4 + gap (item_align item) (p + at + gap 4 (p + at) + 4)) ts)) g
      ∙ ap (λ (q : ℕ). array_bytes big (gap 4 at) q (all_marshalled big (p + at + gap 4 (p + at) + 4 + gap (item_align item) (p + at + gap 4 (p + at) + 4)) ts)) h
      ∙ ap (λ (x : List ℕ). array_bytes big (gap 4 at) (gap (item_align item) (at + gap 4 at + 4)) x) inside
  one big p e (Struct ts) at =
      let g : gap 8 (p + at) ≡ gap 8 at = gap_8 p at e in
      let k : p + at + gap 8 (p + at) ≡ p + (at + gap 8 at) = omega (arith, g) in
      ap (λ (q : ℕ). padding q ++ all_marshalled big (p + at + gap 8 (p + at)) ts) g
      ∙ ap (λ (x : List ℕ). padding (gap 8 at) ++ x) (ap (λ (q : ℕ). all_marshalled big q ts) k ∙ all big p e ts (at + gap 8 at))
  one big p e (Entry k v) at =
      let g : gap 8 (p + at) ≡ gap 8 at = gap_8 p at e in
      let h : p + at + gap 8 (p + at) ≡ p + (at + gap 8 at) = omega (arith, g) in
      let first : marshalled big (p + at + gap 8 (p + at)) k ≡ marshalled big (at + gap 8 at) k = ap (λ (q : ℕ). marshalled big q k) h ∙ one big p e k (at + gap 8 at) in
      let m = marshalled big (at + gap 8 at) k in
      let j : p + at + gap 8 (p + at) + length m ≡ p + (at + gap 8 at + length m) = omega (arith, h) in
      ap (λ (q : ℕ). padding q ++ (marshalled big (p + at + gap 8 (p + at)) k ++ marshalled big (p + at + gap 8 (p + at) + length (marshalled big (p + at + gap 8 (p + at)) k)) v)) g
      ∙ ap (λ (x : List ℕ). padding (gap 8 at) ++ (x ++ marshalled big (p + at + gap 8 (p + at) + length x) v)) first
      ∙ ap (λ (x : List ℕ). padding (gap 8 at) ++ (m ++ x)) (ap (λ (q : ℕ). marshalled big q v) j ∙ one big p e v (at + gap 8 at + length m))
  one big p e (Variant t) at =
      let j : p + at + length (type_of t) + 2 ≡ p + (at + length (type_of t) + 2) = omega arith in
      ap (λ (x : List ℕ). length (type_of t) ∷ (type_of t ++ (0 ∷ x))) (ap (λ (q : ℕ). marshalled big q t) j ∙ one big p e t (at + length (type_of t) + 2))

  pub all : (big : Bool) (p : ℕ) → p % 8 ≡ 0 → (ts : Trees) (at : ℕ) → all_marshalled big (p + at) ts ≡ all_marshalled big at ts
  all big p e none at = refl
  all big p e (more t ts) at =
      let first : marshalled big (p + at) t ≡ marshalled big at t = one big p e t at in
      let m = marshalled big at t in
      let j : p + at + length m ≡ p + (at + length m) = omega arith in
      ap (λ (x : List ℕ). x ++ all_marshalled big (p + at + length x) ts) first
      ∙ ap (λ (x : List ℕ). m ++ x) (ap (λ (q : ℕ). all_marshalled big q ts) j ∙ all big p e ts (at + length m))
