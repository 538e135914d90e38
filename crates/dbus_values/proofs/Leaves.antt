-- Values of basic types that were marshalled are read again, and what is read was marshalled so.
use Rattle.std.proofs.Common.{◌≡◌, ℕ, ◌+◌, ◌<◌, ◌^◌, List, [], ◌∷◌, ◌++◌, length, Bool, true, cond, ltb, Ok, refl, sym, ap, subst, ◌∙◌, arith, append_assoc}
use Rattle.std.specs.Int.{Width, w16, w32, w64}
use Rattle.std.proofs.lemmas.Bool.{ltb-true, lt-ltb}
use Rattle.std.proofs.lemmas.List.{length-append}
use Rattle.dbus_values.specs.declared.class.Class.{Class}
use Rattle.dbus_values.specs.declared.class.Class.TheVariants as class
use Rattle.dbus_values.specs.declared.fault.Fault.{Fault}
use Rattle.dbus_values.specs.declared.fault.FaultKind.TheVariants as fault
use Rattle.dbus_values.specs.Reading.{◌>>=◌, bad, Spot, spot_at}
use Rattle.dbus_values.specs.Parts.{Piece}
use Rattle.dbus_values.specs.Parts as part
use Rattle.dbus_values.specs.Types.{class_of, align_of}
use Rattle.dbus_values.specs.Basics.{gap, byte_at, number_at, text_at, string_at, is_path, leaf_at}
use Rattle.dbus_values.specs.Trees.{Tree, type_of, pieces, bytes_of, padding, number_bytes, text_bytes, marshalled, IsNumber, IsString, IsBasic, FitsAs, Number, Text}
use Rattle.dbus_values.proofs.Numbers.{IsBytes, bind_ok, held_ok, ok_is, Takes, wide16, wide32, wide64, number_again, number_takes, text_again, text_takes, sig_again, sig_takes}

pub number_leaf : (k : Class) (big : Bool) (c n at : ℕ) (rest : List ℕ) → IsNumber k n → leaf_at k big c at (number_bytes big k n ++ rest) ≡ Ok (part.Number c n, spot_at (at + length (number_bytes big k n)) rest)
unfolding leaf_at byte_at
number_leaf class.Byte big c n at rest lt = refl
number_leaf class.Half big c n at rest lt = rw (number_again big w16 (2 ^ 16) wide16 n at rest lt, wide16.len big n) refl
number_leaf class.Boolean big c n at rest lt =
    let small : ltb n 2 ≡ true = lt-ltb n 2 lt in
    rw (number_again big w32 (2 ^ 32) wide32 n at rest (omega arith), small, wide32.len big n) refl
number_leaf class.Word big c n at rest lt = rw (number_again big w32 (2 ^ 32) wide32 n at rest lt, wide32.len big n) refl
number_leaf class.Long big c n at rest lt = rw (number_again big w64 (2 ^ 64) wide64 n at rest lt, wide64.len big n) refl
number_leaf class.Text big c n at rest lt = absurd lt
number_leaf class.Path big c n at rest lt = absurd lt
number_leaf class.Signature big c n at rest lt = absurd lt
number_leaf class.Array big c n at rest lt = absurd lt
number_leaf class.Struct big c n at rest lt = absurd lt
number_leaf class.Entry big c n at rest lt = absurd lt
number_leaf class.Variant big c n at rest lt = absurd lt
number_leaf class.Other big c n at rest lt = absurd lt

regrouped : (b t rest : List ℕ) → (b ++ (t ++ 0 ∷ [])) ++ rest ≡ b ++ (t ++ 0 ∷ rest)
regrouped b t rest = append_assoc b (t ++ 0 ∷ []) rest ∙ ap (λ (x : List ℕ). b ++ x) (append_assoc t (0 ∷ []) rest)

text_size : (big : Bool) (t : List ℕ) (at : ℕ) → at + length (bytes_of big w32 (length t) ++ (t ++ 0 ∷ [])) ≡ at + 4 + length t + 1
text_size big t at = omega (arith, length-append (bytes_of big w32 (length t)) (t ++ 0 ∷ []), length-append t (0 ∷ []), wide32.len big (length t))

pub string_again : (k : Class) (big : Bool) (t : List ℕ) (at : ℕ) (rest : List ℕ) → IsString k t → length t < 2 ^ 32 → string_at k big at (text_bytes big k t ++ rest) ≡ Ok (t, spot_at (at + length (text_bytes big k t)) rest)
unfolding string_at
string_again class.Text big t at rest is lt =
    rw (regrouped (bytes_of big w32 (length t)) t rest, text_again big t at rest lt is, text_size big t at) refl
string_again class.Path big t at rest is lt =
    rw (regrouped (bytes_of big w32 (length t)) t rest, text_again big t at rest lt is.0, is.1, text_size big t at) refl
string_again class.Signature big t at rest is lt =
    let r : length t ∷ ((t ++ 0 ∷ []) ++ rest) ≡ length t ∷ (t ++ 0 ∷ rest) = ap (λ (x : List ℕ). length t ∷ x) (append_assoc t (0 ∷ []) rest) in
    let size : at + length (length t ∷ (t ++ 0 ∷ [])) ≡ at + 1 + length t + 1 = omega (arith, length-append t (0 ∷ [])) in
    rw (r, sig_again t rest at is, size) refl
string_again class.Byte big t at rest is lt = absurd is
string_again class.Half big t at rest is lt = absurd is
string_again class.Boolean big t at rest is lt = absurd is
string_again class.Word big t at rest is lt = absurd is
string_again class.Long big t at rest is lt = absurd is
string_again class.Array big t at rest is lt = absurd is
string_again class.Struct big t at rest is lt = absurd is
string_again class.Entry big t at rest is lt = absurd is
string_again class.Variant big t at rest is lt = absurd is
string_again class.Other big t at rest is lt = absurd is

pub string_leaf : (k : Class) (big : Bool) (c : ℕ) (t : List ℕ) (at : ℕ) (rest : List ℕ) → IsString k t → length t < 2 ^ 32 → leaf_at k big c at (text_bytes big k t ++ rest) ≡ Ok (part.Text c t, spot_at (at + length (text_bytes big k t)) rest)
unfolding leaf_at
string_leaf class.Text big c t at rest is lt = rw (string_again class.Text big t at rest is lt) refl
string_leaf class.Path big c t at rest is lt = rw (string_again class.Path big t at rest is lt) refl
string_leaf class.Signature big c t at rest is lt = rw (string_again class.Signature big t at rest is lt) refl
string_leaf class.Byte big c t at rest is lt = absurd is
string_leaf class.Half big c t at rest is lt = absurd is
string_leaf class.Boolean big c t at rest is lt = absurd is
string_leaf class.Word big c t at rest is lt = absurd is
string_leaf class.Long big c t at rest is lt = absurd is
string_leaf class.Array big c t at rest is lt = absurd is
string_leaf class.Struct big c t at rest is lt = absurd is
string_leaf class.Entry big c t at rest is lt = absurd is
string_leaf class.Variant big c t at rest is lt = absurd is
string_leaf class.Other big c t at rest is lt = absurd is

-- a value of a basic type that was read
pub record Leaf (big : Bool) (c at : ℕ) (bytes : List ℕ) (x : Piece × Spot) : Type 0 where
  pub tree : Tree
  pub content : List ℕ
  pub type_is : type_of tree ≡ c ∷ []
  pub pieces_are : pieces tree ≡ x.0 ∷ []
  pub fits : (item : Bool) (d : ℕ) → FitsAs item d tree
  pub basic : IsBasic tree
  pub form : (from : ℕ) → marshalled big from tree ≡ padding (gap (align_of (class_of c)) from) ++ content
  pub taken : Takes at bytes content x.1

number_read : (k : Class) (big : Bool) (c n at : ℕ) (bytes : List ℕ) (s : Spot) → class_of c ≡ k → IsNumber k n → Takes at bytes (number_bytes big k n) s → Leaf big c at bytes (part.Number c n, s)
unfolding FitsAs
number_read k big c n at bytes s e is taken = record {
  tree = Number c n;
  content = number_bytes big k n;
  type_is = refl;
  pieces_are = refl;
  fits = λ item d. subst (λ (j : Class). IsNumber j n) (sym e) is;
  basic = tt;
  form = λ from. ap (λ (j : Class). padding (gap (align_of (class_of c)) from) ++ number_bytes big j n) e;
  taken = taken;
}

text_read : (k : Class) (big : Bool) (c : ℕ) (t : List ℕ) (at : ℕ) (bytes : List ℕ) (s : Spot) → class_of c ≡ k → IsString k t → Takes at bytes (text_bytes big k t) s → Leaf big c at bytes (part.Text c t, s)
unfolding FitsAs
text_read k big c t at bytes s e is taken = record {
  tree = Text c t;
  content = text_bytes big k t;
  type_is = refl;
  pieces_are = refl;
  fits = λ item d. subst (λ (j : Class). IsString j t) (sym e) is;
  basic = tt;
  form = λ from. ap (λ (j : Class). padding (gap (align_of (class_of c)) from) ++ text_bytes big j t) e;
  taken = taken;
}

byte_read : (at : ℕ) (bytes : List ℕ) (x : ℕ × Spot) → IsBytes bytes → byte_at at bytes ≡ Ok x → Takes at bytes (x.0 ∷ []) x.1 × (x.0 < 256)
unfolding byte_at
byte_read at [] x fits e = absurd cc
byte_read at (b ∷ bytes) x fits e =
    let same : (b, spot_at (at + 1) bytes) ≡ x = ok_is {E = Fault} (b, spot_at (at + 1) bytes) x e in
    subst (λ (y : ℕ × Spot). Takes at (b ∷ bytes) (y.0 ∷ []) y.1 × (y.0 < 256)) same (record { split = refl; place = refl }, fits 0)

pub string_takes : (k : Class) (big : Bool) (at : ℕ) (bytes : List ℕ) (t : List ℕ × Spot) → IsBytes bytes → string_at k big at bytes ≡ Ok t → Takes at bytes (text_bytes big k t.0) t.1 × IsString k t.0
unfolding string_at
string_takes class.Text big at bytes t fits read = text_takes big at bytes t fits read
string_takes class.Path big at bytes t fits read =
    let b = bind_ok (text_at big at bytes) (λ t. cond (is_path t.0) (Ok t) (bad fault.Text at)) t read in
    let h = held_ok (is_path b.0.0) (record { kind = fault.Text; at = at }) (Ok b.0) t b.2 in
    let same : b.0 ≡ t = ok_is {E = Fault} b.0 t h.1 in
    let r = text_takes big at bytes b.0 fits b.1 in
    subst (λ (y : List ℕ × Spot). Takes at bytes (text_bytes big class.Path y.0) y.1 × IsString class.Path y.0) same (r.0, (r.1, h.0))
string_takes class.Signature big at bytes t fits read = sig_takes at bytes t read
string_takes class.Byte big at bytes t fits read = absurd cc
string_takes class.Half big at bytes t fits read = absurd cc
string_takes class.Boolean big at bytes t fits read = absurd cc
string_takes class.Word big at bytes t fits read = absurd cc
string_takes class.Long big at bytes t fits read = absurd cc
string_takes class.Array big at bytes t fits read = absurd cc
string_takes class.Struct big at bytes t fits read = absurd cc
string_takes class.Entry big at bytes t fits read = absurd cc
string_takes class.Variant big at bytes t fits read = absurd cc
string_takes class.Other big at bytes t fits read = absurd cc

string_read : (k : Class) (big : Bool) (c at : ℕ) (bytes : List ℕ) (t : List ℕ × Spot) → class_of c ≡ k → IsBytes bytes → string_at k big at bytes ≡ Ok t → Leaf big c at bytes (part.Text c t.0, t.1)
string_read k big c at bytes t e fits read = let r = string_takes k big at bytes t fits read in text_read k big c t.0 at bytes t.1 e r.1 r.0

string_leaf_read : (k : Class) (big : Bool) (c at : ℕ) (bytes : List ℕ) (x : Piece × Spot) → class_of c ≡ k → IsBytes bytes → (string_at k big at bytes >>= λ t. Ok (part.Text c t.0, t.1)) ≡ Ok x → Leaf big c at bytes x
string_leaf_read k big c at bytes x e fits read =
    let b = bind_ok (string_at k big at bytes) (λ t. Ok (part.Text c t.0, t.1)) x read in
    subst (λ (y : Piece × Spot). Leaf big c at bytes y) (ok_is {E = Fault} (part.Text c b.0.0, b.0.1) x b.2) (string_read k big c at bytes b.0 e fits b.1)

number_leaf_read : (k : Class) (w : Width) (big : Bool) (c at : ℕ) (bytes : List ℕ) (x : Piece × Spot) → class_of c ≡ k → ((n : ℕ × Spot) → number_at big w at bytes ≡ Ok n → IsNumber k n.0 × Takes at bytes (number_bytes big k n.0) n.1)
    → (number_at big w at bytes >>= λ n. Ok (part.Number c n.0, n.1)) ≡ Ok x → Leaf big c at bytes x
number_leaf_read k w big c at bytes x e takes read =
    let b = bind_ok (number_at big w at bytes) (λ n. Ok (part.Number c n.0, n.1)) x read in
    let t = takes b.0 b.1 in
    subst (λ (y : Piece × Spot). Leaf big c at bytes y) (ok_is {E = Fault} (part.Number c b.0.0, b.0.1) x b.2) (number_read k big c b.0.0 at bytes b.0.1 e t.0 t.1)

pub leaf_takes : (k : Class) (big : Bool) (c at : ℕ) (bytes : List ℕ) (x : Piece × Spot) → class_of c ≡ k → IsBytes bytes → leaf_at k big c at bytes ≡ Ok x → Leaf big c at bytes x
unfolding leaf_at
leaf_takes class.Byte big c at bytes x e fits read =
    let b = bind_ok (byte_at at bytes) (λ n. Ok (part.Number c n.0, n.1)) x read in
    let t = byte_read at bytes b.0 fits b.1 in
    subst (λ (y : Piece × Spot). Leaf big c at bytes y) (ok_is {E = Fault} (part.Number c b.0.0, b.0.1) x b.2) (number_read class.Byte big c b.0.0 at bytes b.0.1 e t.1 t.0)
leaf_takes class.Half big c at bytes x e fits read =
    number_leaf_read class.Half w16 big c at bytes x e (λ n h. let t = number_takes big w16 (2 ^ 16) wide16 at bytes n fits h in (t.1, t.0)) read
leaf_takes class.Word big c at bytes x e fits read =
    number_leaf_read class.Word w32 big c at bytes x e (λ n h. let t = number_takes big w32 (2 ^ 32) wide32 at bytes n fits h in (t.1, t.0)) read
leaf_takes class.Long big c at bytes x e fits read =
    number_leaf_read class.Long w64 big c at bytes x e (λ n h. let t = number_takes big w64 (2 ^ 64) wide64 at bytes n fits h in (t.1, t.0)) read
leaf_takes class.Boolean big c at bytes x e fits read =
    let b = bind_ok (number_at big w32 at bytes) (λ n. cond (ltb n.0 2) (Ok (part.Number c n.0, n.1)) (bad fault.Bool at)) x read in
    let h = held_ok (ltb b.0.0 2) (record { kind = fault.Bool; at = at }) (Ok (part.Number c b.0.0, b.0.1)) x b.2 in
    let t = number_takes big w32 (2 ^ 32) wide32 at bytes b.0 fits b.1 in
    subst (λ (y : Piece × Spot). Leaf big c at bytes y) (ok_is {E = Fault} (part.Number c b.0.0, b.0.1) x h.1) (number_read class.Boolean big c b.0.0 at bytes b.0.1 e (ltb-true _ _ h.0) t.0)
leaf_takes class.Text big c at bytes x e fits read = string_leaf_read class.Text big c at bytes x e fits read
leaf_takes class.Path big c at bytes x e fits read = string_leaf_read class.Path big c at bytes x e fits read
leaf_takes class.Signature big c at bytes x e fits read = string_leaf_read class.Signature big c at bytes x e fits read
leaf_takes class.Array big c at bytes x e fits read = string_leaf_read class.Array big c at bytes x e fits read
leaf_takes class.Struct big c at bytes x e fits read = string_leaf_read class.Struct big c at bytes x e fits read
leaf_takes class.Entry big c at bytes x e fits read = string_leaf_read class.Entry big c at bytes x e fits read
leaf_takes class.Variant big c at bytes x e fits read = string_leaf_read class.Variant big c at bytes x e fits read
leaf_takes class.Other big c at bytes x e fits read = string_leaf_read class.Other big c at bytes x e fits read
