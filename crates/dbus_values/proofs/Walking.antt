-- A value that was marshalled is walked with its parts, whatever types and bytes follow it.
use Rattle.std.proofs.Common.{◌≡◌, ℕ, zero, suc, ◌+◌, ◌-◌, ◌<◌, ◌≤◌, ◌^◌, List, [], ◌∷◌, ◌++◌, length, Bool, true, false, eqb, ltb, Result, Ok, Some, refl, sym, ap, subst, ◌∙◌, arith, append_assoc}
use Rattle.std.specs.Int.{w32}
use Rattle.std.proofs.lemmas.Bool.{le-ltb, lt-ltb, eqb-true}
use Rattle.std.proofs.lemmas.List.{take_at, drop_at, length-append, append-nil}
use Rattle.dbus_values.specs.declared.class.Class.{Class}
use Rattle.dbus_values.specs.declared.class.Class.TheVariants as class
use Rattle.dbus_values.specs.declared.fault.Fault.{Fault}
use Rattle.dbus_values.specs.Reading.{◌>>=◌, spot_at}
use Rattle.dbus_values.specs.Parts.{Piece}
use Rattle.dbus_values.specs.Parts as part
use Rattle.dbus_values.specs.Opened.{Open}
use Rattle.dbus_values.specs.Opened as open_part
use Rattle.dbus_values.specs.Types.{class_of, align_of, is_basic}
use Rattle.dbus_values.specs.Signatures.{after_item, after_type, is_signature, item_align}
use Rattle.dbus_values.specs.Basics.{gap, zeros, leaf_at}
use Rattle.dbus_values.specs.Walk.{State, state, resume, resumed, enter, enter_by, enter_array, enter_struct, enter_variant, enter_entry, enter_item, in_items, in_members, in_key, in_closing, step, parts}
use Rattle.dbus_values.specs.Trees.{Tree, Trees, type_of, types_of, pieces, all_pieces, bytes_of, padding, number_bytes, text_bytes, marshalled, all_marshalled, IsNumber, IsString, IsBasic, IsItem, Each, HasOne, FitsAs, Fits, Number, Text, Array, Struct, Entry, Variant, none, more}
use Rattle.dbus_values.proofs.Numbers.{length-padding, zeros_again, number_again, sig_again, wide16, wide32, wide64}
use Rattle.dbus_values.proofs.Leaves.{number_leaf, string_leaf}
use Rattle.dbus_values.proofs.Loops.{not_zero}

-- from s the walk gives these parts and stands at t
abbrev pub Walks : ℕ → Bool → State → List Piece → State → Type 0
Walks limit big s [] t = s ≡ t
Walks limit big s (p ∷ ps) t = (m : State) × (step limit big s ≡ Ok (p, m)) × Walks limit big m ps t

-- a first part, and a walk from there
abbrev pub Begins : ℕ → Bool → Result (Piece × State) Fault → List Piece → State → Type 0
Begins limit big r [] t = ⊥
Begins limit big r (p ∷ ps) t = (m : State) × (r ≡ Ok (p, m)) × Walks limit big m ps t

pub begins_walks : (limit : ℕ) (big : Bool) (s t : State) (r : Result (Piece × State) Fault) (ps : List Piece) → step limit big s ≡ r → Begins limit big r ps t → Walks limit big s ps t
begins_walks limit big s t r [] e walk = absurd walk
begins_walks limit big s t r (p ∷ ps) e walk = (walk.0, e ∙ walk.1, walk.2)

pub walks_on : (limit : ℕ) (big : Bool) (s m t : State) (ps qs : List Piece) → Walks limit big s ps m → Walks limit big m qs t → Walks limit big s (ps ++ qs) t
walks_on limit big s m t [] qs first second = subst (λ (u : State). Walks limit big u qs t) (sym first) second
walks_on limit big s m t (p ∷ ps) qs first second = (first.0, first.1, walks_on limit big first.0 m t ps qs first.2 second)

pub walks_parts : (limit : ℕ) (big : Bool) (s t : State) (ps : List Piece) → Walks limit big s ps t → parts (length ps) limit big s ≡ ps
unfolding parts
walks_parts limit big s t [] walk = refl
walks_parts limit big s t (p ∷ ps) walk = rw walk.1 (ap (λ (qs : List Piece). p ∷ qs) (walks_parts limit big walk.0 t ps walk.2))

pub basic_number : (k : Class) (n : ℕ) → IsNumber k n → is_basic k ≡ true
basic_number class.Byte n is = refl
basic_number class.Half n is = refl
basic_number class.Boolean n is = refl
basic_number class.Word n is = refl
basic_number class.Long n is = refl
basic_number class.Text n is = absurd is
basic_number class.Path n is = absurd is
basic_number class.Signature n is = absurd is
basic_number class.Array n is = absurd is
basic_number class.Struct n is = absurd is
basic_number class.Entry n is = absurd is
basic_number class.Variant n is = absurd is
basic_number class.Other n is = absurd is

pub basic_string : (k : Class) (t : List ℕ) → IsString k t → is_basic k ≡ true
basic_string class.Text t is = refl
basic_string class.Path t is = refl
basic_string class.Signature t is = refl
basic_string class.Byte t is = absurd is
basic_string class.Half t is = absurd is
basic_string class.Boolean t is = absurd is
basic_string class.Word t is = absurd is
basic_string class.Long t is = absurd is
basic_string class.Array t is = absurd is
basic_string class.Struct t is = absurd is
basic_string class.Entry t is = absurd is
basic_string class.Variant t is = absurd is
basic_string class.Other t is = absurd is

pub enter_by_leaf : (k : Class) (limit : ℕ) (big : Bool) (fs : List Open) (c : ℕ) (sig : List ℕ) (at : ℕ) (bytes : List ℕ) → is_basic k ≡ true
    → enter_by k limit big fs c sig at bytes ≡ (leaf_at k big c at bytes >>= λ x. resumed x.0 fs sig x.1.at x.1.rest)
enter_by_leaf class.Array limit big fs c sig at bytes is = absurd cc
enter_by_leaf class.Struct limit big fs c sig at bytes is = absurd cc
enter_by_leaf class.Entry limit big fs c sig at bytes is = absurd cc
enter_by_leaf class.Variant limit big fs c sig at bytes is = absurd cc
enter_by_leaf class.Other limit big fs c sig at bytes is = absurd cc
enter_by_leaf _ limit big fs c sig at bytes is = refl

pub resumes : (p : Piece) (fs gs : List Open) (types left : List ℕ) (at : ℕ) (rest : List ℕ) → resume fs types at ≡ Ok (gs, left) → resumed p fs types at rest ≡ Ok (p, state gs left at rest)
unfolding resumed
resumes p fs gs types left at rest h = rw h refl

leaf_enters : (limit : ℕ) (big : Bool) (fs : List Open) (c : ℕ) (x : List ℕ) (p : Piece) (types rest : List ℕ) (at : ℕ) (gs : List Open) (left : List ℕ) → is_basic (class_of c) ≡ true
    → leaf_at (class_of c) big c (at + gap (align_of (class_of c)) at) (x ++ rest) ≡ Ok (p, spot_at (at + gap (align_of (class_of c)) at + length x) rest)
    → resume fs types (at + length (padding (gap (align_of (class_of c)) at) ++ x)) ≡ Ok (gs, left)
    → enter limit big fs (c ∷ types) at ((padding (gap (align_of (class_of c)) at) ++ x) ++ rest) ≡ Ok (p, state gs left (at + length (padding (gap (align_of (class_of c)) at) ++ x)) rest)
unfolding enter
leaf_enters limit big fs c x p types rest at gs left basic read go =
    let g = gap (align_of (class_of c)) at in
    let r : (padding g ++ x) ++ rest ≡ padding g ++ (x ++ rest) = append_assoc (padding g) x rest in
    let size : at + length (padding g ++ x) ≡ at + g + length x = omega (arith, length-append (padding g) x, length-padding g) in
    let on : resume fs types (at + g + length x) ≡ Ok (gs, left) = subst (λ (q : ℕ). resume fs types q ≡ Ok (gs, left)) size go in
    rw (r, zeros_again g at (x ++ rest), enter_by_leaf (class_of c) limit big fs c types (at + g) (x ++ rest) basic, read, resumes p fs gs types left (at + g + length x) rest on, size) refl

append_pos : (xs ys : List ℕ) → 1 ≤ length xs → 1 ≤ length (xs ++ ys)
append_pos xs ys le = omega (arith, length-append xs ys)

append_pos_right : (xs ys : List ℕ) → 1 ≤ length ys → 1 ≤ length (xs ++ ys)
append_pos_right xs ys le = omega (arith, length-append xs ys)

number_pos : (k : Class) (big : Bool) (n : ℕ) → IsNumber k n → 1 ≤ length (number_bytes big k n)
number_pos class.Byte big n is = omega arith
number_pos class.Half big n is = omega (arith, wide16.len big n)
number_pos class.Boolean big n is = omega (arith, wide32.len big n)
number_pos class.Word big n is = omega (arith, wide32.len big n)
number_pos class.Long big n is = omega (arith, wide64.len big n)
number_pos class.Text big n is = absurd is
number_pos class.Path big n is = absurd is
number_pos class.Signature big n is = absurd is
number_pos class.Array big n is = absurd is
number_pos class.Struct big n is = absurd is
number_pos class.Entry big n is = absurd is
number_pos class.Variant big n is = absurd is
number_pos class.Other big n is = absurd is

text_pos : (k : Class) (big : Bool) (t : List ℕ) → 1 ≤ length (text_bytes big k t)
text_pos class.Signature big t = omega arith
text_pos _ big t = append_pos (bytes_of big w32 (length t)) _ (omega (arith, wide32.len big (length t)))

-- each value takes a byte
pub marshalled_pos : (item : Bool) (d : ℕ) (t : Tree) (big : Bool) (at : ℕ) → FitsAs item d t → 1 ≤ length (marshalled big at t)
unfolding FitsAs
marshalled_pos item d (Number c n) big at fits = append_pos_right (padding (gap (align_of (class_of c)) at)) _ (number_pos (class_of c) big n fits)
marshalled_pos item d (Text c t) big at fits = append_pos_right (padding (gap (align_of (class_of c)) at)) _ (text_pos (class_of c) big t)
marshalled_pos item d (Array sig ts) big at fits = append_pos_right (padding (gap 4 at)) _ (append_pos (bytes_of big w32 _) _ (omega (arith, wide32.len big (length (all_marshalled big (at + gap 4 at + 4 + gap (item_align sig) (at + gap 4 at + 4)) ts)))))
marshalled_pos item zero (Struct ts) big at fits = absurd fits
marshalled_pos item (suc d) (Struct none) big at fits = absurd fits.0
marshalled_pos item (suc d) (Struct (more t ts)) big at fits = append_pos_right (padding (gap 8 at)) _ (append_pos (marshalled big (at + gap 8 at) t) _ (marshalled_pos false d t big (at + gap 8 at) fits.1.0))
marshalled_pos false d (Entry k v) big at fits = absurd fits
marshalled_pos true zero (Entry k v) big at fits = absurd fits
marshalled_pos true (suc d) (Entry k v) big at fits = append_pos_right (padding (gap 8 at)) _ (append_pos (marshalled big (at + gap 8 at) k) _ (marshalled_pos false d k big (at + gap 8 at) fits.1))
marshalled_pos item d (Variant t) big at fits = omega arith

-- a letter is not another one of another class
other_letter : (c l : ℕ) (P : Class → Type 0) → P (class_of c) → (P (class_of l) → ⊥) → eqb c l ≡ false
other_letter c l P is not = go (eqb c l) refl where
  go : (b : Bool) → eqb c l ≡ b → b ≡ false
  go true e = absurd (not (subst (λ (x : ℕ). P (class_of x)) (eqb-true c l e) is))
  go false e = refl

-- inside a structure a value begins where no `)` stands
members_more : (d limit : ℕ) (big : Bool) (fs : List Open) (t : Tree) (types : List ℕ) (at : ℕ) (bytes : List ℕ) → Fits d t
    → in_members limit big fs (type_of t ++ types) at bytes ≡ enter limit big (open_part.Members ∷ fs) (type_of t ++ types) at bytes
unfolding in_members FitsAs
members_more d limit big fs (Number c n) types at bytes fits = rw (other_letter c 41 (λ k. IsNumber k n) fits (λ h. h)) refl
members_more d limit big fs (Text c t) types at bytes fits = rw (other_letter c 41 (λ k. IsString k t) fits (λ h. h)) refl
members_more d limit big fs (Array sig ts) types at bytes fits = refl
members_more d limit big fs (Struct ts) types at bytes fits = refl
members_more d limit big fs (Entry k v) types at bytes fits = refl
members_more d limit big fs (Variant t) types at bytes fits = refl

-- a dict entry's key has a basic type
key_more : (d limit : ℕ) (big : Bool) (fs : List Open) (t : Tree) (types : List ℕ) (at : ℕ) (bytes : List ℕ) → IsBasic t → Fits d t
    → in_key limit big fs (type_of t ++ types) at bytes ≡ enter limit big (open_part.Value ∷ fs) (type_of t ++ types) at bytes
unfolding in_key FitsAs
key_more d limit big fs (Number c n) types at bytes basic fits = rw (basic_number (class_of c) n fits) refl
key_more d limit big fs (Text c t) types at bytes basic fits = rw (basic_string (class_of c) t fits) refl
key_more d limit big fs (Array sig ts) types at bytes basic fits = absurd basic
key_more d limit big fs (Struct ts) types at bytes basic fits = absurd basic
key_more d limit big fs (Entry k v) types at bytes basic fits = absurd basic
key_more d limit big fs (Variant t) types at bytes basic fits = absurd basic

-- the law for values inside which containers stand to a depth, and for the items of an array
abbrev pub Enters : ℕ → ℕ → Bool → Type 0
Enters d limit big = (t : Tree) → FitsAs false d t → (fs : List Open) (types rest : List ℕ) (at : ℕ) (gs : List Open) (left : List ℕ) → length fs + d ≤ limit → length (marshalled big at t) < 2 ^ 32
    → resume fs types (at + length (marshalled big at t)) ≡ Ok (gs, left)
    → Begins limit big (enter limit big fs (type_of t ++ types) at (marshalled big at t ++ rest)) (pieces t) (state gs left (at + length (marshalled big at t)) rest)

abbrev pub EntersItem : ℕ → ℕ → Bool → Type 0
EntersItem d limit big = (t : Tree) → FitsAs true d t → (fs : List Open) (rest : List ℕ) (at : ℕ) → length fs + d ≤ limit → length (marshalled big at t) < 2 ^ 32 → ((p : ℕ) → resume fs [] p ≡ Ok (fs, []))
    → Begins limit big (enter_item limit big fs (type_of t) at (marshalled big at t ++ rest)) (pieces t) (state fs [] (at + length (marshalled big at t)) rest)

number_enters : (d limit : ℕ) (big : Bool) (c n : ℕ) → IsNumber (class_of c) n → (fs : List Open) (types rest : List ℕ) (at : ℕ) (gs : List Open) (left : List ℕ) → resume fs types (at + length (marshalled big at (Number c n))) ≡ Ok (gs, left)
    → Begins limit big (enter limit big fs (c ∷ types) at (marshalled big at (Number c n) ++ rest)) (part.Number c n ∷ []) (state gs left (at + length (marshalled big at (Number c n))) rest)
number_enters d limit big c n fits fs types rest at gs left go =
    let g = gap (align_of (class_of c)) at in
    let read = number_leaf (class_of c) big c n (at + g) rest fits in
    (state gs left (at + length (marshalled big at (Number c n))) rest, leaf_enters limit big fs c (number_bytes big (class_of c) n) (part.Number c n) types rest at gs left (basic_number (class_of c) n fits) read go, refl)

text_short : (k : Class) (big : Bool) (t : List ℕ) → length t ≤ length (text_bytes big k t)
text_short class.Signature big t = omega (arith, length-append t (0 ∷ []))
text_short _ big t = omega (arith, length-append (bytes_of big w32 (length t)) (t ++ 0 ∷ []), length-append t (0 ∷ []))

text_enters : (d limit : ℕ) (big : Bool) (c : ℕ) (t : List ℕ) → IsString (class_of c) t → (fs : List Open) (types rest : List ℕ) (at : ℕ) (gs : List Open) (left : List ℕ) → length (marshalled big at (Text c t)) < 2 ^ 32 → resume fs types (at + length (marshalled big at (Text c t))) ≡ Ok (gs, left)
    → Begins limit big (enter limit big fs (c ∷ types) at (marshalled big at (Text c t) ++ rest)) (part.Text c t ∷ []) (state gs left (at + length (marshalled big at (Text c t))) rest)
text_enters d limit big c t fits fs types rest at gs left lt go =
    let g = gap (align_of (class_of c)) at in
    let x = text_bytes big (class_of c) t in
    let short : length t < 2 ^ 32 = omega (arith, text_short (class_of c) big t, length-append (padding g) x) in
    let read = string_leaf (class_of c) big c t (at + g) rest fits short in
    (state gs left (at + length (marshalled big at (Text c t))) rest, leaf_enters limit big fs c x (part.Text c t) types rest at gs left (basic_string (class_of c) t fits) read go, refl)

-- ---- structures

members_walk : (d limit : ℕ) (big : Bool) (ih : Enters d limit big) (ts : Trees) → Each (FitsAs false d) ts → (fs : List Open) (types rest : List ℕ) (at : ℕ) (gs : List Open) (left : List ℕ) → length fs + 1 + d ≤ limit → length (all_marshalled big at ts) < 2 ^ 32
    → resume fs types (at + length (all_marshalled big at ts)) ≡ Ok (gs, left)
    → Walks limit big (state (open_part.Members ∷ fs) (types_of ts ++ 41 ∷ types) at (all_marshalled big at ts ++ rest)) (all_pieces ts ++ part.Leave 40 ∷ []) (state gs left (at + length (all_marshalled big at ts)) rest)
unfolding in_members resume
members_walk d limit big ih none fits fs types rest at gs left deep lt go =
    let k : at + 0 ≡ at = omega arith in
    let on : resume fs types at ≡ Ok (gs, left) = subst (λ (q : ℕ). resume fs types q ≡ Ok (gs, left)) k go in
    (state gs left at rest, resumes (part.Leave 40) fs gs types left at rest on, ap (λ (q : ℕ). state gs left q rest) (sym k))
members_walk d limit big ih (more t ts) fits fs types rest at gs left deep lt go =
    let m = marshalled big at t in
    let next = at + length m in
    let after = all_marshalled big next ts in
    let X = types_of ts ++ 41 ∷ types in
    let all : length (m ++ after) ≡ length m + length after = length-append m after in
    let size : at + length (m ++ after) ≡ next + length after = omega (arith, all) in
    let r1 : (type_of t ++ types_of ts) ++ 41 ∷ types ≡ type_of t ++ X = append_assoc (type_of t) (types_of ts) (41 ∷ types) in
    let r2 : (m ++ after) ++ rest ≡ m ++ (after ++ rest) = append_assoc m after rest in
    let one = ih t fits.0 (open_part.Members ∷ fs) X (after ++ rest) at (open_part.Members ∷ fs) X (omega arith) (omega (arith, all)) refl in
    let first : Walks limit big (state (open_part.Members ∷ fs) (type_of t ++ X) at (m ++ (after ++ rest))) (pieces t) (state (open_part.Members ∷ fs) X next (after ++ rest)) = begins_walks limit big _ _ _ (pieces t) (members_more d limit big fs t X at (m ++ (after ++ rest)) fits.0) one in
    let on : resume fs types (next + length after) ≡ Ok (gs, left) = subst (λ (q : ℕ). resume fs types q ≡ Ok (gs, left)) size go in
    let others = members_walk d limit big ih ts fits.1 fs types rest next gs left deep (omega (arith, all)) on in
    let joined = walks_on limit big _ _ _ (pieces t) (all_pieces ts ++ part.Leave 40 ∷ []) first others in
    let parts_are : (pieces t ++ all_pieces ts) ++ part.Leave 40 ∷ [] ≡ pieces t ++ (all_pieces ts ++ part.Leave 40 ∷ []) = append_assoc (pieces t) (all_pieces ts) (part.Leave 40 ∷ []) in
    rw (r1, r2, parts_are, size) joined

-- a structure begins where no `)` stands
struct_begin : (d : ℕ) (fs : List Open) (ts : Trees) (types : List ℕ) (at : ℕ) (bytes : List ℕ) → HasOne ts → Each (FitsAs false d) ts
    → enter_struct fs (types_of ts ++ 41 ∷ types) at bytes ≡ Ok (part.Enter 40, state (open_part.Members ∷ fs) (types_of ts ++ 41 ∷ types) at bytes)
unfolding enter_struct FitsAs
struct_begin d fs none types at bytes one fits = absurd one
struct_begin d fs (more (Number c n) ts) types at bytes one fits = rw (other_letter c 41 (λ k. IsNumber k n) fits.0 (λ h. h)) refl
struct_begin d fs (more (Text c t) ts) types at bytes one fits = rw (other_letter c 41 (λ k. IsString k t) fits.0 (λ h. h)) refl
struct_begin d fs (more (Array sig us) ts) types at bytes one fits = refl
struct_begin d fs (more (Struct us) ts) types at bytes one fits = refl
struct_begin d fs (more (Entry k v) ts) types at bytes one fits = refl
struct_begin d fs (more (Variant t) ts) types at bytes one fits = refl

struct_enters : (d limit : ℕ) (big : Bool) (ih : Enters d limit big) (ts : Trees) → HasOne ts → Each (FitsAs false d) ts → (fs : List Open) (types rest : List ℕ) (at : ℕ) (gs : List Open) (left : List ℕ) → length fs + suc d ≤ limit → length (marshalled big at (Struct ts)) < 2 ^ 32
    → resume fs types (at + length (marshalled big at (Struct ts))) ≡ Ok (gs, left)
    → Begins limit big (enter limit big fs (type_of (Struct ts) ++ types) at (marshalled big at (Struct ts) ++ rest)) (pieces (Struct ts)) (state gs left (at + length (marshalled big at (Struct ts))) rest)
unfolding enter
struct_enters d limit big ih ts one fits fs types rest at gs left deep lt go =
    let here = at + gap 8 at in
    let inside = all_marshalled big here ts in
    let all = length-append (padding (gap 8 at)) inside in
    let size : at + length (padding (gap 8 at) ++ inside) ≡ here + length inside = omega (arith, all, length-padding (gap 8 at)) in
    let room : ltb (length fs) limit ≡ true = lt-ltb _ _ (omega arith) in
    let r0 : (types_of ts ++ 41 ∷ []) ++ types ≡ types_of ts ++ 41 ∷ types = append_assoc (types_of ts) (41 ∷ []) types in
    let r1 : (padding (gap 8 at) ++ inside) ++ rest ≡ padding (gap 8 at) ++ (inside ++ rest) = append_assoc (padding (gap 8 at)) inside rest in
    let on : resume fs types (here + length inside) ≡ Ok (gs, left) = subst (λ (q : ℕ). resume fs types q ≡ Ok (gs, left)) size go in
    let walk = members_walk d limit big ih ts fits fs types rest here gs left (omega arith) (omega (arith, all)) on in
    (state (open_part.Members ∷ fs) (types_of ts ++ 41 ∷ types) here (inside ++ rest), rw (r0, r1, zeros_again (gap 8 at) at (inside ++ rest), room) (struct_begin d fs ts types here (inside ++ rest) one fits), rw size walk)

-- ---- arrays

items_walk : (d limit : ℕ) (big : Bool) (ih : EntersItem d limit big) (item : List ℕ) (ts : Trees) → Each (λ t. (type_of t ≡ item) × FitsAs true d t) ts
    → (fs : List Open) (behind : List ℕ) (place : ℕ) (outside : List ℕ) (at : ℕ) (gs : List Open) (left : List ℕ) → length fs + 1 + d ≤ limit → length (all_marshalled big at ts) < 2 ^ 32 → resume fs behind place ≡ Ok (gs, left)
    → Walks limit big (state (open_part.Items item behind place outside ∷ fs) [] at (all_marshalled big at ts)) (all_pieces ts ++ part.Leave 97 ∷ []) (state gs left place outside)
unfolding in_items resume
items_walk d limit big ih item none fits fs behind place outside at gs left deep lt go = (state gs left place outside, resumes (part.Leave 97) fs gs behind left place outside go, refl)
items_walk d limit big ih item (more t ts) fits fs behind place outside at gs left deep lt go =
    let m = marshalled big at t in
    let next = at + length m in
    let after = all_marshalled big next ts in
    let F = open_part.Items item behind place outside ∷ fs in
    let all : length (m ++ after) ≡ length m + length after = length-append m after in
    let pos = marshalled_pos true d t big at fits.0.1 in
    let long : eqb (length (m ++ after)) 0 ≡ false = not_zero (length (m ++ after)) (omega (arith, all, pos)) in
    let one = ih t fits.0.1 F after at (omega arith) (omega (arith, all)) (λ p. refl) in
    let begins : step limit big (state F [] at (m ++ after)) ≡ enter_item limit big F (type_of t) at (m ++ after) = rw (long, fits.0.0) refl in
    let first : Walks limit big (state F [] at (m ++ after)) (pieces t) (state F [] next after) = begins_walks limit big _ _ _ (pieces t) begins one in
    let others = items_walk d limit big ih item ts fits.1 fs behind place outside next gs left deep (omega (arith, all)) go in
    let joined = walks_on limit big _ _ _ (pieces t) (all_pieces ts ++ part.Leave 97 ∷ []) first others in
    let parts_are : (pieces t ++ all_pieces ts) ++ part.Leave 97 ∷ [] ≡ pieces t ++ (all_pieces ts ++ part.Leave 97 ∷ []) = append_assoc (pieces t) (all_pieces ts) (part.Leave 97 ∷ []) in
    rw parts_are joined

pub item_front : (item types : List ℕ) → IsItem item → item_align (item ++ types) ≡ item_align item
item_front [] types h = absurd (nothing (h [])) where
  nothing : after_item [] ≡ Some [] → ⊥
  nothing e = cc
item_front (c ∷ item) types h = refl

array_begin : (item types inside rest : List ℕ) (big : Bool) (fs : List Open) (at : ℕ) → IsItem item → length inside < 2 ^ 32
    → enter_array big fs (item ++ types) at (bytes_of big w32 (length inside) ++ (padding (gap (item_align item) (at + 4)) ++ (inside ++ rest)))
    ≡ Ok (part.Enter 97, state (open_part.Items item types (at + 4 + gap (item_align item) (at + 4) + length inside) rest ∷ fs) [] (at + 4 + gap (item_align item) (at + 4)) inside)
unfolding enter_array
array_begin item types inside rest big fs at whole lt =
    let g = gap (item_align item) (at + 4) in
    let long : ltb (length (padding g ++ (inside ++ rest))) (g + length inside) ≡ false = le-ltb _ _ (omega (arith, length-append (padding g) (inside ++ rest), length-append inside rest, length-padding g)) in
    let k : length (item ++ types) - length types ≡ length item = omega (arith, length-append item types) in
    rw (whole types, number_again big w32 (2 ^ 32) wide32 (length inside) at (padding g ++ (inside ++ rest)) lt, item_front item types whole, long, zeros_again g (at + 4) (inside ++ rest), take_at inside rest (length inside) refl, drop_at inside rest (length inside) refl, k, take_at item types (length item) refl) refl

array_enters : (d limit : ℕ) (big : Bool) (ih : EntersItem d limit big) (item : List ℕ) (ts : Trees) → IsItem item → Each (λ t. (type_of t ≡ item) × FitsAs true d t) ts → (fs : List Open) (types rest : List ℕ) (at : ℕ) (gs : List Open) (left : List ℕ) → length fs + suc d ≤ limit → length (marshalled big at (Array item ts)) < 2 ^ 32
    → resume fs types (at + length (marshalled big at (Array item ts))) ≡ Ok (gs, left)
    → Begins limit big (enter limit big fs (97 ∷ (item ++ types)) at (marshalled big at (Array item ts) ++ rest)) (pieces (Array item ts)) (state gs left (at + length (marshalled big at (Array item ts))) rest)
unfolding enter
array_enters d limit big ih item ts whole fits fs types rest at gs left deep lt go =
    let here = at + gap 4 at in
    let g = gap (item_align item) (here + 4) in
    let inside = all_marshalled big (here + 4 + g) ts in
    let b = bytes_of big w32 (length inside) in
    let l0 = length-append (padding (gap 4 at)) (b ++ (padding g ++ inside)) in
    let l1 = length-append b (padding g ++ inside) in
    let l2 = length-append (padding g) inside in
    let size : at + length (padding (gap 4 at) ++ (b ++ (padding g ++ inside))) ≡ here + 4 + g + length inside = omega (arith, l0, l1, l2, length-padding (gap 4 at), length-padding g, wide32.len big (length inside)) in
    let small : length inside < 2 ^ 32 = omega (arith, l0, l1, l2) in
    let room : ltb (length fs) limit ≡ true = lt-ltb _ _ (omega arith) in
    let r1 : (padding (gap 4 at) ++ (b ++ (padding g ++ inside))) ++ rest ≡ padding (gap 4 at) ++ ((b ++ (padding g ++ inside)) ++ rest) = append_assoc (padding (gap 4 at)) (b ++ (padding g ++ inside)) rest in
    let r2 : (b ++ (padding g ++ inside)) ++ rest ≡ b ++ (padding g ++ (inside ++ rest)) = append_assoc b (padding g ++ inside) rest ∙ ap (λ (x : List ℕ). b ++ x) (append_assoc (padding g) inside rest) in
    let on : resume fs types (here + 4 + g + length inside) ≡ Ok (gs, left) = subst (λ (q : ℕ). resume fs types q ≡ Ok (gs, left)) size go in
    let walk = items_walk d limit big ih item ts fits fs types (here + 4 + g + length inside) rest (here + 4 + g) gs left (omega arith) small on in
    let begin = array_begin item types inside rest big fs here whole small in
    (state (open_part.Items item types (here + 4 + g + length inside) rest ∷ fs) [] (here + 4 + g) inside, rw (r1, r2, zeros_again (gap 4 at) at (b ++ (padding g ++ (inside ++ rest))), room) begin, rw size walk)

-- ---- variants

variant_begin : (t : Tree) (types inside : List ℕ) (fs : List Open) (at : ℕ) → is_signature (type_of t) ≡ true → after_type (type_of t) ≡ Some []
    → enter_variant fs types at (length (type_of t) ∷ (type_of t ++ (0 ∷ inside))) ≡ Ok (part.Variant (type_of t), state (open_part.Inner types ∷ fs) (type_of t) (at + 1 + length (type_of t) + 1) inside)
unfolding enter_variant
variant_begin t types inside fs at is alone = rw (sig_again (type_of t) inside at is, alone) refl

variant_enters : (d limit : ℕ) (big : Bool) (ih : Enters d limit big) (t : Tree) → is_signature (type_of t) ≡ true → after_type (type_of t) ≡ Some [] → FitsAs false d t → (fs : List Open) (types rest : List ℕ) (at : ℕ) (gs : List Open) (left : List ℕ) → length fs + suc d ≤ limit → length (marshalled big at (Variant t)) < 2 ^ 32
    → resume fs types (at + length (marshalled big at (Variant t))) ≡ Ok (gs, left)
    → Begins limit big (enter limit big fs (118 ∷ types) at (marshalled big at (Variant t) ++ rest)) (pieces (Variant t)) (state gs left (at + length (marshalled big at (Variant t))) rest)
unfolding enter zeros resume
variant_enters d limit big ih t is alone fits fs types rest at gs left deep lt go =
    let sig = type_of t in
    let here = at + length sig + 2 in
    let inside = marshalled big here t in
    let l0 = length-append sig (0 ∷ inside) in
    let room : ltb (length fs) limit ≡ true = lt-ltb _ _ (omega arith) in
    let no_gap : gap 1 at ≡ 0 = omega arith in
    let r1 : (length sig ∷ (sig ++ (0 ∷ inside))) ++ rest ≡ length sig ∷ (sig ++ (0 ∷ (inside ++ rest))) = ap (λ (x : List ℕ). length sig ∷ x) (append_assoc sig (0 ∷ inside) rest) in
    let place : at + 1 + length sig + 1 ≡ here = omega arith in
    let size : at + length (length sig ∷ (sig ++ (0 ∷ inside))) ≡ here + length inside = omega (arith, l0) in
    let on : resume fs types (here + length inside) ≡ Ok (gs, left) = subst (λ (q : ℕ). resume fs types q ≡ Ok (gs, left)) size go in
    let one = ih t fits (open_part.Inner types ∷ fs) [] rest here gs left (omega arith) (omega (arith, l0)) on in
    let same : sig ++ [] ≡ sig = append-nil sig in
    let one' : Begins limit big (enter limit big (open_part.Inner types ∷ fs) sig here (inside ++ rest)) (pieces t) (state gs left (here + length inside) rest) = subst (λ (s : List ℕ). Begins limit big (enter limit big (open_part.Inner types ∷ fs) s here (inside ++ rest)) (pieces t) (state gs left (here + length inside) rest)) same one in
    let walk : Walks limit big (state (open_part.Inner types ∷ fs) sig here (inside ++ rest)) (pieces t) (state gs left (here + length inside) rest) = begins_walks limit big _ _ _ (pieces t) refl one' in
    let begin : enter_variant fs types at (length sig ∷ (sig ++ (0 ∷ (inside ++ rest)))) ≡ Ok (part.Variant sig, state (open_part.Inner types ∷ fs) sig here (inside ++ rest)) = subst (λ (q : ℕ). enter_variant fs types at (length sig ∷ (sig ++ (0 ∷ (inside ++ rest)))) ≡ Ok (part.Variant sig, state (open_part.Inner types ∷ fs) sig q (inside ++ rest))) place (variant_begin t types (inside ++ rest) fs at is alone) in
    (state (open_part.Inner types ∷ fs) sig here (inside ++ rest), rw (no_gap, r1, room) begin, rw size walk)

-- ---- dict entries

entry_begin : (limit : ℕ) (fs : List Open) (sig : List ℕ) (at : ℕ) (bytes : List ℕ) → length fs < limit → enter_entry limit fs sig at (padding (gap 8 at) ++ bytes) ≡ Ok (part.Enter 123, state (open_part.Key ∷ fs) sig (at + gap 8 at) bytes)
unfolding enter_entry
entry_begin limit fs sig at bytes lt = let room : ltb (length fs) limit ≡ true = lt-ltb _ _ lt in rw (zeros_again (gap 8 at) at bytes, room) refl

closing_step : (fs : List Open) (at : ℕ) (rest : List ℕ) → ((p : ℕ) → resume fs [] p ≡ Ok (fs, [])) → in_closing fs (125 ∷ []) at rest ≡ Ok (part.Leave 123, state fs [] at rest)
unfolding in_closing
closing_step fs at rest still = resumes (part.Leave 123) fs fs [] [] at rest (still at)

entry_enters : (d limit : ℕ) (big : Bool) (ih : Enters d limit big) (k v : Tree) → IsBasic k → FitsAs false d k → FitsAs false d v → (fs : List Open) (rest : List ℕ) (at : ℕ) → length fs + suc d ≤ limit → length (marshalled big at (Entry k v)) < 2 ^ 32 → ((p : ℕ) → resume fs [] p ≡ Ok (fs, []))
    → Begins limit big (enter_item limit big fs (type_of (Entry k v)) at (marshalled big at (Entry k v) ++ rest)) (pieces (Entry k v)) (state fs [] (at + length (marshalled big at (Entry k v))) rest)
unfolding resume
entry_enters d limit big ih k v basic fits_k fits_v fs rest at deep lt still =
    let here = at + gap 8 at in
    let m = marshalled big here k in
    let next = here + length m in
    let after = marshalled big next v in
    let end = next + length after in
    let X = type_of v ++ 125 ∷ [] in
    let l0 = length-append (padding (gap 8 at)) (m ++ after) in
    let l1 = length-append m after in
    let size : at + length (padding (gap 8 at) ++ (m ++ after)) ≡ end = omega (arith, l0, l1, length-padding (gap 8 at)) in
    let r1 : (padding (gap 8 at) ++ (m ++ after)) ++ rest ≡ padding (gap 8 at) ++ (m ++ (after ++ rest)) = append_assoc (padding (gap 8 at)) (m ++ after) rest ∙ ap (λ (x : List ℕ). padding (gap 8 at) ++ x) (append_assoc m after rest) in
    let one = ih k fits_k (open_part.Value ∷ fs) X (after ++ rest) here (open_part.Value ∷ fs) X (omega arith) (omega (arith, l0, l1)) refl in
    let key : Walks limit big (state (open_part.Key ∷ fs) (type_of k ++ X) here (m ++ (after ++ rest))) (pieces k) (state (open_part.Value ∷ fs) X next (after ++ rest)) = begins_walks limit big _ _ _ (pieces k) (key_more d limit big fs k X here (m ++ (after ++ rest)) basic fits_k) one in
    let two = ih v fits_v (open_part.Closing ∷ fs) (125 ∷ []) rest next (open_part.Closing ∷ fs) (125 ∷ []) (omega arith) (omega (arith, l0, l1)) refl in
    let value : Walks limit big (state (open_part.Value ∷ fs) X next (after ++ rest)) (pieces v) (state (open_part.Closing ∷ fs) (125 ∷ []) end rest) = begins_walks limit big _ _ _ (pieces v) refl two in
    let close : Walks limit big (state (open_part.Closing ∷ fs) (125 ∷ []) end rest) (part.Leave 123 ∷ []) (state fs [] end rest) = (state fs [] end rest, closing_step fs end rest still, refl) in
    let walk = walks_on limit big _ _ _ (pieces k) (pieces v ++ part.Leave 123 ∷ []) key (walks_on limit big _ _ _ (pieces v) (part.Leave 123 ∷ []) value close) in
    (state (open_part.Key ∷ fs) (type_of k ++ X) here (m ++ (after ++ rest)), rw r1 (entry_begin limit fs (type_of k ++ X) at (m ++ (after ++ rest)) (omega arith)), rw size walk)

-- ---- all values

item_letter : (limit : ℕ) (big : Bool) (fs : List Open) (c : ℕ) (at : ℕ) (bytes : List ℕ) → eqb c 123 ≡ false → enter_item limit big fs (c ∷ []) at bytes ≡ enter limit big fs (c ∷ []) at bytes
item_letter limit big fs c at bytes e = rw e refl

-- an item that is no dict entry is a value
value_item : (limit : ℕ) (big : Bool) (t : Tree) (fs : List Open) (at : ℕ) (rest : List ℕ) → enter_item limit big fs (type_of t) at (marshalled big at t ++ rest) ≡ enter limit big fs (type_of t) at (marshalled big at t ++ rest)
    → Begins limit big (enter limit big fs (type_of t ++ []) at (marshalled big at t ++ rest)) (pieces t) (state fs [] (at + length (marshalled big at t)) rest)
    → Begins limit big (enter_item limit big fs (type_of t) at (marshalled big at t ++ rest)) (pieces t) (state fs [] (at + length (marshalled big at t)) rest)
value_item limit big t fs at rest same begins =
    let one : Begins limit big (enter limit big fs (type_of t) at (marshalled big at t ++ rest)) (pieces t) (state fs [] (at + length (marshalled big at t)) rest) = subst (λ (s : List ℕ). Begins limit big (enter limit big fs s at (marshalled big at t ++ rest)) (pieces t) (state fs [] (at + length (marshalled big at t)) rest)) (append-nil (type_of t)) begins in
    subst (λ (r : Result (Piece × State) Fault). Begins limit big r (pieces t) (state fs [] (at + length (marshalled big at t)) rest)) (sym same) one

pub both_enter : (d limit : ℕ) (big : Bool) → Enters d limit big × EntersItem d limit big
unfolding FitsAs
both_enter zero limit big = (value, item) where
  value : Enters zero limit big
  value (Number c n) fits fs types rest at gs left deep lt go = number_enters zero limit big c n fits fs types rest at gs left go
  value (Text c t) fits fs types rest at gs left deep lt go = text_enters zero limit big c t fits fs types rest at gs left lt go
  value (Array sig ts) fits fs types rest at gs left deep lt go = absurd fits
  value (Struct ts) fits fs types rest at gs left deep lt go = absurd fits
  value (Entry k v) fits fs types rest at gs left deep lt go = absurd fits
  value (Variant t) fits fs types rest at gs left deep lt go = absurd fits

  item : EntersItem zero limit big
  item (Number c n) fits fs rest at deep lt still = value_item limit big (Number c n) fs at rest (item_letter limit big fs c at _ (other_letter c 123 (λ k. IsNumber k n) fits (λ h. h))) (number_enters zero limit big c n fits fs [] rest at fs [] (still _))
  item (Text c t) fits fs rest at deep lt still = value_item limit big (Text c t) fs at rest (item_letter limit big fs c at _ (other_letter c 123 (λ k. IsString k t) fits (λ h. h))) (text_enters zero limit big c t fits fs [] rest at fs [] lt (still _))
  item (Array sig ts) fits fs rest at deep lt still = absurd fits
  item (Struct ts) fits fs rest at deep lt still = absurd fits
  item (Entry k v) fits fs rest at deep lt still = absurd fits
  item (Variant t) fits fs rest at deep lt still = absurd fits
both_enter (suc d) limit big = (value (both_enter d limit big), item (both_enter d limit big)) where
  value : Enters d limit big × EntersItem d limit big → Enters (suc d) limit big
  value ih (Number c n) fits fs types rest at gs left deep lt go = number_enters d limit big c n fits fs types rest at gs left go
  value ih (Text c t) fits fs types rest at gs left deep lt go = text_enters d limit big c t fits fs types rest at gs left lt go
  value ih (Array sig ts) fits fs types rest at gs left deep lt go = array_enters d limit big ih.1 sig ts fits.0 fits.1 fs types rest at gs left deep lt go
  value ih (Struct ts) fits fs types rest at gs left deep lt go = struct_enters d limit big ih.0 ts fits.0 fits.1 fs types rest at gs left deep lt go
  value ih (Entry k v) fits fs types rest at gs left deep lt go = absurd fits
  value ih (Variant t) fits fs types rest at gs left deep lt go = variant_enters d limit big ih.0 t fits.0 fits.1 fits.2 fs types rest at gs left deep lt go

  item : Enters d limit big × EntersItem d limit big → EntersItem (suc d) limit big
  item ih (Number c n) fits fs rest at deep lt still = value_item limit big (Number c n) fs at rest (item_letter limit big fs c at _ (other_letter c 123 (λ k. IsNumber k n) fits (λ h. h))) (number_enters d limit big c n fits fs [] rest at fs [] (still _))
  item ih (Text c t) fits fs rest at deep lt still = value_item limit big (Text c t) fs at rest (item_letter limit big fs c at _ (other_letter c 123 (λ k. IsString k t) fits (λ h. h))) (text_enters d limit big c t fits fs [] rest at fs [] lt (still _))
  item ih (Array sig ts) fits fs rest at deep lt still = value_item limit big (Array sig ts) fs at rest refl (array_enters d limit big ih.1 sig ts fits.0 fits.1 fs [] rest at fs [] deep lt (still _))
  item ih (Struct ts) fits fs rest at deep lt still = value_item limit big (Struct ts) fs at rest refl (struct_enters d limit big ih.0 ts fits.0 fits.1 fs [] rest at fs [] deep lt (still _))
  item ih (Entry k v) fits fs rest at deep lt still = entry_enters d limit big ih.0 k v fits.0 fits.1 fits.2 fs rest at deep lt still
  item ih (Variant t) fits fs rest at deep lt still = value_item limit big (Variant t) fs at rest refl (variant_enters d limit big ih.0 t fits.0 fits.1 fits.2 fs [] rest at fs [] deep lt (still _))

-- a row of values at the top is walked with its parts
pub values_walk : (d limit : ℕ) (big : Bool) (ts : Trees) → Each (FitsAs false d) ts → d ≤ limit → (types rest : List ℕ) (at : ℕ) → length (all_marshalled big at ts) < 2 ^ 32
    → Walks limit big (state [] (types_of ts ++ types) at (all_marshalled big at ts ++ rest)) (all_pieces ts) (state [] types (at + length (all_marshalled big at ts)) rest)
unfolding resume
values_walk d limit big none fits deep types rest at lt = let k : at ≡ at + 0 = omega arith in ap (λ (q : ℕ). state [] types q rest) k
values_walk d limit big (more t ts) fits deep types rest at lt =
    let m = marshalled big at t in
    let next = at + length m in
    let after = all_marshalled big next ts in
    let X = types_of ts ++ types in
    let all : length (m ++ after) ≡ length m + length after = length-append m after in
    let size : at + length (m ++ after) ≡ next + length after = omega (arith, all) in
    let r1 : (type_of t ++ types_of ts) ++ types ≡ type_of t ++ X = append_assoc (type_of t) (types_of ts) types in
    let r2 : (m ++ after) ++ rest ≡ m ++ (after ++ rest) = append_assoc m after rest in
    let law = both_enter d limit big in
    let one = law.0 t fits.0 [] X (after ++ rest) at [] X (omega arith) (omega (arith, all)) refl in
    let first : Walks limit big (state [] (type_of t ++ X) at (m ++ (after ++ rest))) (pieces t) (state [] X next (after ++ rest)) = begins_walks limit big _ _ _ (pieces t) refl one in
    let others = values_walk d limit big ts fits.1 deep types rest next (omega (arith, all)) in
    let joined = walks_on limit big _ _ _ (pieces t) (all_pieces ts) first others in
    rw (r1, r2, size) joined
