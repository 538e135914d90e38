-- What a body with the signature of a reply is made of ("Type Signatures").
use Rattle.std.proofs.Common.{◌≡◌, ℕ, zero, suc, ◌<◌, ◌≤◌, List, [], ◌∷◌, ◌++◌, map, length, Bool, true, false, Option, Some, None, refl, ap, sym, subst, ◌∙◌, arith, append_assoc, length-append}
use Rattle.std.proofs.lemmas.List.{append_cancel_right}
use Rattle.std.specs.Prelude.{codes}
use Rattle.pk_types.specs.declared.values.Pair.{Pair}
use Rattle.dbus_values.specs.Basics.{is_text}
use Rattle.dbus_values.specs.Signatures.{type_end, members_end, after_item}
use Rattle.dbus_values.specs.Trees.{Tree, Trees, none, more, type_of, types_of, IsNumber, IsString, Each, FitsAs, AllFit}
use Rattle.dbus_values.specs.Trees as trees
use Rattle.dbus_values.specs.Types.{class_of}
use Rattle.authority_model.specs.Words.{Bytes}
use Rattle.authority_messages.specs.Values.{row, struct, string, boolean, pair, pairs}

-- the texts of pairs are texts of a message
abbrev pub TextsFit : List Pair → Type 0
TextsFit [] = Unit {0}
TextsFit (p ∷ ps) = (is_text p.key ≡ true) × (is_text p.value ≡ true) × TextsFit ps

-- the first letter, and those behind it
abbrev first : Bytes → ℕ
first [] = 0
first (c ∷ s) = c

abbrev later : Bytes → Bytes
later [] = []
later (c ∷ s) = s

abbrev there : Option Bytes → Bytes
there None = []
there (Some s) = s

-- ---- values by their first letter

bool_by : (c n : ℕ) → c ≡ 98 → n < 2 → (b : Bool) × (trees.Number c n ≡ boolean b)
bool_by c zero same lt = (false, ap (λ (x : ℕ). trees.Number x 0) same)
bool_by c (suc zero) same lt = (true, ap (λ (x : ℕ). trees.Number x 1) same)
bool_by c (suc (suc n)) same lt = absurd (omega arith)

bool_is : (d : ℕ) (t : Tree) (rest sig : Bytes) → FitsAs false d t → type_of t ++ rest ≡ 98 ∷ sig → (b : Bool) × (t ≡ boolean b) × (rest ≡ sig)
unfolding FitsAs
bool_is d (trees.Number c n) rest sig fit e =
    let same : c ≡ 98 = ap first e in
    let b = bool_by c n same (subst (λ (x : ℕ). IsNumber (class_of x) n) same fit) in
    (b.0, b.1, ap later e)
bool_is d (trees.Text c s) rest sig fit e = let same : c ≡ 98 = ap first e in absurd (subst (λ (x : ℕ). IsString (class_of x) s) same fit)
bool_is d (trees.Array item ts) rest sig fit e = let h : 97 ≡ 98 = ap first e in absurd (omega (arith, h))
bool_is d (trees.Struct ts) rest sig fit e = let h : 40 ≡ 98 = ap first e in absurd (omega (arith, h))
bool_is zero (trees.Entry k v) rest sig fit e = absurd fit
bool_is (suc d) (trees.Entry k v) rest sig fit e = absurd fit
bool_is d (trees.Variant t) rest sig fit e = let h : 118 ≡ 98 = ap first e in absurd (omega (arith, h))

string_is : (d : ℕ) (t : Tree) (rest sig : Bytes) → FitsAs false d t → type_of t ++ rest ≡ 115 ∷ sig → (s : Bytes) × (t ≡ string s) × (is_text s ≡ true) × (rest ≡ sig)
unfolding FitsAs
string_is d (trees.Number c n) rest sig fit e = let same : c ≡ 115 = ap first e in absurd (subst (λ (x : ℕ). IsNumber (class_of x) n) same fit)
string_is d (trees.Text c s) rest sig fit e =
    let same : c ≡ 115 = ap first e in
    (s, ap (λ (x : ℕ). trees.Text x s) same, subst (λ (x : ℕ). IsString (class_of x) s) same fit, ap later e)
string_is d (trees.Array item ts) rest sig fit e = let h : 97 ≡ 115 = ap first e in absurd (omega (arith, h))
string_is d (trees.Struct ts) rest sig fit e = let h : 40 ≡ 115 = ap first e in absurd (omega (arith, h))
string_is zero (trees.Entry k v) rest sig fit e = absurd fit
string_is (suc d) (trees.Entry k v) rest sig fit e = absurd fit
string_is d (trees.Variant t) rest sig fit e = let h : 118 ≡ 115 = ap first e in absurd (omega (arith, h))

struct_is : (d : ℕ) (t : Tree) (rest sig : Bytes) → FitsAs false d t → type_of t ++ rest ≡ 40 ∷ sig → (n : ℕ) × (ts : Trees) × (t ≡ trees.Struct ts) × (types_of ts ++ 41 ∷ rest ≡ sig) × AllFit n ts
unfolding FitsAs
struct_is d (trees.Number c n) rest sig fit e = let same : c ≡ 40 = ap first e in absurd (subst (λ (x : ℕ). IsNumber (class_of x) n) same fit)
struct_is d (trees.Text c s) rest sig fit e = let same : c ≡ 40 = ap first e in absurd (subst (λ (x : ℕ). IsString (class_of x) s) same fit)
struct_is d (trees.Array item ts) rest sig fit e = let h : 97 ≡ 40 = ap first e in absurd (omega (arith, h))
struct_is zero (trees.Struct ts) rest sig fit e = absurd fit
struct_is (suc d) (trees.Struct ts) rest sig fit e =
    let inner : (types_of ts ++ 41 ∷ []) ++ rest ≡ sig = ap later e in
    (d, ts, refl, sym (append_assoc (types_of ts) (41 ∷ []) rest) ∙ inner, fit.1)
struct_is zero (trees.Entry k v) rest sig fit e = absurd fit
struct_is (suc d) (trees.Entry k v) rest sig fit e = absurd fit
struct_is d (trees.Variant t) rest sig fit e = let h : 118 ≡ 40 = ap first e in absurd (omega (arith, h))

-- ---- a dictionary of texts

entry_is : (d : ℕ) (t : Tree) → FitsAs true d t → type_of t ≡ codes "{ss}" → (p : Pair) × (t ≡ pair p) × (is_text p.key ≡ true) × (is_text p.value ≡ true)
unfolding FitsAs
entry_is d (trees.Number c n) fit e = let h : 1 ≡ 4 = ap length e in absurd (omega (arith, h))
entry_is d (trees.Text c s) fit e = let h : 1 ≡ 4 = ap length e in absurd (omega (arith, h))
entry_is d (trees.Array item ts) fit e = let h : 97 ≡ 123 = ap first e in absurd (omega (arith, h))
entry_is d (trees.Struct ts) fit e = let h : 40 ≡ 123 = ap first e in absurd (omega (arith, h))
entry_is zero (trees.Entry k v) fit e = absurd fit
entry_is (suc d) (trees.Entry k v) fit e =
    let inner : type_of k ++ (type_of v ++ 125 ∷ []) ≡ 115 ∷ 115 ∷ 125 ∷ [] = ap later e in
    let key = string_is d k (type_of v ++ 125 ∷ []) (115 ∷ 125 ∷ []) fit.1 inner in
    let value = string_is d v (125 ∷ []) (125 ∷ []) fit.2 key.3 in
    (record { key = key.0; value = value.0 }, ap (λ (x : Tree). trees.Entry x v) key.1 ∙ ap (λ (x : Tree). trees.Entry (string key.0) x) value.1, key.2, value.2)
entry_is d (trees.Variant t) fit e = let h : 118 ≡ 123 = ap first e in absurd (omega (arith, h))

entries_are : (d : ℕ) (ts : Trees) (item : Bytes) → item ≡ codes "{ss}" → Each (λ t. (type_of t ≡ item) × FitsAs true d t) ts → (ps : List Pair) × (ts ≡ row (map pair ps)) × TextsFit ps
entries_are d none item is each = ([], refl, tt)
entries_are d (more t ts) item is each =
    let first = entry_is d t each.0.1 (each.0.0 ∙ is) in
    let others = entries_are d ts item is each.1 in
    (first.0 ∷ others.0, ap (λ (x : Tree). more x ts) first.1 ∙ ap (λ (x : Trees). more (pair first.0) x) others.1, (first.2, first.3, others.2))

dictionary_is : (d : ℕ) (t : Tree) (rest : Bytes) → FitsAs false d t → type_of t ++ rest ≡ codes "a{ss})" → (ps : List Pair) × (t ≡ pairs ps) × TextsFit ps × (rest ≡ codes ")")
unfolding FitsAs type_end members_end
dictionary_is d (trees.Number c n) rest fit e = let same : c ≡ 97 = ap first e in absurd (subst (λ (x : ℕ). IsNumber (class_of x) n) same fit)
dictionary_is d (trees.Text c s) rest fit e = let same : c ≡ 97 = ap first e in absurd (subst (λ (x : ℕ). IsString (class_of x) s) same fit)
dictionary_is zero (trees.Array item ts) rest fit e = absurd fit
dictionary_is (suc d) (trees.Array item ts) rest fit e =
    let inner : item ++ rest ≡ codes "{ss})" = ap later e in
    let behind : Some rest ≡ Some (codes ")") = sym (fit.0 rest) ∙ ap after_item inner in
    let rest_is : rest ≡ codes ")" = ap there behind in
    let item_is : item ≡ codes "{ss}" = append_cancel_right item (codes "{ss}") rest (inner ∙ ap (λ (x : Bytes). codes "{ss}" ++ x) (sym rest_is)) in
    let entries = entries_are d ts item item_is fit.1 in
    (entries.0, ap (λ (x : Bytes). trees.Array x ts) item_is ∙ ap (λ (x : Trees). trees.Array (codes "{ss}") x) entries.1, entries.2, rest_is)
dictionary_is d (trees.Struct ts) rest fit e = let h : 40 ≡ 97 = ap first e in absurd (omega (arith, h))
dictionary_is zero (trees.Entry k v) rest fit e = absurd fit
dictionary_is (suc d) (trees.Entry k v) rest fit e = absurd fit
dictionary_is d (trees.Variant t) rest fit e = let h : 118 ≡ 97 = ap first e in absurd (omega (arith, h))

-- ---- whole bodies

one_letter : (t : Tree) → 1 ≤ length (type_of t)
one_letter (trees.Number c n) = omega arith
one_letter (trees.Text c s) = omega arith
one_letter (trees.Array item ts) = omega arith
one_letter (trees.Struct ts) = omega arith
one_letter (trees.Entry k v) = omega arith
one_letter (trees.Variant t) = omega arith

pub nothing_left : (ts : Trees) → length (types_of ts) ≡ 0 → ts ≡ none
nothing_left none e = refl
nothing_left (more t ts) e = absurd (omega (arith, length-append (type_of t) (types_of ts), one_letter t))

no_letters : (s : Bytes) → length s ≡ 0 → s ≡ []
no_letters [] e = refl
no_letters (c ∷ s) e = absurd (omega arith)

bool_first : (d : ℕ) (ms : Trees) (rest sig : Bytes) → AllFit d ms → types_of ms ++ 41 ∷ rest ≡ 98 ∷ sig → (b : Bool) × (others : Trees) × (ms ≡ more (boolean b) others) × AllFit d others × (types_of others ++ 41 ∷ rest ≡ sig)
bool_first d none rest sig fit e = let h : 41 ≡ 98 = ap first e in absurd (omega (arith, h))
bool_first d (more t ms) rest sig fit e =
    let b = bool_is d t (types_of ms ++ 41 ∷ rest) sig fit.0 (sym (append_assoc (type_of t) (types_of ms) (41 ∷ rest)) ∙ e) in
    (b.0, ms, ap (λ (x : Tree). more x ms) b.1, fit.1, b.2)

dictionary_last : (d : ℕ) (ms : Trees) (rest : Bytes) → AllFit d ms → types_of ms ++ 41 ∷ rest ≡ codes "a{ss})" → (ps : List Pair) × (ms ≡ more (pairs ps) none) × TextsFit ps × (rest ≡ [])
dictionary_last d none rest fit e = let h : 41 ≡ 97 = ap first e in absurd (omega (arith, h))
dictionary_last d (more t ms) rest fit e =
    let found = dictionary_is d t (types_of ms ++ 41 ∷ rest) fit.0 (sym (append_assoc (type_of t) (types_of ms) (41 ∷ rest)) ∙ e) in
    let size : length (types_of ms ++ 41 ∷ rest) ≡ 1 = ap length found.3 in
    let types : length (types_of ms) ≡ 0 = omega (arith, length-append (types_of ms) (41 ∷ rest)) in
    let behind : length rest ≡ 0 = omega (arith, length-append (types_of ms) (41 ∷ rest)) in
    (found.0, ap (λ (x : Tree). more x ms) found.1 ∙ ap (λ (x : Trees). more (pairs found.0) x) (nothing_left ms types), found.2, no_letters rest behind)

three_are : (ms second third : Trees) (a b c : Tree) → ms ≡ more a second → second ≡ more b third → third ≡ more c none → ms ≡ row (a ∷ b ∷ c ∷ [])
three_are ms second third a b c one two three = one ∙ ap (λ (x : Trees). more a x) (two ∙ ap (λ (x : Trees). more b x) three)

struct_alone : (t : Tree) (ts ms : Trees) (values : List Tree) → t ≡ trees.Struct ms → ms ≡ row values → ts ≡ none → more t ts ≡ row (struct values ∷ [])
struct_alone t ts ms values is members last = ap (λ (x : Tree). more x ts) (is ∙ ap (λ (x : Trees). trees.Struct x) members) ∙ ap (λ (x : Trees). more (struct values) x) last

-- the body of a verdict
pub verdict_body : (body : Trees) → Each (FitsAs false 64) body → types_of body ≡ codes "(bba{ss})" → (a : Bool) × (b : Bool) × (ps : List Pair) × (body ≡ row (struct (boolean a ∷ boolean b ∷ pairs ps ∷ []) ∷ [])) × TextsFit ps
verdict_body none fit e = let h : 0 ≡ 9 = ap length e in absurd (omega (arith, h))
verdict_body (more t ts) fit e =
    let whole = struct_is 64 t (types_of ts) (codes "bba{ss})") fit.0 e in
    let first = bool_first whole.0 whole.1 (types_of ts) (codes "ba{ss})") whole.4 whole.3 in
    let second = bool_first whole.0 first.1 (types_of ts) (codes "a{ss})") first.3 first.4 in
    let last = dictionary_last whole.0 second.1 (types_of ts) second.3 second.4 in
    let members : whole.1 ≡ row (boolean first.0 ∷ boolean second.0 ∷ pairs last.0 ∷ []) = three_are whole.1 first.1 second.1 (boolean first.0) (boolean second.0) (pairs last.0) first.2 second.2 last.1 in
    (first.0, second.0, last.0, struct_alone t ts whole.1 (boolean first.0 ∷ boolean second.0 ∷ pairs last.0 ∷ []) whole.2 members (nothing_left ts (ap length last.3)), last.2)

-- the body of a name
pub name_body : (body : Trees) → Each (FitsAs false 64) body → types_of body ≡ codes "s" → (s : Bytes) × (body ≡ row (string s ∷ [])) × (is_text s ≡ true)
name_body none fit e = let h : 0 ≡ 1 = ap length e in absurd (omega (arith, h))
name_body (more t ts) fit e =
    let told = string_is 64 t (types_of ts) [] fit.0 e in
    (told.0, ap (λ (x : Tree). more x ts) told.1 ∙ ap (λ (x : Trees). more (string told.0) x) (nothing_left ts (ap length told.3)), told.2)
