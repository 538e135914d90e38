-- An answer is Other for no other messages.
use Rattle.std.proofs.Common.{◌≡◌, ◌≢◌, ℕ, zero, suc, ◌+◌, ◌<◌, ◌≤◌, List, [], ◌∷◌, ◌++◌, length, Bool, true, false, not, nat_lt, ◌==◌, ◌||◌, ◌&&◌, Option, Some, None, refl, ap, sym, subst, ◌∙◌, arith, length-append}
use Rattle.std.proofs.lemmas.Bool.Decides.{nat_tests}
use Rattle.std.proofs.lemmas.Slice.Eq.{bytes_eq-Decides}
use Rattle.std.proofs.lemmas.Str.{IsUtf8-from_is_utf8}
use Rattle.std.specs.Prelude.{if◌then◌else◌, is_none, codes}
use Rattle.std.specs.Int.{w32}
use Rattle.std.specs.List.{list_any}
use Rattle.std.specs.Str.{bytes_eq, is_utf8}
use Rattle.pk_types.specs.Text.{IsText, NoZero, text_bad, bad_byte_fault}
use Rattle.pk_types.specs.declared.text.TextFault.TheVariants as fault
use Rattle.pk_types.specs.declared.values.Pair.{Pair}
use Rattle.dbus_values.specs.Basics.{gap, is_text}
use Rattle.dbus_values.specs.Parts.{Piece}
use Rattle.dbus_values.specs.Parts as part
use Rattle.dbus_values.specs.Trees.{Trees, none, types_of, all_pieces, bytes_of, padding, all_marshalled}
use Rattle.dbus_values.specs.Form.{Message, IsMessage, fields_bytes, shown_of}
use Rattle.authority_model.specs.Words.{Bytes}
use Rattle.authority_calls.specs.Arguments.{go_on, given, chosen, text_of, many}
use Rattle.authority_calls.specs.Dictionaries.{next_pair}
use Rattle.authority_calls.specs.Events.{error_name}
use Rattle.authority_messages.specs.Values.{row, struct, boolean, pairs as pairs_tree}
use Rattle.pk_types.proofs.Texts.{text_of as text_from}
use Rattle.client_messages.specs.declared.answer.ClientAnswer.TheVariants as answer
use Rattle.client_messages.specs.Answers.{verdict, name, read_as, returned, is_serial, answer_of}
use Rattle.client_messages.specs.Others.{is_answer, is_long, tells_nothing, is_other}
use Rattle.client_messages.specs.Told.{PairsInRange}
use Rattle.client_messages.proofs.Reading.{text_ok, inside}
use Rattle.client_messages.proofs.Understood.{dictionary_size, first_size, later_size}
use Rattle.client_messages.proofs.Telling.{judged, behind_pairs, behind_is, whole, verdict_read, struct_size}
use Rattle.client_messages.proofs.Bodies.{TextsFit, nothing_left, verdict_body, name_body}

-- ---- texts of a message, which are texts unless they are long

neither : (a b : Bool) → (a || b) ≡ false → (a ≡ false) × (b ≡ false)
neither false b e = (refl, e)
neither true b e = absurd (cc)

both : (a b : Bool) → (a && b) ≡ true → (a ≡ true) × (b ≡ true)
both true b e = (refl, e)
both false b e = absurd (cc)

third : (a b c : Bool) → (a || (b || c)) ≡ true → a ≡ false → b ≡ false → c ≡ true
third false false c e first second = e
third true b c e first second = absurd (cc)
third false true c e first second = absurd (cc)

not_true : (a : Bool) → not a ≡ true → a ≡ false
not_true false e = refl
not_true true e = absurd (cc)

other_byte : (b : ℕ) → (b == 0) ≡ false → b ≢ 0
other_byte b e = λ z. absurd (grind (arith, nat_tests))

no_zero : (t : Bytes) → list_any (λ b. b == 0) t ≡ false → NoZero t
no_zero [] e = tt
no_zero (b ∷ t) e = let x = neither (b == 0) (list_any (λ b. b == 0) t) e in (other_byte b x.0, no_zero t x.1)

few_bytes : (n : ℕ) → nat_lt 65535 n ≡ false → n ≤ 65535
few_bytes n e = grind (arith, nat_tests)

short_text : (t : Bytes) → is_text t ≡ true → nat_lt 65535 (length t) ≡ false → IsText t
short_text t is few =
    let x = both (not (list_any (λ b. b == 0) t)) (is_utf8 t) is in
    text_from t (IsUtf8-from_is_utf8 t x.1) (no_zero t (not_true (list_any (λ b. b == 0) t) x.0)) (few_bytes (length t) few)

short_read : (t : Bytes) → is_text t ≡ true → nat_lt 65535 (length t) ≡ false → text_of t ≡ Some t
short_read t is few = text_ok t (short_text t is few)

long_read : (t : Bytes) → nat_lt 65535 (length t) ≡ true → text_of t ≡ None
long_read t long = ap (λ (b : Bool). if is_none (if b then Some (fault.TooLong (length t)) else bad_byte_fault (text_bad t)) then Some t else None) long

-- ---- pairs

abbrev pair_parts : Pair → List Piece → List Piece
pair_parts p parts = part.Enter 123 ∷ part.Text 115 p.key ∷ part.Text 115 p.value ∷ part.Leave 123 ∷ parts

key_long : (n : ℕ) (p : Pair) (parts : List Piece) → text_of p.key ≡ None → many (suc n) next_pair (pair_parts p parts) ≡ None
unfolding many
key_long n p parts key = rw key refl

value_long : (n : ℕ) (p : Pair) (parts : List Piece) → text_of p.key ≡ Some p.key → text_of p.value ≡ None → many (suc n) next_pair (pair_parts p parts) ≡ None
unfolding many
value_long n p parts key value = rw (key, value) refl

others_long : (n : ℕ) (p : Pair) (parts : List Piece) → text_of p.key ≡ Some p.key → text_of p.value ≡ Some p.value → many n next_pair parts ≡ None → many (suc n) next_pair (pair_parts p parts) ≡ None
unfolding many
others_long n p parts key value others = rw (key, value, others) refl

none_of_none : (parts : List Piece) → many zero next_pair parts ≡ None
unfolding many
none_of_none parts = refl

many_long : (n : ℕ) (ps : List Pair) (rest : List Piece) → TextsFit ps → list_any is_long (inside ps) ≡ true → many n next_pair (inside ps ++ part.Leave 97 ∷ rest) ≡ None
many_long zero ps rest fit long = none_of_none (inside ps ++ part.Leave 97 ∷ rest)
many_long (suc n) [] rest fit long = absurd (cc)
many_long (suc n) (p ∷ ps) rest fit long = by (λ l. many_long n ps rest fit.2 l) (nat_lt 65535 (length p.key)) (nat_lt 65535 (length p.value)) refl refl
  where
    by : (list_any is_long (inside ps) ≡ true → many n next_pair (inside ps ++ part.Leave 97 ∷ rest) ≡ None) → (k v : Bool) → nat_lt 65535 (length p.key) ≡ k → nat_lt 65535 (length p.value) ≡ v → many (suc n) next_pair (pair_parts p (inside ps ++ part.Leave 97 ∷ rest)) ≡ None
    by others true v key value = key_long n p (inside ps ++ part.Leave 97 ∷ rest) (long_read p.key key)
    by others false true key value = value_long n p (inside ps ++ part.Leave 97 ∷ rest) (short_read p.key fit.0 key) (long_read p.value value)
    by others false false key value =
        others_long n p (inside ps ++ part.Leave 97 ∷ rest) (short_read p.key fit.0 key) (short_read p.value fit.1 value)
        (others (third (nat_lt 65535 (length p.key)) (nat_lt 65535 (length p.value)) (list_any is_long (inside ps)) long key value))

texts_short : (ps : List Pair) → TextsFit ps → list_any is_long (inside ps) ≡ false → PairsInRange ps
texts_short [] fit few = tt
texts_short (p ∷ ps) fit few =
    let x = neither (nat_lt 65535 (length p.key)) (nat_lt 65535 (length p.value) || list_any is_long (inside ps)) few in
    let y = neither (nat_lt 65535 (length p.value)) (list_any is_long (inside ps)) x.1 in
    (short_text p.key fit.0 x.0, short_text p.value fit.1 y.0, texts_short ps fit.2 y.1)

any_ends : (xs : List Piece) → list_any is_long (xs ++ part.Leave 97 ∷ part.Leave 40 ∷ []) ≡ list_any is_long xs
any_ends [] = refl
any_ends (x ∷ xs) = ap (λ (b : Bool). is_long x || b) (any_ends xs)

-- ---- the body of a verdict, and that of a name

abbrev verdict_row : Bool → Bool → List Pair → Trees
verdict_row a b ps = row (struct (boolean a ∷ boolean b ∷ pairs_tree ps ∷ []) ∷ [])

none_read : (a b : Bool) (ps : List Pair) → TextsFit ps → list_any is_long (inside ps) ≡ true → whole a b (many 4294967296 next_pair (behind_pairs (inside ps))) ≡ None
none_read a b ps fit long =
    ap (λ (parts : List Piece). whole a b (many 4294967296 next_pair parts)) (behind_is (inside ps)) ∙ ap (whole a b) (many_long 4294967296 ps (part.Leave 40 ∷ []) fit long)

verdict_none : (a b : Bool) (ps : List Pair) → TextsFit ps → list_any is_long (inside ps) ≡ true → verdict (all_pieces (verdict_row a b ps)) ≡ None
unfolding verdict
verdict_none true true ps fit long = none_read true true ps fit long
verdict_none true false ps fit long = none_read true false ps fit long
verdict_none false true ps fit long = none_read false true ps fit long
verdict_none false false ps fit long = none_read false false ps fit long

verdict_other : (a b : Bool) (ps : List Pair) → length ps < 4294967296 → TextsFit ps → is_other (judged (verdict (all_pieces (verdict_row a b ps)))) ≡ list_any is_long (all_pieces (verdict_row a b ps))
verdict_other a b ps few fit = by (list_any is_long (inside ps)) refl ∙ sym all
  where
    all : list_any is_long (all_pieces (verdict_row a b ps)) ≡ list_any is_long (inside ps)
    all = ap (list_any is_long) (behind_is (inside ps)) ∙ any_ends (inside ps)

    by : (l : Bool) → list_any is_long (inside ps) ≡ l → is_other (judged (verdict (all_pieces (verdict_row a b ps)))) ≡ list_any is_long (inside ps)
    by true e = ap (λ r. is_other (judged r)) (verdict_none a b ps fit e) ∙ sym e
    by false e = ap (λ r. is_other (judged r)) (verdict_read a b ps few (texts_short ps fit e)) ∙ sym e

name_other : (s : Bytes) → is_text s ≡ true → is_other (judged (name (part.Text 115 s ∷ []))) ≡ list_any is_long (part.Text 115 s ∷ [])
name_other s is = by (nat_lt 65535 (length s)) refl
  where
    read : Option Bytes → Bool
    read o = is_other (judged (go_on (λ (bytes : Bytes). given (answer.Name bytes)) (chosen o [])))

    by : (l : Bool) → nat_lt 65535 (length s) ≡ l → read (text_of s) ≡ (nat_lt 65535 (length s) || false)
    by true e = ap read (long_read s e) ∙ sym (ap (λ (b : Bool). b || false) e)
    by false e = ap read (short_read s is e) ∙ sym (ap (λ (b : Bool). b || false) e)

-- ---- a message has few pairs

body_size : (big : Bool) (m : Message) (n : ℕ) → ((at : ℕ) → n ≤ length (all_marshalled big at m.body)) → IsMessage big m → n < 4294967296
body_size big m n le is =
    let fields = fields_bytes big 16 m.fields in
    let place = 16 + length fields + gap 8 (16 + length fields) in
    let body = all_marshalled big place m.body in
    let gaps = padding (gap 8 (16 + length fields)) in
    let first = bytes_of big w32 (length body) in
    let second = bytes_of big w32 m.serial in
    let last = bytes_of big w32 (length fields) in
    omega (arith, length-append first (second ++ (last ++ (fields ++ (gaps ++ body)))), length-append second (last ++ (fields ++ (gaps ++ body))), length-append last (fields ++ (gaps ++ body)), length-append fields (gaps ++ body), length-append gaps body, le place, is.short)

few_pairs : (big : Bool) (m : Message) (a b : Bool) (ps : List Pair) → m.body ≡ verdict_row a b ps → IsMessage big m → length ps < 4294967296
few_pairs big m a b ps body is =
    body_size big m (length ps) (λ at. subst (λ (t : Trees). length ps ≤ length (all_marshalled big at t)) (sym body)
    (first_size big (length ps) (struct (boolean a ∷ boolean b ∷ pairs_tree ps ∷ [])) none
    (struct_size big (length ps) (row (boolean a ∷ boolean b ∷ pairs_tree ps ∷ []))
    (later_size big (length ps) (boolean a) (row (boolean b ∷ pairs_tree ps ∷ []))
    (later_size big (length ps) (boolean b) (row (pairs_tree ps ∷ []))
    (first_size big (length ps) (pairs_tree ps) none (dictionary_size big ps))))) at)) is

-- ---- whole messages

same_body : (big : Bool) (m : Message) → IsMessage big m → codes "(bba{ss})" ≡ types_of m.body → is_other (judged (verdict (all_pieces m.body))) ≡ list_any is_long (all_pieces m.body)
same_body big m is types =
    let found = verdict_body m.body is.body (sym types) in
    subst (λ (t : Trees). is_other (judged (verdict (all_pieces t))) ≡ list_any is_long (all_pieces t)) (sym found.3) (verdict_other found.0 found.1 found.2 (few_pairs big m found.0 found.1 found.2 found.3 is) found.4)

same_name : (big : Bool) (m : Message) → IsMessage big m → codes "s" ≡ types_of m.body → is_other (judged (name (all_pieces m.body))) ≡ list_any is_long (all_pieces m.body)
same_name big m is types =
    let found = name_body m.body is.body (sym types) in
    subst (λ (t : Trees). is_other (judged (name (all_pieces t))) ≡ list_any is_long (all_pieces t)) (sym found.1) (name_other found.0 found.2)

is_zero : (n : ℕ) → (n == 0) ≡ true → n ≡ 0
is_zero n e = grind (arith, nat_tests)

nothing_long : (m : Message) → (length (types_of m.body) == 0) ≡ true → false ≡ list_any is_long (all_pieces m.body)
nothing_long m e = sym (ap (λ (t : Trees). list_any is_long (all_pieces t)) (nothing_left m.body (is_zero (length (types_of m.body)) e)))

returned_other : (big : Bool) (m : Message) → IsMessage big m → is_other (returned (shown_of m)) ≡ (not (is_answer (types_of m.body)) || list_any is_long (all_pieces m.body))
returned_other big m is = by (bytes_eq (codes "(bba{ss})") (types_of m.body)) (bytes_eq (codes "s") (types_of m.body)) (length (types_of m.body) == 0) refl refl refl
  where
    by : (v n z : Bool) → bytes_eq (codes "(bba{ss})") (types_of m.body) ≡ v → bytes_eq (codes "s") (types_of m.body) ≡ n → (length (types_of m.body) == 0) ≡ z
        → is_other (if v then read_as verdict (shown_of m) else (if n then read_as name (shown_of m) else (if z then answer.Done else answer.Other))) ≡ (not (v || (n || z)) || list_any is_long (all_pieces m.body))
    by true n z ev en ez = same_body big m is ((bytes_eq-Decides (codes "(bba{ss})") (types_of m.body)).0 ev)
    by false true z ev en ez = same_name big m is ((bytes_eq-Decides (codes "s") (types_of m.body)).0 en)
    by false false true ev en ez = nothing_long m ez
    by false false false ev en ez = refl

pub other_exactly : (big : Bool) (m : Message) (serial : ℕ) → IsMessage big m → is_other (answer_of serial (shown_of m)) ≡ tells_nothing serial (shown_of m)
other_exactly big m serial is = by (is_serial serial (shown_of m).reply_serial) (m.kind == 2) (m.kind == 3)
  where
    long : Bool
    long = not (is_answer (types_of m.body)) || list_any is_long (all_pieces m.body)

    by : (a r e : Bool) → is_other (if a then (if r then returned (shown_of m) else (if e then answer.ErrorNamed (error_name (shown_of m).error_name) else answer.Other)) else answer.Other) ≡ (not (a && (r || e)) || (r && long))
    by false r e = refl
    by true true e = returned_other big m is
    by true false true = refl
    by true false false = refl
