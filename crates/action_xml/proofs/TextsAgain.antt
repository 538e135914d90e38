-- What has the form is read again, whatever follows.
use Rattle.std.proofs.Common.{◌≡◌, ◌≢◌, ℕ, suc, ◌+◌, ◌-◌, ◌<◌, ◌≤◌, ◌&&◌, ◌==◌, List, [], ◌∷◌, ◌++◌, length, Bool, true, false, Option, Some, None, Ok, Result, refl, sym, ap, ◌∙◌, arith, append_assoc, append-nil, length-append}
use Rattle.std.specs.Prelude.{if◌then◌else◌, codes, bytes_eq, unwrap_or, is_some, ◌||◌, nat_le}
use Rattle.std.proofs.lemmas.Bool.{ne_eqb}
use Rattle.std.proofs.lemmas.Bool.Decides.{Decides-eqb}
use Rattle.std.proofs.lemmas.List.{take_at}
use Rattle.xml_pieces.specs.declared.fault.Fault.{Fault}
use Rattle.xml_pieces.specs.Reading.{◌>>=◌, fault_at, malformed, Step, On, Done, go_on, steps}
use Rattle.std.proofs.lemmas.Slice.Eq.{bytes_eq-Decides}
use Rattle.pk_types.specs.Text.{IsText}
use Rattle.xml_pieces.specs.declared.fault.XmlFaultKind.TheVariants as kind
use Rattle.xml_pieces.specs.Bytes.{is_space, behind_spaces, is_name_start, is_name_byte, behind_name, named, name, skip, before, behind_pair, behind_byte}
use Rattle.xml_pieces.specs.References.{is_body, referred, reference}
use Rattle.xml_pieces.specs.Markup.{comment, declaration, end_tag}
use Rattle.xml_pieces.specs.Texts.{judged, as_text, text_step, whole_text}
use Rattle.action_xml.specs.TextForm.{Each, IsWhite, IsName, NoDashes, comment_bytes, Bit, Byte, CrLf, Cr, Refer, Note, bit_bytes, bits_bytes, bit_text, bits_text, IsBit, AreBits, IsReference}

pub skip_each : (test : ℕ → Bool) (front rest : List ℕ) → Each test front → skip test (front ++ rest) ≡ skip test rest
skip_each test [] rest each = refl
skip_each test (b ∷ front) rest each = ap (λ t. if t then skip test (front ++ rest) else b ∷ (front ++ rest)) each.0 ∙ skip_each test front rest each.1

not_both : (b c : ℕ) → (b ≡ 45 → c ≢ 45) → (b == 45 && c == 45) ≡ false
not_both b c none = of (b == 45) (c == 45) refl refl
  where
    of : (t u : Bool) → (b == 45) ≡ t → (c == 45) ≡ u → (t && u) ≡ false
    of true true p q = absurd (none ((Decides-eqb b 45).0 p) ((Decides-eqb c 45).0 q))
    of true false p q = refl
    of false u p q = refl

dashes_again : (inside rest : List ℕ) → NoDashes inside → behind_pair 45 45 (inside ++ 45 ∷ 45 ∷ rest) ≡ Ok rest
dashes_again [] rest none = refl
dashes_again (b ∷ []) rest none = ap (λ t. if t && true then Ok (45 ∷ rest) else Ok rest) (ne_eqb b 45 none)
dashes_again (b ∷ c ∷ inside) rest none =
    ap (λ t. if t then Ok (inside ++ 45 ∷ 45 ∷ rest) else behind_pair 45 45 (c ∷ (inside ++ 45 ∷ 45 ∷ rest))) (not_both b c none.0)
    ∙ dashes_again (c ∷ inside) rest none.1

pub comment_again : (inside rest : List ℕ) → NoDashes inside → declaration (comment_bytes inside ++ rest) ≡ Ok rest
unfolding declaration comment behind_byte
comment_again inside rest none =
    let e : (inside ++ codes "-->") ++ rest ≡ inside ++ 45 ∷ 45 ∷ 62 ∷ rest = append_assoc inside (codes "-->") rest in
    rw (e, dashes_again inside (62 ∷ rest) none) refl

pub before_again : (front rest : List ℕ) → before rest (front ++ rest) ≡ front
before_again front rest = take_at front rest (length (front ++ rest) - length rest) (omega (arith, length-append front rest))

pub some_of : {X : Type 0} (o : Option X) → is_some o ≡ true → (x : X) × (o ≡ Some x)
some_of (Some x) e = (x, refl)
some_of None e = absurd cc

pub reference_again : (body rest : List ℕ) → IsReference body → reference (38 ∷ (body ++ 59 ∷ rest)) ≡ Ok (unwrap_or (referred body) [], rest)
unfolding reference
reference_again body rest is =
    let s = some_of (referred body) is.stands in
    let e : skip is_body (body ++ 59 ∷ rest) ≡ 59 ∷ rest = skip_each is_body body (59 ∷ rest) is.chars in
    rw (e, before_again body (59 ∷ rest), s.1) refl

-- a piece of a text is one step
pub bit_again : (wanted place so rest : List ℕ) (b : Bit) → IsBit b rest → text_step wanted place (so, bit_bytes b ++ rest) ≡ Ok (On (so ++ bit_text b, rest))
unfolding text_step
bit_again wanted place so rest (Byte b) is = rw (ne_eqb b 38 is.1, ne_eqb b 60 is.0, ne_eqb b 13 is.2) refl
bit_again wanted place so rest CrLf is = refl
bit_again wanted place so [] Cr is = refl
bit_again wanted place so (c ∷ rest) Cr is = rw (ne_eqb c 10 is) refl
bit_again wanted place so rest (Refer body) is =
    let e : (body ++ 59 ∷ []) ++ rest ≡ body ++ 59 ∷ rest = append_assoc body (59 ∷ []) rest in
    rw (e, reference_again body rest is) refl
bit_again wanted place so rest (Note inside) is =
    let e : declaration (comment_bytes inside ++ rest) ≡ Ok rest = comment_again inside rest is in
    ap (λ r. r >>= λ x. Ok (On (so, x))) e ∙ ap (λ t. Ok (On (t, rest))) (sym (append-nil so))

pub steps_first : {S X : Type 0} (step : S → Result (Step S X) Fault) (n : ℕ) (s t : S) → step s ≡ Ok (On t) → steps step (suc n) s ≡ steps step n t
unfolding steps
steps_first step n s t is = ap (λ r. r >>= go_on (steps step n)) is

-- a text is as many steps as it has pieces
pub bits_again : (wanted place so rest : List ℕ) (bits : List Bit) (n : ℕ) → AreBits bits rest
    → steps (text_step wanted place) (length bits + n) (so, bits_bytes bits ++ rest) ≡ steps (text_step wanted place) n (so ++ bits_text bits, rest)
bits_again wanted place so rest [] n are =
    let k : length {A = Bit} [] + n ≡ n = omega arith in
    ap (λ m. steps (text_step wanted place) m (so, rest)) k ∙ ap (λ t. steps (text_step wanted place) n (t, rest)) (sym (append-nil so))
bits_again wanted place so rest (b ∷ bits) n are =
    let tail : List ℕ = bits_bytes bits ++ rest in
    let k : length (b ∷ bits) + n ≡ suc (length bits + n) = omega arith in
    let e : (bit_bytes b ++ bits_bytes bits) ++ rest ≡ bit_bytes b ++ tail = append_assoc (bit_bytes b) (bits_bytes bits) rest in
    ap (λ m. steps (text_step wanted place) m (so, (bit_bytes b ++ bits_bytes bits) ++ rest)) k
    ∙ ap (λ y. steps (text_step wanted place) (suc (length bits + n)) (so, y)) e
    ∙ steps_first (text_step wanted place) (length bits + n) (so, bit_bytes b ++ tail) (so ++ bit_text b, tail) (bit_again wanted place so tail b are.0)
    ∙ bits_again wanted place (so ++ bit_text b) rest bits n are.1
    ∙ ap (λ t. steps (text_step wanted place) n (t, rest)) (append_assoc so (bit_text b) (bits_text bits))

pub space_ends : (b : ℕ) → is_space b ≡ true → is_name_byte b ≡ false
space_ends b e = of (b == 32) (b == 9) (b == 10) (b == 13) refl refl refl refl e
  where
    at : (n : ℕ) → (b == n) ≡ true → is_name_byte n ≡ false → is_name_byte b ≡ false
    at n p other = ap is_name_byte ((Decides-eqb b n).0 p) ∙ other

    of : (t u v w : Bool) → (b == 32) ≡ t → (b == 9) ≡ u → (b == 10) ≡ v → (b == 13) ≡ w → (t || u || v || w) ≡ true → is_name_byte b ≡ false
    of true u v w p q r s e = at 32 p refl
    of false true v w p q r s e = at 9 q refl
    of false false true w p q r s e = at 10 r refl
    of false false false true p q r s e = at 13 s refl
    of false false false false p q r s e = absurd cc

-- white space and `>` end a name
white_ends : (white rest : List ℕ) → IsWhite white → (c : ℕ) × (more : List ℕ) × (white ++ 62 ∷ rest ≡ c ∷ more) × (is_name_byte c ≡ false)
white_ends [] rest is = (62, rest, refl, refl)
white_ends (b ∷ white) rest is = (b, white ++ 62 ∷ rest, refl, space_ends b is.0)

pub start_is_byte : (b : ℕ) → is_name_start b ≡ true → is_name_byte b ≡ true
start_is_byte b e = ap (λ t. t || (nat_le 48 b && nat_le b 57) || b == 45 || b == 46) e

pub name_again : (place n : List ℕ) (c : ℕ) (rest : List ℕ) → IsName n → is_name_byte c ≡ false → name place (n ++ c ∷ rest) ≡ Ok (n, c ∷ rest)
unfolding name
name_again place [] c rest is other = absurd is
name_again place (b ∷ n) c rest is other =
    let each : Each is_name_byte (b ∷ n) = (start_is_byte b is.0, is.1) in
    let stop : skip is_name_byte (c ∷ rest) ≡ c ∷ rest = ap (λ t. if t then skip is_name_byte rest else c ∷ rest) other in
    let e : behind_name (b ∷ (n ++ c ∷ rest)) ≡ c ∷ rest = skip_each is_name_byte (b ∷ n) (c ∷ rest) each ∙ stop in
    let f : before (c ∷ rest) (b ∷ (n ++ c ∷ rest)) ≡ b ∷ n = before_again (b ∷ n) (c ∷ rest) in
    ap (λ t. if t then named (b ∷ (n ++ c ∷ rest)) (behind_name (b ∷ (n ++ c ∷ rest))) else malformed place) is.0
    ∙ ap (named (b ∷ (n ++ c ∷ rest))) e
    ∙ ap (λ w. Ok (w, c ∷ rest)) f

pub white_again : (white rest : List ℕ) → IsWhite white → behind_spaces (white ++ 62 ∷ rest) ≡ 62 ∷ rest
white_again white rest is = skip_each is_space white (62 ∷ rest) is

pub same_bytes : (a : List ℕ) → bytes_eq a a ≡ true
same_bytes a = (bytes_eq-Decides a a).1 refl

-- the end tag of that name
pub end_again : (wanted white rest : List ℕ) → IsName wanted → IsWhite white → end_tag wanted (60 ∷ 47 ∷ (wanted ++ (white ++ 62 ∷ rest))) ≡ Ok rest
unfolding end_tag behind_byte
end_again wanted white rest is_name is_white =
    let w = white_ends white rest is_white in
    let here : List ℕ = 60 ∷ 47 ∷ (wanted ++ (white ++ 62 ∷ rest)) in
    let n : name here (wanted ++ (white ++ 62 ∷ rest)) ≡ Ok (wanted, white ++ 62 ∷ rest) =
    ap (λ r. name here (wanted ++ r)) w.2 ∙ name_again here wanted w.0 w.1 is_name w.3 ∙ ap (λ r. Ok (wanted, r)) (sym w.2) in
    ap (λ r. r >>= λ n. if bytes_eq n.0 wanted then behind_byte 62 (behind_spaces n.1) (behind_spaces n.1) else fault_at kind.Mismatch here) n
    ∙ ap (λ t. if t then behind_byte 62 (behind_spaces (white ++ 62 ∷ rest)) (behind_spaces (white ++ 62 ∷ rest)) else fault_at kind.Mismatch here) (same_bytes wanted)
    ∙ ap (λ r. behind_byte 62 r r) (white_again white rest is_white)

pub text_again : (place so : List ℕ) → IsText so → as_text place so ≡ Ok so
unfolding as_text
text_again place so is = ap (judged place so) is

-- behind the pieces of a text its end tag ends it
pub last_again : (wanted place so white rest : List ℕ) → IsName wanted → IsWhite white → IsText so
    → text_step wanted place (so, codes "</" ++ (wanted ++ (white ++ 62 ∷ rest))) ≡ Ok (Done (so, rest))
unfolding text_step
last_again wanted place so white rest is_name is_white is_text =
    rw (end_again wanted white rest is_name is_white, text_again place so is_text) refl

pub steps_last : {S X : Type 0} (step : S → Result (Step S X) Fault) (n : ℕ) (s : S) (x : X) → step s ≡ Ok (Done x) → steps step (suc n) s ≡ Ok x
unfolding steps
steps_last step n s x is = ap (λ r. r >>= go_on (steps step n)) is

bit_long : (b : Bit) → 0 < length (bit_bytes b)
bit_long (Byte b) = omega arith
bit_long CrLf = omega arith
bit_long Cr = omega arith
bit_long (Refer body) = omega arith
bit_long (Note inside) = omega arith

pub bits_long : (bits : List Bit) → length bits ≤ length (bits_bytes bits)
bits_long [] = omega arith
bits_long (b ∷ bits) = omega (arith, bit_long b, bits_long bits, length-append (bit_bytes b) (bits_bytes bits))

-- a whole text is read again, whatever follows its end tag
pub whole_again : (wanted place white rest : List ℕ) (bits : List Bit) → IsName wanted → IsWhite white
    → AreBits bits (codes "</" ++ (wanted ++ (white ++ 62 ∷ rest))) → IsText (bits_text bits)
    → whole_text wanted place (bits_bytes bits ++ (codes "</" ++ (wanted ++ (white ++ 62 ∷ rest)))) ≡ Ok (bits_text bits, rest)
unfolding whole_text
whole_again wanted place white rest bits is_name is_white are is_text =
    let end : List ℕ = codes "</" ++ (wanted ++ (white ++ 62 ∷ rest)) in
    let m : ℕ = length (bits_bytes bits ++ end) - (length bits + 1) in
    let k : length (bits_bytes bits ++ end) ≡ length bits + suc m = omega (arith, bits_long bits, length-append (bits_bytes bits) end) in
    ap (λ n. steps (text_step wanted place) n ([], bits_bytes bits ++ end)) k
    ∙ bits_again wanted place [] end bits (suc m) are
    ∙ steps_last (text_step wanted place) m (bits_text bits, end) (bits_text bits, rest) (last_again wanted place (bits_text bits) white rest is_name is_white is_text)
