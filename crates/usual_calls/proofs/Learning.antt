-- The header fields of a check that was read.
use Rattle.std.proofs.Common.{◌≡◌, ℕ, ◌+◌, ◌<◌, ◌≤◌, ◌^◌, List, [], ◌∷◌, ◌++◌, length, get_or, take, drop, Bool, true, false, Option, Some, None, refl, sym, ap, subst, ◌∙◌, arith, append_assoc, length-append}
use Rattle.std.proofs.lemmas.List.{take_at, drop_at, take-append-drop}
use Rattle.std.specs.Int.{w32}
use Rattle.std.specs.Option.{option_and_then}
use Rattle.std.specs.Prelude.{codes, IfSome}
use Rattle.dbus_values.specs.Basics.{gap, number}
use Rattle.dbus_values.specs.Header.{lacks}
use Rattle.dbus_values.specs.Next.{Seen}
use Rattle.dbus_values.specs.Streams.{IsForm}
use Rattle.dbus_values.specs.Trees.{bytes_of, padding, all_marshalled}
use Rattle.dbus_values.specs.Form.{Message, fields_bytes, message_bytes, order_byte, header_of, IsMessage, WireForm, shown_of}
use Rattle.dbus_values.proofs.Numbers.{wide32}
use Rattle.dbus_values.proofs.Sending.{message_length}
use Rattle.authority_calls.specs.declared.methods.Method.TheVariants as method
use Rattle.authority_calls.specs.Events.{is_authority, method_of}
use Rattle.usual_calls.specs.Headers.{SeenAsCheck, AsksCheck, AreOfCheck, AreRemembered, BeginsWithFields}

-- what follows as many bytes is the same
rest_same : (a b x y : List ℕ) → length a ≡ length b → a ++ x ≡ b ++ y → x ≡ y
rest_same a b x y len same = sym (drop_at a x (length a) refl) ∙ ap (λ (l : List ℕ). drop (length a) l) same ∙ drop_at b y (length a) (sym len)

first_same : (a b x y : List ℕ) → length a ≡ length b → a ++ x ≡ b ++ y → a ≡ b
first_same a b x y len same = sym (take_at a x (length a) refl) ∙ ap (λ (l : List ℕ). take (length a) l) same ∙ take_at b y (length a) (sym len)

number_same : (n k : ℕ) → n < 2 ^ 32 → k < 2 ^ 32 → bytes_of false w32 n ≡ bytes_of false w32 k → n ≡ k
number_same n k small low same = sym (wide32.again false n small) ∙ ap (λ (l : List ℕ). number false w32 l) same ∙ wide32.again false k low

little : (m : Message) (is : IsMessage false m) (front fields rest more : List ℕ) → SeenAsCheck (shown_of m) → length front ≡ 11 → length fields < 2 ^ 32
    → 108 ∷ (front ++ (bytes_of false w32 (length fields) ++ (fields ++ rest))) ≡ message_bytes false m ++ more → AreOfCheck fields
little m is front fields rest more asks len small same =
    let f = fields_bytes false 16 m.fields in
    let body = all_marshalled false (16 + length f + gap 8 (16 + length f)) m.body in
    let tail = padding (gap 8 (16 + length f)) ++ body in
    let a = bytes_of false w32 (length body) in
    let b = bytes_of false w32 m.serial in
    let c = bytes_of false w32 (length f) in
    let first = m.kind ∷ m.flags ∷ 1 ∷ (a ++ b) in
    let behind_first : (a ++ (b ++ (c ++ (f ++ tail)))) ++ more ≡ (a ++ b) ++ (c ++ (f ++ (tail ++ more))) =
    append_assoc a (b ++ (c ++ (f ++ tail))) more ∙ ap (λ (x : List ℕ). a ++ x) (append_assoc b (c ++ (f ++ tail)) more ∙ ap (λ (x : List ℕ). b ++ x) (append_assoc c (f ++ tail) more ∙ ap (λ (x : List ℕ). c ++ x) (append_assoc f tail more))) ∙ sym (append_assoc a b (c ++ (f ++ (tail ++ more)))) in
    let split : 108 ∷ (front ++ (bytes_of false w32 (length fields) ++ (fields ++ rest))) ≡ 108 ∷ (first ++ (c ++ (f ++ (tail ++ more)))) = same ∙ ap (λ (x : List ℕ). 108 ∷ m.kind ∷ m.flags ∷ 1 ∷ x) behind_first in
    let apart : front ++ (bytes_of false w32 (length fields) ++ (fields ++ rest)) ≡ first ++ (c ++ (f ++ (tail ++ more))) = ap (λ (x : List ℕ). drop 1 x) split in
    let long : length first ≡ 11 = omega (arith, length-append a b, wide32.len false (length body), wide32.len false m.serial) in
    let behind_front : bytes_of false w32 (length fields) ++ (fields ++ rest) ≡ c ++ (f ++ (tail ++ more)) = rest_same front first (bytes_of false w32 (length fields) ++ (fields ++ rest)) (c ++ (f ++ (tail ++ more))) (len ∙ sym long) apart in
    let sizes : length (bytes_of false w32 (length fields)) ≡ length c = wide32.len false (length fields) ∙ sym (wide32.len false (length f)) in
    let short = is.short in
    let low : length f < 2 ^ 32 = omega (arith, message_length m, short) in
    let n : length fields ≡ length f = number_same (length fields) (length f) small low (first_same (bytes_of false w32 (length fields)) c (fields ++ rest) (f ++ (tail ++ more)) sizes behind_front) in
    let are : fields ≡ f = first_same fields f rest (tail ++ more) n (rest_same (bytes_of false w32 (length fields)) c (fields ++ rest) (f ++ (tail ++ more)) sizes behind_front) in
    record {
      fields = m.fields;
      are = are;
      form = is.fields;
      needs = subst (λ (k : ℕ). lacks k (header_of m) ≡ false) asks.kind is.needs;
      asks = record { path = asks.path; method = asks.method; signature = is.signature ∙ asks.signature };
    }

in_order : (big : Bool) (m : Message) (is : IsMessage big m) (front fields rest more : List ℕ) → SeenAsCheck (shown_of m) → length front ≡ 11 → length fields < 2 ^ 32
    → 108 ∷ (front ++ (bytes_of false w32 (length fields) ++ (fields ++ rest))) ≡ message_bytes big m ++ more → AreOfCheck fields
in_order true m is front fields rest more asks len small same = let first : 108 ≡ 66 = ap (λ (l : List ℕ). get_or l 0 0) same in absurd (omega (arith, first))
in_order false m is front fields rest more asks len small same = little m is front fields rest more asks len small same

pub learned : (bytes front fields rest : List ℕ) (used : ℕ) (seen : Seen) → IsForm (take used bytes) seen → SeenAsCheck seen → length front ≡ 11 → length fields < 2 ^ 32
    → bytes ≡ 108 ∷ (front ++ (bytes_of false w32 (length fields) ++ (fields ++ rest))) → AreOfCheck fields
learned bytes front fields rest used seen form asks len small is =
    let m = form.0 in
    let wire : WireForm (take used bytes) m = form.1 in
    let whole : bytes ≡ message_bytes wire.big m ++ drop used bytes = sym (take-append-drop used bytes) ∙ ap (λ (x : List ℕ). x ++ drop used bytes) wire.bytes_are in
    in_order wire.big m wire.is front fields rest (drop used bytes) (subst SeenAsCheck form.2 asks) len small (sym is ∙ whole)

pub of_check : (bytes fields : List ℕ) (used : ℕ) (m : Seen) → IsForm (take used bytes) m → SeenAsCheck m → length fields ≤ 4096 → BeginsWithFields fields bytes → AreOfCheck fields
of_check bytes fields used m form asks few begins = learned bytes begins.0 fields begins.1 used m form asks begins.2 (omega arith) begins.3

pub fields_begin : (bytes r0 front r1 r2 fields rest : List ℕ) (n : ℕ) → bytes ≡ (108 ∷ []) ++ r0 → front ≡ take 11 r0 → r1 ≡ drop 11 r0 → length front ≡ 11 → r1 ≡ bytes_of false w32 n ++ r2 → fields ≡ take n r2 → rest ≡ drop n r2 → length fields ≡ n → BeginsWithFields fields bytes
fields_begin bytes r0 front r1 r2 fields rest n bytes-is front-is r1-is len r1-num fields-is rest-is size =
    let r2-is : r2 ≡ fields ++ rest = sym (take-append-drop n r2) ∙ ap (λ (x : List ℕ). x ++ drop n r2) (sym fields-is) ∙ ap (λ (x : List ℕ). fields ++ x) (sym rest-is) in
    let r0-is : r0 ≡ front ++ r1 = sym (take-append-drop 11 r0) ∙ ap (λ (x : List ℕ). x ++ drop 11 r0) (sym front-is) ∙ ap (λ (x : List ℕ). front ++ x) (sym r1-is) in
    (front, rest, len, bytes-is ∙ ap (λ (x : List ℕ). 108 ∷ x) (r0-is ∙ ap (λ (x : List ℕ). front ++ x) (r1-num ∙ ap (λ (k : ℕ). bytes_of false w32 k ++ r2) (sym size) ∙ ap (λ (x : List ℕ). bytes_of false w32 (length fields) ++ x) r2-is)))

pub remembered_none : (kept : List ℕ) → kept ≡ [] → AreRemembered kept
remembered_none kept none = record { few = omega (arith, ap length none); check = λ some. absurd (omega (arith, some, ap length none)) }

pub remembered_some : (kept fields : List ℕ) → kept ≡ [] ++ fields → length fields ≤ 4096 → AreOfCheck fields → AreRemembered kept
remembered_some kept fields same few is = record { few = omega (arith, few, ap length same); check = λ some. subst AreOfCheck (sym same) is }

-- what follows of a value, where there is one
pub if_some : {A : Type 0} (r : Option A) (P Q R : A → Type 0) → ((x : A) → P x → Q x → R x) → IfSome r P → IfSome r Q → IfSome r R
if_some None P Q R f p q = tt
if_some (Some x) P Q R f p q = f x p q
