-- A message that is read whole has the form of a message.
use Rattle.std.proofs.Common.{◌≡◌, ℕ, zero, suc, ◌+◌, ◌-◌, ◌<◌, ◌≤◌, ◌^◌, List, [], ◌∷◌, ◌++◌, length, get_or, take, drop, Bool, true, false, cond, eqb, ltb, Result, Ok, Err, refl, sym, ap, subst, ◌∙◌, arith, append_assoc}
use Rattle.std.specs.Int.{w32}
use Rattle.std.proofs.lemmas.Bool.{ltb-false, eqb-true, eqb-false}
use Rattle.std.proofs.lemmas.List.{take_at, take-append-drop, length-append, length-take, length-drop, append-nil}
use Rattle.dbus_values.specs.declared.codes.TheConstants.{MAX_BODY, MAX_MESSAGE}
use Rattle.dbus_values.specs.declared.fault.Fault.{Fault}
use Rattle.dbus_values.specs.declared.fault.FaultKind.TheVariants as fault
use Rattle.dbus_values.specs.declared.fault.Stop.{Stop}
use Rattle.dbus_values.specs.declared.fault.Stop.TheVariants as stop
use Rattle.dbus_values.specs.Reading.{◌>>=◌, bad, Spot}
use Rattle.dbus_values.specs.Basics.{gap, pad, number}
use Rattle.dbus_values.specs.Walk.{values_at, most_parts}
use Rattle.dbus_values.specs.Header.{Header, no_fields, fields_at, lacks}
use Rattle.dbus_values.specs.Messages.{Start, u32_of, total, wrong, order_of, kind_of, flags_of, body_of, serial_of, fields_of, start_of, body_at, padded_body, signature_of, message_of}
use Rattle.dbus_values.specs.Next.{Seen, Whole, Partial, Bad, message_on, start_on, next_of}
use Rattle.dbus_values.specs.Trees.{Trees, types_of, bytes_of, padding, all_marshalled, FitsAs, Each}
use Rattle.dbus_values.specs.Form.{Message, fields_bytes, order_byte, message_bytes, IsMessage, WireForm, shown_of}
use Rattle.dbus_values.proofs.Numbers.{IsBytes, IsBytes-rest, IsBytes-take, IsBytes-drop, bind_ok, guard_ok, held_ok, ok_is, zeros_takes, length-padding, wide32}
use Rattle.dbus_values.proofs.Finding.{row_found}
use Rattle.dbus_values.proofs.HeaderFound.{fields_found}
use Rattle.dbus_values.proofs.Whole.{first_bytes, length-first, gap_16, read_again}

-- ---- the first 16 bytes

-- what the first 16 bytes say, when they say it
pub record Started (bytes : List ℕ) (s : Start) : Type 0 where
  long : 16 ≤ length bytes
  order : get_or bytes 0 0 ≡ order_byte s.big
  kind : get_or bytes 1 0 ≡ s.kind
  kind_pos : 0 < s.kind
  flags : get_or bytes 2 0 ≡ s.flags
  version : get_or bytes 3 0 ≡ 1
  body : u32_of s.big bytes 4 ≡ s.body
  serial : u32_of s.big bytes 8 ≡ s.serial
  serial_pos : 0 < s.serial
  fields : u32_of s.big bytes 12 ≡ s.fields
  pub small : total s ≤ MAX_MESSAGE

stop_ok_is : {A : Type 0} (x y : A) → ◌≡◌ {A = Result A Stop} (Ok x) (Ok y) → x ≡ y
stop_ok_is x y e = ok_is {E = Stop} x y e

pos_from : (n : ℕ) → eqb n 0 ≡ false → 0 < n
pos_from n e = let ne = eqb-false n 0 e in omega arith

order_found : (bytes : List ℕ) (big : Bool) → order_of bytes ≡ Ok big → get_or bytes 0 0 ≡ order_byte big
unfolding order_of
order_found bytes big e =
    let chosen : Result Bool Stop = cond (eqb (get_or bytes 0 0) 108) (Ok false) (cond (eqb (get_or bytes 0 0) 66) (Ok true) (wrong fault.Endian 0)) in
    let g = guard_ok (ltb (length bytes) 1) stop.Partial chosen big e in
    little (eqb (get_or bytes 0 0) 108) refl g.1 where
      same : (x : Bool) → ◌≡◌ {A = Result Bool Stop} (Ok x) (Ok big) → get_or bytes 0 0 ≡ order_byte x → get_or bytes 0 0 ≡ order_byte big
      same x h is = subst (λ (y : Bool). get_or bytes 0 0 ≡ order_byte y) (stop_ok_is x big h) is

      large : (b : Bool) → eqb (get_or bytes 0 0) 66 ≡ b → cond b (Ok true) (wrong fault.Endian 0) ≡ Ok big → get_or bytes 0 0 ≡ order_byte big
      large true is h = same true h (eqb-true _ _ is)
      large false is h = absurd cc

      little : (b : Bool) → eqb (get_or bytes 0 0) 108 ≡ b → cond b (Ok false) (cond (eqb (get_or bytes 0 0) 66) (Ok true) (wrong fault.Endian 0)) ≡ Ok big → get_or bytes 0 0 ≡ order_byte big
      little true is h = same false h (eqb-true _ _ is)
      little false is h = large (eqb (get_or bytes 0 0) 66) refl h

kind_found : (bytes : List ℕ) (kind : ℕ) → kind_of bytes ≡ Ok kind → (get_or bytes 1 0 ≡ kind) × (0 < kind)
unfolding kind_of
kind_found bytes kind e =
    let b = get_or bytes 1 0 in
    let g = guard_ok (ltb (length bytes) 2) stop.Partial (cond (eqb b 0) (wrong fault.Kind 1) (Ok b)) kind e in
    let h = guard_ok (eqb b 0) (stop.Bad (record { kind = fault.Kind; at = 1 })) (Ok b) kind g.1 in
    let same = stop_ok_is b kind h.1 in
    (same, subst (λ (n : ℕ). 0 < n) same (pos_from b h.0))

flags_found : (bytes : List ℕ) (flags : ℕ) → flags_of bytes ≡ Ok flags → (get_or bytes 2 0 ≡ flags) × (get_or bytes 3 0 ≡ 1)
unfolding flags_of
flags_found bytes flags e =
    let g = guard_ok (ltb (length bytes) 4) stop.Partial (cond (eqb (get_or bytes 3 0) 1) (Ok (get_or bytes 2 0)) (wrong fault.Version 3)) flags e in
    let h = held_ok (eqb (get_or bytes 3 0) 1) (stop.Bad (record { kind = fault.Version; at = 3 })) (Ok (get_or bytes 2 0)) flags g.1 in
    (stop_ok_is (get_or bytes 2 0) flags h.1, eqb-true _ _ h.0)

body_found : (big : Bool) (bytes : List ℕ) (n : ℕ) → body_of big bytes ≡ Ok n → u32_of big bytes 4 ≡ n
unfolding body_of
body_found big bytes n e =
    let b = u32_of big bytes 4 in
    let g = guard_ok (ltb (length bytes) 8) stop.Partial (cond (ltb MAX_BODY b) (wrong fault.Length 4) (Ok b)) n e in
    let h = guard_ok (ltb MAX_BODY b) (stop.Bad (record { kind = fault.Length; at = 4 })) (Ok b) n g.1 in
    stop_ok_is b n h.1

serial_found : (big : Bool) (bytes : List ℕ) (n : ℕ) → serial_of big bytes ≡ Ok n → (u32_of big bytes 8 ≡ n) × (0 < n)
unfolding serial_of
serial_found big bytes n e =
    let b = u32_of big bytes 8 in
    let g = guard_ok (ltb (length bytes) 12) stop.Partial (cond (eqb b 0) (wrong fault.Serial 8) (Ok b)) n e in
    let h = guard_ok (eqb b 0) (stop.Bad (record { kind = fault.Serial; at = 8 })) (Ok b) n g.1 in
    let same = stop_ok_is b n h.1 in
    (same, subst (λ (k : ℕ). 0 < k) same (pos_from b h.0))

fields_start : (big : Bool) (body : ℕ) (bytes : List ℕ) (n : ℕ) → fields_of big body bytes ≡ Ok n → (16 ≤ length bytes) × (u32_of big bytes 12 ≡ n) × (16 + (n + gap 8 n) + body ≤ MAX_MESSAGE)
unfolding fields_of
fields_start big body bytes n e =
    let b = u32_of big bytes 12 in
    let g = guard_ok (ltb (length bytes) 16) stop.Partial (cond (ltb MAX_MESSAGE (16 + (b + gap 8 b) + body)) (wrong fault.Length 12) (Ok b)) n e in
    let h = guard_ok (ltb MAX_MESSAGE (16 + (b + gap 8 b) + body)) (stop.Bad (record { kind = fault.Length; at = 12 })) (Ok b) n g.1 in
    let same = stop_ok_is b n h.1 in
    (ltb-false _ _ g.0, same, subst (λ (k : ℕ). 16 + (k + gap 8 k) + body ≤ MAX_MESSAGE) same (ltb-false _ _ h.0))

pub start_found : (bytes : List ℕ) (s : Start) → start_of bytes ≡ Ok s → Started bytes s
unfolding start_of
start_found bytes s e =
    let b0 = bind_ok (order_of bytes) (λ big. kind_of bytes >>= λ kind. flags_of bytes >>= λ flags. body_of big bytes >>= λ body. serial_of big bytes >>= λ serial. fields_of big body bytes >>= λ fields. Ok (made big kind flags body serial fields)) s e in
    let b1 = bind_ok (kind_of bytes) (λ kind. flags_of bytes >>= λ flags. body_of b0.0 bytes >>= λ body. serial_of b0.0 bytes >>= λ serial. fields_of b0.0 body bytes >>= λ fields. Ok (made b0.0 kind flags body serial fields)) s b0.2 in
    let b2 = bind_ok (flags_of bytes) (λ flags. body_of b0.0 bytes >>= λ body. serial_of b0.0 bytes >>= λ serial. fields_of b0.0 body bytes >>= λ fields. Ok (made b0.0 b1.0 flags body serial fields)) s b1.2 in
    let b3 = bind_ok (body_of b0.0 bytes) (λ body. serial_of b0.0 bytes >>= λ serial. fields_of b0.0 body bytes >>= λ fields. Ok (made b0.0 b1.0 b2.0 body serial fields)) s b2.2 in
    let b4 = bind_ok (serial_of b0.0 bytes) (λ serial. fields_of b0.0 b3.0 bytes >>= λ fields. Ok (made b0.0 b1.0 b2.0 b3.0 serial fields)) s b3.2 in
    let b5 = bind_ok (fields_of b0.0 b3.0 bytes) (λ fields. Ok (made b0.0 b1.0 b2.0 b3.0 b4.0 fields)) s b4.2 in
    let k = kind_found bytes b1.0 b1.1 in
    let f = flags_found bytes b2.0 b2.1 in
    let r = serial_found b0.0 bytes b4.0 b4.1 in
    let d = fields_start b0.0 b3.0 bytes b5.0 b5.1 in
    subst (λ (x : Start). Started bytes x) (stop_ok_is (made b0.0 b1.0 b2.0 b3.0 b4.0 b5.0) s b5.2) (record {
      long = d.0;
      order = order_found bytes b0.0 b0.1;
      kind = k.0;
      kind_pos = k.1;
      flags = f.0;
      version = f.1;
      body = body_found b0.0 bytes b3.0 b3.1;
      serial = r.0;
      serial_pos = r.1;
      fields = d.1;
      small = d.2;
    }) where
      made : Bool → ℕ → ℕ → ℕ → ℕ → ℕ → Start
      made big kind flags body serial fields = record { big = big; kind = kind; flags = flags; body = body; serial = serial; fields = fields }

word_split : (big : Bool) (z : List ℕ) → 4 ≤ length z → IsBytes z → z ≡ bytes_of big w32 (number big w32 (take 4 z)) ++ drop 4 z
word_split big z le fits =
    let back = wide32.back big (take 4 z) (omega (arith, length-take 4 z)) (IsBytes-take 4 z fits) in
    sym (take-append-drop 4 z) ∙ ap (λ (x : List ℕ). x ++ drop 4 z) (sym back)

head_split : (big : Bool) (bytes : List ℕ) → 16 ≤ length bytes → IsBytes bytes
    → bytes ≡ get_or bytes 0 0 ∷ get_or bytes 1 0 ∷ get_or bytes 2 0 ∷ get_or bytes 3 0 ∷ (bytes_of big w32 (u32_of big bytes 4) ++ (bytes_of big w32 (u32_of big bytes 8) ++ (bytes_of big w32 (u32_of big bytes 12) ++ drop 16 bytes)))
head_split big [] le fits = absurd (omega arith)
head_split big (a ∷ []) le fits = absurd (omega arith)
head_split big (a ∷ b ∷ []) le fits = absurd (omega arith)
head_split big (a ∷ b ∷ c ∷ []) le fits = absurd (omega arith)
head_split big (a ∷ b ∷ c ∷ d ∷ y) le fits =
    let fits1 = IsBytes-rest (a ∷ b ∷ c ∷ d ∷ []) y fits in
    let one = word_split big y (omega arith) fits1 in
    let fits2 = IsBytes-drop 4 y fits1 in
    let two = word_split big (drop 4 y) (omega (arith, length-drop 4 y)) fits2 in
    let three = word_split big (drop 4 (drop 4 y)) (omega (arith, length-drop 4 y, length-drop 4 (drop 4 y))) (IsBytes-drop 4 (drop 4 y) fits2) in
    let d8 : drop 4 (drop 4 y) ≡ drop 8 y = drops 4 4 y in
    let d12 : drop 4 (drop 4 (drop 4 y)) ≡ drop 12 y = ap (λ (x : List ℕ). drop 4 x) d8 ∙ drops 4 8 y in
    let three' : drop 4 (drop 4 y) ≡ bytes_of big w32 (number big w32 (take 4 (drop 8 y))) ++ drop 12 y = three ∙ ap (λ (x : List ℕ). bytes_of big w32 (number big w32 (take 4 x)) ++ drop 4 (drop 4 (drop 4 y))) d8 ∙ ap (λ (x : List ℕ). bytes_of big w32 (number big w32 (take 4 (drop 8 y))) ++ x) d12 in
    ap (λ (x : List ℕ). a ∷ b ∷ c ∷ d ∷ x) (one ∙ ap (λ (x : List ℕ). bytes_of big w32 (number big w32 (take 4 y)) ++ x) (two ∙ ap (λ (x : List ℕ). bytes_of big w32 (number big w32 (take 4 (drop 4 y))) ++ x) three')) where
      none : (n : ℕ) → drop {A = ℕ} n [] ≡ []
      none zero = refl
      none (suc n) = refl

      drops : (n m : ℕ) (z : List ℕ) → drop n (drop m z) ≡ drop (m + n) z
      drops n zero z = let k : 0 + n ≡ n = omega arith in rw k refl
      drops n (suc m) [] = none n ∙ sym (none (suc m + n))
      drops n (suc m) (x ∷ z) = let k : suc m + n ≡ suc (m + n) = omega arith in rw k (drops n m z)

first_found : (s : Start) (bytes : List ℕ) → IsBytes bytes → Started bytes s → bytes ≡ first_bytes s.big s.kind s.flags s.body s.serial s.fields (drop 16 bytes)
unfolding first_bytes
first_found s bytes fits st =
    let rest = drop 16 bytes in
    head_split s.big bytes st.long fits
    ∙ ap (λ (x : ℕ). x ∷ get_or bytes 1 0 ∷ get_or bytes 2 0 ∷ get_or bytes 3 0 ∷ (bytes_of s.big w32 (u32_of s.big bytes 4) ++ (bytes_of s.big w32 (u32_of s.big bytes 8) ++ (bytes_of s.big w32 (u32_of s.big bytes 12) ++ rest)))) st.order
    ∙ ap (λ (x : ℕ). order_byte s.big ∷ x ∷ get_or bytes 2 0 ∷ get_or bytes 3 0 ∷ (bytes_of s.big w32 (u32_of s.big bytes 4) ++ (bytes_of s.big w32 (u32_of s.big bytes 8) ++ (bytes_of s.big w32 (u32_of s.big bytes 12) ++ rest)))) st.kind
    ∙ ap (λ (x : ℕ). order_byte s.big ∷ s.kind ∷ x ∷ get_or bytes 3 0 ∷ (bytes_of s.big w32 (u32_of s.big bytes 4) ++ (bytes_of s.big w32 (u32_of s.big bytes 8) ++ (bytes_of s.big w32 (u32_of s.big bytes 12) ++ rest)))) st.flags
    ∙ ap (λ (x : ℕ). order_byte s.big ∷ s.kind ∷ s.flags ∷ x ∷ (bytes_of s.big w32 (u32_of s.big bytes 4) ++ (bytes_of s.big w32 (u32_of s.big bytes 8) ++ (bytes_of s.big w32 (u32_of s.big bytes 12) ++ rest)))) st.version
    ∙ ap (λ (x : ℕ). order_byte s.big ∷ s.kind ∷ s.flags ∷ 1 ∷ (bytes_of s.big w32 x ++ (bytes_of s.big w32 (u32_of s.big bytes 8) ++ (bytes_of s.big w32 (u32_of s.big bytes 12) ++ rest)))) st.body
    ∙ ap (λ (x : ℕ). order_byte s.big ∷ s.kind ∷ s.flags ∷ 1 ∷ (bytes_of s.big w32 s.body ++ (bytes_of s.big w32 x ++ (bytes_of s.big w32 (u32_of s.big bytes 12) ++ rest)))) st.serial
    ∙ ap (λ (x : ℕ). order_byte s.big ∷ s.kind ∷ s.flags ∷ 1 ∷ (bytes_of s.big w32 s.body ++ (bytes_of s.big w32 s.serial ++ (bytes_of s.big w32 x ++ rest)))) st.fields

-- ---- the fields and the body

-- the fields and the body that were read
record BodyRead (big : Bool) (sig : List ℕ) (at : ℕ) (bytes : List ℕ) : Type 0 where
  trees : Trees
  fit : Each (FitsAs false 64) trees
  sig_is : sig ≡ types_of trees
  bytes_are : bytes ≡ padding (gap 8 at) ++ all_marshalled big (at + gap 8 at) trees

no_rest : (bytes : List ℕ) → eqb (length bytes) 0 ≡ true → bytes ≡ []
no_rest [] e = refl
no_rest (b ∷ bytes) e = let k : length (b ∷ bytes) ≡ 0 = eqb-true _ _ e in absurd (omega arith)

body_read : (big : Bool) (sig : List ℕ) (at : ℕ) (bytes : List ℕ) (x : ℕ × Spot) → IsBytes bytes → padded_body big sig at bytes ≡ Ok x → BodyRead big sig at bytes
unfolding padded_body body_at
body_read big sig at bytes x fits e =
    let b0 = bind_ok (pad 8 at bytes) (λ p. body_at big sig p.at p.rest >>= λ n. Ok (n, p)) x e in
    let p = b0.0 in
    let z = zeros_takes (gap 8 at) at bytes p b0.1 in
    let fits1 = IsBytes-rest (padding (gap 8 at)) p.rest (subst IsBytes z.0 fits) in
    let b1 = bind_ok (body_at big sig p.at p.rest) (λ n. Ok (n, p)) x b0.2 in
    let b2 = bind_ok (values_at 64 big sig p.at p.rest) (λ w. cond (eqb (length w.rest) 0) (Ok w.parts) (bad fault.Length w.at)) b1.0 b1.1 in
    let h = held_ok (eqb (length b2.0.rest) 0) (record { kind = fault.Length; at = b2.0.at }) (Ok b2.0.parts) b1.0 b2.2 in
    let r = row_found most_parts 64 most_parts 0 64 big sig p.at p.rest b2.0 (omega arith) refl fits1 b2.1 in
    let m = all_marshalled big (at + gap 8 at) r.trees in
    let same : all_marshalled big p.at r.trees ++ b2.0.rest ≡ m = ap (λ (y : List ℕ). all_marshalled big p.at r.trees ++ y) (no_rest b2.0.rest h.0) ∙ append-nil (all_marshalled big p.at r.trees) ∙ ap (λ (q : ℕ). all_marshalled big q r.trees) z.1 in
    record {
      trees = r.trees;
      fit = r.fit;
      sig_is = r.sig_is;
      bytes_are = z.0 ∙ ap (λ (y : List ℕ). padding (gap 8 at) ++ y) (r.bytes_are ∙ same);
    }

-- a message at the front of the bytes
pub record Found (bytes : List ℕ) : Type 0 where
  pub big : Bool
  pub message : Message
  pub is : IsMessage big message
  pub more : List ℕ
  pub split : bytes ≡ message_bytes big message ++ more

message_found : (s : Start) (bytes : List ℕ) (x : Header × (ℕ × Spot)) → IsBytes bytes → Started bytes s → total s ≤ length bytes → message_of s bytes ≡ Ok x → Found bytes
unfolding message_of first_bytes
message_found s bytes x fits st enough e =
    let R = drop 16 bytes in
    let inside = take s.fields R in
    let tail = take (gap 8 s.fields + s.body) (drop s.fields R) in
    let b0 = bind_ok (fields_at (length inside) s.big no_fields 16 inside) (λ h. cond (lacks s.kind h) (bad fault.Fields 12) (padded_body s.big (signature_of h) (16 + s.fields) tail >>= λ b. Ok (h, b))) x e in
    let h = b0.0 in
    let g = guard_ok (lacks s.kind h) (record { kind = fault.Fields; at = 12 }) (padded_body s.big (signature_of h) (16 + s.fields) tail >>= λ b. Ok (h, b)) x b0.2 in
    let b1 = bind_ok (padded_body s.big (signature_of h) (16 + s.fields) tail) (λ b. Ok (h, b)) x g.1 in
    let fitsR = IsBytes-drop 16 bytes fits in
    let f = fields_found (length inside) s.big no_fields 16 inside h (IsBytes-take s.fields R fitsR) b0.1 in
    let fits_tail = IsBytes-take (gap 8 s.fields + s.body) (drop s.fields R) (IsBytes-drop s.fields R fitsR) in
    let b = body_read s.big (signature_of h) (16 + s.fields) tail b1.0 fits_tail b1.1 in
    let lR : length R ≡ length bytes - 16 = length-drop 16 bytes in
    let long = st.long in
    let lF : length inside ≡ s.fields = omega (arith, length-take s.fields R) in
    let lT : length tail ≡ gap 8 s.fields + s.body = omega (arith, length-take (gap 8 s.fields + s.body) (drop s.fields R), length-drop s.fields R) in
    let more = drop (gap 8 s.fields + s.body) (drop s.fields R) in
    let restR : R ≡ inside ++ (tail ++ more) = sym (take-append-drop s.fields R) ∙ ap (λ (y : List ℕ). inside ++ y) (sym (take-append-drop (gap 8 s.fields + s.body) (drop s.fields R))) in
    let first = first_found s bytes fits st in
    let m : Message = record { kind = s.kind; flags = s.flags; serial = s.serial; fields = f.fields; body = b.trees } in
    let F = fields_bytes s.big 16 f.fields in
    let F_is : inside ≡ F = f.bytes_are in
    let lF' : s.fields ≡ length F = sym lF ∙ ap length F_is in
    let body = all_marshalled s.big (16 + length F + gap 8 (16 + length F)) b.trees in
    let tail_is : tail ≡ padding (gap 8 (16 + length F)) ++ body = b.bytes_are ∙ ap (λ (q : ℕ). padding (gap 8 (16 + q)) ++ all_marshalled s.big (16 + q + gap 8 (16 + q)) b.trees) lF' in
    let lB : s.body ≡ length body = omega (arith, ap length tail_is, lT, length-append (padding (gap 8 (16 + length F))) body, length-padding (gap 8 (16 + length F)), gap_16 (length F), ap (λ (q : ℕ). gap 8 q) lF') in
    let A = padding (gap 8 (16 + length F)) ++ body in
    let rest : R ≡ (F ++ A) ++ more = restR ∙ ap (λ (y : List ℕ). y ++ (tail ++ more)) F_is ∙ ap (λ (y : List ℕ). F ++ (y ++ more)) tail_is ∙ sym (append_assoc F A more) in
    let made : bytes ≡ first_bytes s.big s.kind s.flags (length body) s.serial (length F) ((F ++ A) ++ more) =
    first ∙ ap (λ (y : List ℕ). first_bytes s.big s.kind s.flags s.body s.serial s.fields y) rest ∙ ap (λ (q : ℕ). first_bytes s.big s.kind s.flags q s.serial s.fields ((F ++ A) ++ more)) lB ∙ ap (λ (q : ℕ). first_bytes s.big s.kind s.flags (length body) s.serial q ((F ++ A) ++ more)) lF' in
    let wa = bytes_of s.big w32 (length body) in
    let wb = bytes_of s.big w32 s.serial in
    let wc = bytes_of s.big w32 (length F) in
    let regroup : first_bytes s.big s.kind s.flags (length body) s.serial (length F) ((F ++ A) ++ more) ≡ message_bytes s.big m ++ more =
    sym (ap (λ (y : List ℕ). order_byte s.big ∷ s.kind ∷ s.flags ∷ 1 ∷ y) (append_assoc wa (wb ++ (wc ++ (F ++ A))) more ∙ ap (λ (y : List ℕ). wa ++ y) (append_assoc wb (wc ++ (F ++ A)) more ∙ ap (λ (y : List ℕ). wb ++ y) (append_assoc wc (F ++ A) more)))) in
    let size : length (message_bytes s.big m) ≡ 16 + (length F + gap 8 (length F)) + length body = omega (arith, length-first s.big s.kind s.flags (length body) s.serial (length F) (F ++ A), length-append F A, length-append (padding (gap 8 (16 + length F))) body, length-padding (gap 8 (16 + length F)), gap_16 (length F)) in
    let small : 16 + (length F + gap 8 (length F)) + length body ≤ MAX_MESSAGE = subst (λ (q : ℕ). 16 + (q + gap 8 q) + length body ≤ MAX_MESSAGE) lF' (subst (λ (q : ℕ). 16 + (s.fields + gap 8 s.fields) + q ≤ MAX_MESSAGE) lB st.small) in
    let kind_byte = fits 1 in
    let flags_byte = fits 2 in
    let serial_small : u32_of s.big bytes 8 < 2 ^ 32 = wide32.below s.big (take 4 (drop 8 bytes)) (IsBytes-take 4 (drop 8 bytes) (IsBytes-drop 8 bytes fits)) in
    record {
      big = s.big;
      message = m;
      is = record {
        kind = (st.kind_pos, omega (arith, st.kind, kind_byte));
        flags = omega (arith, st.flags, flags_byte);
        serial = (st.serial_pos, omega (arith, st.serial, serial_small));
        fields = f.are;
        needs = subst (λ (q : Header). lacks s.kind q ≡ false) f.header_is g.0;
        signature = ap signature_of (sym f.header_is) ∙ b.sig_is;
        body = b.fit;
        short = omega (arith, size, small);
      };
      more = more;
      split = made ∙ regroup;
    }

-- what is read whole is a message, which the answer shows
pub record MessageRead (bytes : List ℕ) (x : Seen) (used : ℕ) : Type 0 where
  pub message : Message
  pub form : WireForm (take used bytes) message
  pub shown_is : x ≡ shown_of message

whole_is : (x y : Seen) (m n : ℕ) → Whole x m ≡ Whole y n → (x ≡ y) × (m ≡ n)
whole_is x y m n e = (cc, cc)

found_read : (bytes : List ℕ) (x : Seen) (used : ℕ) → Found bytes → next_of bytes ≡ Whole x used → MessageRead bytes x used
found_read bytes x used f e =
    let again = read_again f.big f.message f.more f.is in
    let both = whole_is x (shown_of f.message) used (length (message_bytes f.big f.message)) (sym e ∙ ap next_of f.split ∙ again) in
    let front : take used bytes ≡ message_bytes f.big f.message = ap (λ (y : List ℕ). take used y) f.split ∙ take_at (message_bytes f.big f.message) f.more used (sym both.1) in
    record { message = f.message; form = record { big = f.big; is = f.is; bytes_are = front }; shown_is = both.0 }

pub whole_found : (bytes : List ℕ) (x : Seen) (used : ℕ) → IsBytes bytes → next_of bytes ≡ Whole x used → MessageRead bytes x used
whole_found bytes x used fits e = started (start_of bytes) refl e where
  partial : Partial ≡ Whole x used → ⊥
  partial h = cc

  faulty : (k : _) (n : ℕ) → Bad k n ≡ Whole x used → ⊥
  faulty k n h = cc

  read : (s : Start) → start_of bytes ≡ Ok s → total s ≤ length bytes → (r : Result (Header × (ℕ × Spot)) Fault) → message_of s bytes ≡ r → message_on s r ≡ Whole x used → MessageRead bytes x used
  read s is enough (Ok y) got h = found_read bytes x used (message_found s bytes y fits (start_found bytes s is) enough got) e
  read s is enough (Err f) got h = absurd (faulty f.kind f.at h)

  sized : (s : Start) → start_of bytes ≡ Ok s → (b : Bool) → ltb (length bytes) (total s) ≡ b → cond b Partial (message_on s (message_of s bytes)) ≡ Whole x used → MessageRead bytes x used
  sized s is true lt h = absurd (partial h)
  sized s is false lt h = read s is (ltb-false _ _ lt) (message_of s bytes) refl h

  started : (r : Result Start Stop) → start_of bytes ≡ r → start_on bytes r ≡ Whole x used → MessageRead bytes x used
  started (Err stop.Partial) is h = absurd (partial h)
  started (Err (stop.Bad f)) is h = absurd (faulty f.kind f.at h)
  started (Ok s) is h = sized s is (ltb (length bytes) (total s)) refl h

-- ---- streams

-- no message begins another
pub one_message : (a b x y : List ℕ) (m n : Message) → WireForm a m → WireForm b n → a ++ x ≡ b ++ y → (a ≡ b) × (shown_of m ≡ shown_of n)
one_message a b x y m n p q same =
    let one : next_of (a ++ x) ≡ Whole (shown_of m) (length a) = rw p.bytes_are (read_again p.big m x p.is) in
    let two : next_of (b ++ y) ≡ Whole (shown_of n) (length b) = rw q.bytes_are (read_again q.big n y q.is) in
    let both = whole_is (shown_of m) (shown_of n) (length a) (length b) (sym one ∙ ap next_of same ∙ two) in
    (sym (take_at a x (length a) refl) ∙ ap (λ (z : List ℕ). take (length a) z) same ∙ take_at b y (length a) (sym both.1), both.0)
