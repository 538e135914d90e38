-- A message that was marshalled is read again, whatever follows it.
use Rattle.std.proofs.Common.{◌≡◌, ℕ, ◌+◌, ◌<◌, ◌≤◌, ◌^◌, List, [], ◌∷◌, ◌++◌, length, get_or, take, drop, Bool, true, false, eqb, ltb, Ok, refl, sym, ap, subst, ◌∙◌, arith, append_assoc}
use Rattle.std.specs.Int.{w32}
use Rattle.std.proofs.lemmas.Bool.{le-ltb}
use Rattle.std.proofs.lemmas.List.{take_at, drop_at, length-append, append-nil}
use Rattle.dbus_values.specs.declared.codes.TheConstants.{MAX_BODY, MAX_MESSAGE}
use Rattle.dbus_values.specs.Reading.{Spot, spot_at}
use Rattle.dbus_values.specs.Parts.{Piece}
use Rattle.dbus_values.specs.Basics.{gap}
use Rattle.dbus_values.specs.Walk.{state, parts, values_at, walked}
use Rattle.dbus_values.specs.Header.{Header, no_fields, fields_at, lacks}
use Rattle.dbus_values.specs.Messages.{Start, u32_of, total, order_of, kind_of, flags_of, body_of, serial_of, fields_of, start_of, body_at, padded_body, signature_of, message_of}
use Rattle.dbus_values.specs.Next.{Seen, shown, Whole, next_of}
use Rattle.dbus_values.specs.Trees.{Trees, types_of, bytes_of, padding, all_marshalled, all_pieces, FitsAs, Each}
use Rattle.dbus_values.specs.Form.{Message, fields_bytes, order_byte, message_bytes, header_of, IsMessage, shown_of}
use Rattle.dbus_values.proofs.Loops.{not_zero}
use Rattle.dbus_values.proofs.Numbers.{length-padding, zeros_again, wide32}
use Rattle.dbus_values.proofs.Walking.{Walks, walks_parts, values_walk}
use Rattle.dbus_values.proofs.Counting.{values_again}
use Rattle.dbus_values.proofs.HeaderFields.{fields_again}

-- ---- the first 16 bytes

u32_again : (big : Bool) (front : List ℕ) (n : ℕ) (rest : List ℕ) (at : ℕ) → length front ≡ at → n < 2 ^ 32 → u32_of big (front ++ (bytes_of big w32 n ++ rest)) at ≡ n
u32_again big front n rest at len lt =
    rw (drop_at front (bytes_of big w32 n ++ rest) at len, take_at (bytes_of big w32 n) rest 4 (wide32.len big n)) (wide32.again big n lt)

order_is : (big : Bool) (bytes : List ℕ) → 16 ≤ length bytes → get_or bytes 0 0 ≡ order_byte big → order_of bytes ≡ Ok big
unfolding order_of
order_is true bytes le is = let e : ltb (length bytes) 1 ≡ false = le-ltb _ _ (omega arith) in rw (e, is) refl
order_is false bytes le is = let e : ltb (length bytes) 1 ≡ false = le-ltb _ _ (omega arith) in rw (e, is) refl

kind_is : (bytes : List ℕ) (kind : ℕ) → 16 ≤ length bytes → get_or bytes 1 0 ≡ kind → 0 < kind → kind_of bytes ≡ Ok kind
unfolding kind_of
kind_is bytes kind le is pos =
    let e : ltb (length bytes) 2 ≡ false = le-ltb _ _ (omega arith) in
    let some : eqb kind 0 ≡ false = not_zero kind (omega arith) in
    rw (e, is, some) refl

flags_is : (bytes : List ℕ) (flags : ℕ) → 16 ≤ length bytes → get_or bytes 2 0 ≡ flags → get_or bytes 3 0 ≡ 1 → flags_of bytes ≡ Ok flags
unfolding flags_of
flags_is bytes flags le is version =
    let e : ltb (length bytes) 4 ≡ false = le-ltb _ _ (omega arith) in
    rw (e, version, is) refl

body_is : (big : Bool) (bytes : List ℕ) (n : ℕ) → 16 ≤ length bytes → u32_of big bytes 4 ≡ n → n ≤ MAX_BODY → body_of big bytes ≡ Ok n
unfolding body_of
body_is big bytes n le is small =
    let e : ltb (length bytes) 8 ≡ false = le-ltb _ _ (omega arith) in
    let s : ltb MAX_BODY n ≡ false = le-ltb _ _ small in
    rw (e, is, s) refl

serial_is : (big : Bool) (bytes : List ℕ) (n : ℕ) → 16 ≤ length bytes → u32_of big bytes 8 ≡ n → 0 < n → serial_of big bytes ≡ Ok n
unfolding serial_of
serial_is big bytes n le is pos =
    let e : ltb (length bytes) 12 ≡ false = le-ltb _ _ (omega arith) in
    let some : eqb n 0 ≡ false = not_zero n (omega arith) in
    rw (e, is, some) refl

fields_is : (big : Bool) (body : ℕ) (bytes : List ℕ) (n : ℕ) → 16 ≤ length bytes → u32_of big bytes 12 ≡ n → 16 + (n + gap 8 n) + body ≤ MAX_MESSAGE → fields_of big body bytes ≡ Ok n
unfolding fields_of
fields_is big body bytes n le is small =
    let e : ltb (length bytes) 16 ≡ false = le-ltb _ _ (omega arith) in
    let s : ltb MAX_MESSAGE (16 + (n + gap 8 n) + body) ≡ false = le-ltb _ _ small in
    rw (e, is, s) refl

start_is : (s : Start) (bytes : List ℕ) → order_of bytes ≡ Ok s.big → kind_of bytes ≡ Ok s.kind → flags_of bytes ≡ Ok s.flags → body_of s.big bytes ≡ Ok s.body → serial_of s.big bytes ≡ Ok s.serial → fields_of s.big s.body bytes ≡ Ok s.fields → start_of bytes ≡ Ok s
unfolding start_of
start_is s bytes order kind flags body serial fields = rw (order, kind, flags, body, serial, fields) refl

-- the first bytes, and what follows them
unfoldable pub first_bytes : Bool → ℕ → ℕ → ℕ → ℕ → ℕ → List ℕ → List ℕ
first_bytes big kind flags body serial fields rest = order_byte big ∷ kind ∷ flags ∷ 1 ∷ (bytes_of big w32 body ++ (bytes_of big w32 serial ++ (bytes_of big w32 fields ++ rest)))

pub length-first : (big : Bool) (kind flags body serial fields : ℕ) (rest : List ℕ) → length (first_bytes big kind flags body serial fields rest) ≡ 16 + length rest
unfolding first_bytes
length-first big kind flags body serial fields rest =
    let a = bytes_of big w32 body in
    let b = bytes_of big w32 serial in
    let c = bytes_of big w32 fields in
    omega (arith, length-append a (b ++ (c ++ rest)), length-append b (c ++ rest), length-append c rest, wide32.len big body, wide32.len big serial, wide32.len big fields)

pub first_rest : (big : Bool) (kind flags body serial fields : ℕ) (rest : List ℕ) → drop 16 (first_bytes big kind flags body serial fields rest) ≡ rest
unfolding first_bytes
first_rest big kind flags body serial fields rest =
    let a = order_byte big ∷ kind ∷ flags ∷ 1 ∷ bytes_of big w32 body in
    let b = bytes_of big w32 serial in
    let c = bytes_of big w32 fields in
    let r : order_byte big ∷ kind ∷ flags ∷ 1 ∷ (bytes_of big w32 body ++ (b ++ (c ++ rest))) ≡ ((a ++ b) ++ c) ++ rest = sym (append_assoc a b (c ++ rest)) ∙ sym (append_assoc (a ++ b) c rest) in
    let len : length ((a ++ b) ++ c) ≡ 16 = omega (arith, length-append (a ++ b) c, length-append a b, wide32.len big body, wide32.len big serial, wide32.len big fields) in
    ap (λ (x : List ℕ). drop 16 x) r ∙ drop_at ((a ++ b) ++ c) rest 16 len

pub start_again : (big : Bool) (kind flags body serial fields : ℕ) (rest : List ℕ) → 0 < kind → 0 < serial → serial < 2 ^ 32 → 16 + (fields + gap 8 fields) + body ≤ MAX_MESSAGE
    → start_of (first_bytes big kind flags body serial fields rest) ≡ Ok (record { big = big; kind = kind; flags = flags; body = body; serial = serial; fields = fields })
unfolding first_bytes
start_again big kind flags body serial fields rest kind_pos serial_pos serial_lt small =
    let bytes = first_bytes big kind flags body serial fields rest in
    let le : 16 ≤ length bytes = omega (arith, length-first big kind flags body serial fields rest) in
    let a = order_byte big ∷ kind ∷ flags ∷ 1 ∷ [] in
    let b = bytes_of big w32 body in
    let c = bytes_of big w32 serial in
    let d = bytes_of big w32 fields in
    let e4 : u32_of big bytes 4 ≡ body = u32_again big a body (c ++ (d ++ rest)) 4 refl (omega arith) in
    let r8 : bytes ≡ (a ++ b) ++ (c ++ (d ++ rest)) = sym (append_assoc a b (c ++ (d ++ rest))) in
    let l8 : length (a ++ b) ≡ 8 = omega (arith, length-append a b, wide32.len big body) in
    let e8 : u32_of big bytes 8 ≡ serial = ap (λ (x : List ℕ). u32_of big x 8) r8 ∙ u32_again big (a ++ b) serial (d ++ rest) 8 l8 serial_lt in
    let r12 : bytes ≡ ((a ++ b) ++ c) ++ (d ++ rest) = r8 ∙ sym (append_assoc (a ++ b) c (d ++ rest)) in
    let l12 : length ((a ++ b) ++ c) ≡ 12 = omega (arith, length-append (a ++ b) c, l8, wide32.len big serial) in
    let e12 : u32_of big bytes 12 ≡ fields = ap (λ (x : List ℕ). u32_of big x 12) r12 ∙ u32_again big ((a ++ b) ++ c) fields rest 12 l12 (omega arith) in
    start_is (record { big = big; kind = kind; flags = flags; body = body; serial = serial; fields = fields }) bytes (order_is big bytes le refl) (kind_is bytes kind le refl kind_pos) (flags_is bytes flags le refl refl)
    (body_is big bytes body le e4 (omega arith)) (serial_is big bytes serial le e8 serial_pos) (fields_is big body bytes fields le e12 small)

-- ---- the fields and the body

pub gap_16 : (n : ℕ) → gap 8 (16 + n) ≡ gap 8 n
gap_16 n = omega arith

body_again : (big : Bool) (ts : Trees) (at : ℕ) → Each (FitsAs false 64) ts → length (all_marshalled big at ts) ≤ MAX_MESSAGE → body_at big (types_of ts) at (all_marshalled big at ts) ≡ Ok (length (all_pieces ts))
unfolding body_at
body_again big ts at each short =
    let m = all_marshalled big at ts in
    let all : values_at 64 big (types_of ts) at m ≡ Ok (walked (length (all_pieces ts)) (spot_at (at + length m) [])) = subst (λ (x : List ℕ). values_at 64 big (types_of ts) at x ≡ Ok (walked (length (all_pieces ts)) (spot_at (at + length m) []))) (append-nil m) (values_again 64 big ts at [] (omega arith) each short) in
    rw all refl

padded_again : (big : Bool) (ts : Trees) (at : ℕ) → Each (FitsAs false 64) ts → length (all_marshalled big (at + gap 8 at) ts) ≤ MAX_MESSAGE
    → padded_body big (types_of ts) at (padding (gap 8 at) ++ all_marshalled big (at + gap 8 at) ts) ≡ Ok (length (all_pieces ts), spot_at (at + gap 8 at) (all_marshalled big (at + gap 8 at) ts))
unfolding padded_body
padded_again big ts at each short = rw (zeros_again (gap 8 at) at (all_marshalled big (at + gap 8 at) ts), body_again big ts (at + gap 8 at) each short) refl

-- the parts of a body
pub body_parts : (big : Bool) (ts : Trees) (at : ℕ) → Each (FitsAs false 64) ts → length (all_marshalled big at ts) < 2 ^ 32 → parts (length (all_pieces ts)) 64 big (state [] (types_of ts) at (all_marshalled big at ts)) ≡ all_pieces ts
body_parts big ts at each short =
    let m = all_marshalled big at ts in
    let path = values_walk 64 64 big ts each (omega arith) [] [] at short in
    let path1 : Walks 64 big (state [] (types_of ts) at (m ++ [])) (all_pieces ts) (state [] [] (at + length m) []) = subst (λ (s : List ℕ). Walks 64 big (state [] s at (m ++ [])) (all_pieces ts) (state [] [] (at + length m) [])) (append-nil (types_of ts)) path in
    let path2 : Walks 64 big (state [] (types_of ts) at m) (all_pieces ts) (state [] [] (at + length m) []) = subst (λ (x : List ℕ). Walks 64 big (state [] (types_of ts) at x) (all_pieces ts) (state [] [] (at + length m) [])) (append-nil m) path1 in
    walks_parts 64 big (state [] (types_of ts) at m) (state [] [] (at + length m) []) (all_pieces ts) path2

message_again : (s : Start) (bytes fields tail more : List ℕ) (h : Header) (n : ℕ) (p : Spot) → drop 16 bytes ≡ fields ++ (tail ++ more) → length fields ≡ s.fields → length tail ≡ gap 8 s.fields + s.body
    → fields_at (length fields) s.big no_fields 16 fields ≡ Ok h → lacks s.kind h ≡ false → padded_body s.big (signature_of h) (16 + length fields) tail ≡ Ok (n, p) → message_of s bytes ≡ Ok (h, (n, p))
unfolding message_of
message_again s bytes fields tail more h n p rest len len2 read needs body =
    let inside : take s.fields (drop 16 bytes) ≡ fields = ap (λ (x : List ℕ). take s.fields x) rest ∙ take_at fields (tail ++ more) s.fields len in
    let behind : drop s.fields (drop 16 bytes) ≡ tail ++ more = ap (λ (x : List ℕ). drop s.fields x) rest ∙ drop_at fields (tail ++ more) s.fields len in
    let outside : take (gap 8 s.fields + s.body) (drop s.fields (drop 16 bytes)) ≡ tail = ap (λ (x : List ℕ). take (gap 8 s.fields + s.body) x) behind ∙ take_at tail more (gap 8 s.fields + s.body) len2 in
    let body' : padded_body s.big (signature_of h) (16 + s.fields) tail ≡ Ok (n, p) = subst (λ (q : ℕ). padded_body s.big (signature_of h) (16 + q) tail ≡ Ok (n, p)) len body in
    rw (inside, outside, read, needs, body') refl

pub read_again : (big : Bool) (m : Message) (more : List ℕ) → IsMessage big m → next_of (message_bytes big m ++ more) ≡ Whole (shown_of m) (length (message_bytes big m))
unfolding first_bytes
read_again big m more is =
    let fields = fields_bytes big 16 m.fields in
    let F = length fields in
    let P = 16 + F + gap 8 (16 + F) in
    let body = all_marshalled big P m.body in
    let L = length body in
    let tail = padding (gap 8 (16 + F)) ++ body in
    let lt : length tail ≡ gap 8 (16 + F) + L = omega (arith, length-append (padding (gap 8 (16 + F))) body, length-padding (gap 8 (16 + F))) in
    let lf : length (fields ++ tail) ≡ F + length tail = length-append fields tail in
    let whole : length (message_bytes big m) ≡ 16 + (F + gap 8 F) + L = omega (arith, length-first big m.kind m.flags L m.serial F (fields ++ tail), lt, lf, gap_16 F) in
    let short = is.short in
    let small : 16 + (F + gap 8 F) + L ≤ MAX_MESSAGE = omega (arith, whole) in
    let bytes = message_bytes big m ++ more in
    let a = bytes_of big w32 L in
    let b = bytes_of big w32 m.serial in
    let c = bytes_of big w32 F in
    let regroup : bytes ≡ first_bytes big m.kind m.flags L m.serial F (fields ++ (tail ++ more)) =
    ap (λ (x : List ℕ). order_byte big ∷ m.kind ∷ m.flags ∷ 1 ∷ x) (append_assoc a (b ++ (c ++ (fields ++ tail))) more ∙ ap (λ (x : List ℕ). a ++ x) (append_assoc b (c ++ (fields ++ tail)) more ∙ ap (λ (x : List ℕ). b ++ x) (append_assoc c (fields ++ tail) more ∙ ap (λ (x : List ℕ). c ++ x) (append_assoc fields tail more)))) in
    let s : Start = record { big = big; kind = m.kind; flags = m.flags; body = L; serial = m.serial; fields = F } in
    let started : start_of bytes ≡ Ok s = ap start_of regroup ∙ start_again big m.kind m.flags L m.serial F (fields ++ (tail ++ more)) is.kind.0 is.serial.0 is.serial.1 small in
    let rest : drop 16 bytes ≡ fields ++ (tail ++ more) = ap (λ (x : List ℕ). drop 16 x) regroup ∙ first_rest big m.kind m.flags L m.serial F (fields ++ (tail ++ more)) in
    let h = header_of m in
    let read = fields_again F big no_fields 16 m.fields is.fields (omega arith) (omega (arith, small)) in
    let padded : padded_body big (types_of m.body) (16 + F) tail ≡ Ok (length (all_pieces m.body), spot_at P body) = padded_again big m.body (16 + F) is.body (omega (arith, small)) in
    let padded' : padded_body big (signature_of h) (16 + F) tail ≡ Ok (length (all_pieces m.body), spot_at P body) = subst (λ (x : List ℕ). padded_body big x (16 + F) tail ≡ Ok (length (all_pieces m.body), spot_at P body)) (sym is.signature) padded in
    let all = message_again s bytes fields tail more h (length (all_pieces m.body)) (spot_at P body) rest refl (omega (arith, lt, gap_16 F)) read is.needs padded' in
    let enough : ltb (length bytes) (total s) ≡ false = le-ltb _ _ (omega (arith, length-append (message_bytes big m) more, whole)) in
    let parts_are = body_parts big m.body P is.body (omega (arith, small)) in
    let shown_is : shown s h (length (all_pieces m.body)) (spot_at P body) ≡ shown_of m =
    ap (λ (x : List ℕ). look big m h (length (all_pieces m.body)) P body x) is.signature ∙ ap (λ (x : List Piece). looks m h x) parts_are in
    rw (started, enough, all, ← whole) (ap (λ (x : Seen). Whole x (length (message_bytes big m))) shown_is) where
      look : Bool → Message → Header → ℕ → ℕ → List ℕ → List ℕ → Seen
      look big m h n P body sig = record { kind = m.kind; flags = m.flags; serial = m.serial; path = h.path; interface = h.interface; member = h.member; error_name = h.error_name; reply_serial = h.reply_serial; signature = sig; parts = parts n 64 big (state [] sig P body) }

      looks : Message → Header → List Piece → Seen
      looks m h ps = record { kind = m.kind; flags = m.flags; serial = m.serial; path = h.path; interface = h.interface; member = h.member; error_name = h.error_name; reply_serial = h.reply_serial; signature = types_of m.body; parts = ps }
