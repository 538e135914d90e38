-- A message with the header fields of a check, and the arguments of one as its body.
use Rattle.std.proofs.Common.{◌≡◌, ℕ, ◌+◌, ◌-◌, ◌%◌, ◌<◌, ◌≤◌, ◌^◌, List, [], ◌∷◌, ◌++◌, length, take, false, refl, sym, ap, subst, ◌∙◌, arith, lit<, append_assoc, length-append}
use Rattle.std.specs.Int.{w32}
use Rattle.dbus_values.specs.Basics.{gap}
use Rattle.dbus_values.specs.Trees.{Trees, bytes_of, padding, all_marshalled}
use Rattle.dbus_values.specs.Form.{Message, fields_bytes, message_bytes, header_of, IsMessage, shown_of}
use Rattle.dbus_values.proofs.Numbers.{length-padding, wide32}
use Rattle.dbus_values.proofs.Whole.{gap_16}
use Rattle.std.proofs.lemmas.List.{take_at}
use Rattle.authority_model.specs.declared.event.Call.{Call}
use Rattle.authority_model.specs.declared.event.Event.TheVariants as event
use Rattle.authority_calls.specs.Events.{is_quiet, call_of}
use Rattle.usual_calls.specs.Forms.{AreArguments, IsBody}
use Rattle.usual_calls.specs.Headers.{AsksCheck, AreOfCheck, call_start}
use Rattle.usual_calls.specs.Nexts.{Asks}
use Rattle.usual_calls.proofs.Shifted.{all}

-- what such a message asks
asked : (m : Message) (said : Call) → AsksCheck (header_of m) → AreArguments said m.body → call_of (shown_of m) ≡ said
asked m said asks arguments = rw (asks.path, asks.method, arguments.types, arguments.read) refl

multiple : (n : ℕ) → (16 + n + gap 8 (16 + n)) % 8 ≡ 0
multiple n = omega arith

-- the body stands at a multiple of 8
body_at : (F : ℕ) (ts : Trees) → all_marshalled false (16 + F + gap 8 (16 + F)) ts ≡ all_marshalled false 0 ts
body_at F ts =
    let P = 16 + F + gap 8 (16 + F) in
    let k : P ≡ P + 0 = omega arith in
    ap (λ (q : ℕ). all_marshalled false q ts) k ∙ all false P (multiple F) ts 0

-- the bytes of the message, and what follows it
abbrev with_body : List ℕ → ℕ → ℕ → List ℕ → List ℕ
with_body fields flags serial body = call_start fields flags serial (length body) body

start_more : (fields : List ℕ) (flags serial size : ℕ) (body more : List ℕ) → call_start fields flags serial size (body ++ more) ≡ call_start fields flags serial size body ++ more
start_more fields flags serial size body more =
    let a = bytes_of false w32 size in
    let b = bytes_of false w32 serial in
    let c = bytes_of false w32 (length fields) in
    let p = padding (gap 8 (length fields)) in
    ap (λ (x : List ℕ). 108 ∷ 1 ∷ flags ∷ 1 ∷ x)
    (sym (append_assoc a (b ++ (c ++ (fields ++ (p ++ body)))) more ∙ ap (λ (x : List ℕ). a ++ x)
    (append_assoc b (c ++ (fields ++ (p ++ body))) more ∙ ap (λ (x : List ℕ). b ++ x)
    (append_assoc c (fields ++ (p ++ body)) more ∙ ap (λ (x : List ℕ). c ++ x)
    (append_assoc fields (p ++ body) more ∙ ap (λ (x : List ℕ). fields ++ x) (append_assoc p body more))))))

start_length : (fields : List ℕ) (flags serial size : ℕ) (rest : List ℕ) → length (call_start fields flags serial size rest) ≡ 16 + length fields + gap 8 (length fields) + length rest
start_length fields flags serial size rest =
    let a = bytes_of false w32 size in
    let b = bytes_of false w32 serial in
    let c = bytes_of false w32 (length fields) in
    let p = padding (gap 8 (length fields)) in
    omega (arith, length-append a (b ++ (c ++ (fields ++ (p ++ rest)))), length-append b (c ++ (fields ++ (p ++ rest))), length-append c (fields ++ (p ++ rest)), length-append fields (p ++ rest), length-append p rest, length-padding (gap 8 (length fields)), wide32.len false size, wide32.len false serial, wide32.len false (length fields))

pub more_shorter : (fields bytes body more : List ℕ) (flags serial size : ℕ) → bytes ≡ call_start fields flags serial size (body ++ more) → length more ≤ length bytes
more_shorter fields bytes body more flags serial size is = omega (arith, ap length is, start_length fields flags serial size (body ++ more), length-append body more)

bytes_are : (fields : List ℕ) (is : AreOfCheck fields) (flags serial : ℕ) (ts : Trees) → message_bytes false (record { kind = 1; flags = flags; serial = serial; fields = is.fields; body = ts }) ≡ with_body fields flags serial (all_marshalled false 0 ts)
bytes_are fields is flags serial ts =
    let f = fields_bytes false 16 is.fields in
    let place = ap (λ (x : List ℕ). 108 ∷ 1 ∷ flags ∷ 1 ∷ (bytes_of false w32 (length x) ++ (bytes_of false w32 serial ++ (bytes_of false w32 (length f) ++ (f ++ (padding (gap 8 (16 + length f)) ++ x)))))) (body_at (length f) ts) in
    let body = all_marshalled false 0 ts in
    let pad = ap (λ (g : ℕ). 108 ∷ 1 ∷ flags ∷ 1 ∷ (bytes_of false w32 (length body) ++ (bytes_of false w32 serial ++ (bytes_of false w32 (length f) ++ (f ++ (padding g ++ body)))))) (gap_16 (length f)) in
    place ∙ pad ∙ ap (λ (x : List ℕ). with_body x flags serial body) (sym is.are)

is_message : (fields : List ℕ) (is : AreOfCheck fields) (flags serial : ℕ) (ts : Trees) (said : Call) → length fields ≤ 4096 → flags < 256 → 0 < serial → serial < 2 ^ 32 → length (all_marshalled false 0 ts) ≤ 1000000 → AreArguments said ts
    → IsMessage false (record { kind = 1; flags = flags; serial = serial; fields = is.fields; body = ts })
is_message fields is flags serial ts said few small some low short arguments = record {
  kind = (lit< tt, lit< tt);
  flags = small;
  serial = (some, low);
  fields = is.form;
  needs = is.needs;
  signature = is.asks.signature ∙ sym arguments.types;
  body = arguments.fits;
  short = omega (arith, ap length (bytes_are fields is flags serial ts), start_length fields flags serial (length (all_marshalled false 0 ts)) (all_marshalled false 0 ts));
}

pub call_next : (fields : List ℕ) (is : AreOfCheck fields) (flags serial used : ℕ) (said : Call) (bytes body more : List ℕ) → length fields ≤ 4096 → flags < 256 → 0 < serial → serial < 2 ^ 32 → length body ≤ 1000000 → IsBody said body
    → bytes ≡ call_start fields flags serial (length body) (body ++ more) → used ≡ length bytes - length more → Asks bytes (event.Call serial (is_quiet flags) said) used
call_next fields is flags serial used said bytes body more few small some low short asked-body are used-is =
    let ts = asked-body.0 in
    let arguments : AreArguments said ts = asked-body.1 in
    let body-is : body ≡ all_marshalled false 0 ts = asked-body.2 in
    let m : Message = record { kind = 1; flags = flags; serial = serial; fields = is.fields; body = ts } in
    let form : IsMessage false m = is_message fields is flags serial ts said few small some low (subst (λ (b : List ℕ). length b ≤ 1000000) body-is short) arguments in
    let whole : bytes ≡ message_bytes false m ++ more = are ∙ start_more fields flags serial (length body) body more ∙ ap (λ (x : List ℕ). x ++ more) (ap (λ (b : List ℕ). with_body fields flags serial b) body-is ∙ sym (bytes_are fields is flags serial ts)) in
    let size : used ≡ length (message_bytes false m) = omega (arith, used-is, ap length whole, length-append (message_bytes false m) more) in
    let first : take used bytes ≡ message_bytes false m = ap (λ (x : List ℕ). take used x) whole ∙ take_at (message_bytes false m) more used (sym size) in
    record {
      message = shown_of m;
      form = (m, record { big = false; is = form; bytes_are = first }, refl);
      within = omega (arith, used-is);
      asks = ap (λ (c : Call). event.Call serial (is_quiet flags) c) (sym (asked m said is.asks arguments));
    }
