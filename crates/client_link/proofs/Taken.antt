-- A message is taken from the front of the bytes.
use Rattle.std.proofs.Common.{◌≡◌, ◌+◌, ◌<◌, ◌≤◌, ℕ, Bool, List, [], ◌∷◌, ◌++◌, length, take, drop, refl, sym, ap, subst, ◌∙◌, arith}
use Rattle.std.proofs.lemmas.List.{drop_all, length-append, take-append-drop}
use Rattle.dbus_values.specs.declared.fault.FaultKind.{FaultKind}
use Rattle.dbus_values.specs.Form.{Message, message_bytes}
use Rattle.dbus_values.specs.Next.{Bad, Partial, Seen, Whole, next_of}
use Rattle.dbus_values.specs.Streams.{IsForm}
use Rattle.client_link.specs.Messages.{BeginsWhole, IsTaken}

-- a message has bytes
message_some : (big : Bool) (m : Message) → 0 < length (message_bytes big m)
message_some big m = omega arith

pub form_some : (text : List ℕ) (m : Seen) → IsForm text m → 0 < length text
form_some text m form = subst (λ (b : List ℕ). 0 < length b) (sym form.1.bytes_are) (message_some form.1.big form.0)

-- so fewer bytes are left behind it
pub left_fewer : (bytes : List ℕ) (used : ℕ) (m : Seen) → IsForm (take used bytes) m → length (drop used bytes) < length bytes
left_fewer bytes used m form =
    let some = form_some (take used bytes) m form in
    let all : length (take used bytes ++ drop used bytes) ≡ length bytes = ap (λ (b : List ℕ). length b) (take-append-drop used bytes) in
    omega (arith, some, all, length-append (take used bytes) (drop used bytes))

-- the message of so many bytes was taken, and this is what it tells
pub taken : {A : Type 0} (tells : Seen → A) (all bytes rest : List ℕ) (used : ℕ) (m : Seen) (told : A) → bytes ≡ all → IsForm (take used bytes) m → rest ≡ drop used bytes → told ≡ tells m → IsTaken tells all rest told
taken tells all bytes rest used m told same form left is = record {
  message = m;
  text = take used bytes;
  form = form;
  cut = sym same ∙ sym (take-append-drop used bytes) ∙ ap (λ r. take used bytes ++ r) (sym left);
  told_is = is;
}

-- bytes that begin with a whole message do not begin with less, nor with a fault
pub not_partial : (bytes other : List ℕ) → BeginsWhole bytes → other ≡ bytes → Partial ≡ next_of other → ⊥
not_partial bytes other w same partial = no w.message w.used (partial ∙ ap next_of same ∙ w.whole)
  where
    no : (m : Seen) (used : ℕ) → Partial ≡ Whole m used → ⊥
    no m used e = cc

pub not_bad : (bytes other : List ℕ) (kind : FaultKind) (at : ℕ) → BeginsWhole bytes → other ≡ bytes → Bad kind at ≡ next_of other → ⊥
not_bad bytes other kind at w same bad = no w.message w.used (bad ∙ ap next_of same ∙ w.whole)
  where
    no : (m : Seen) (used : ℕ) → Bad kind at ≡ Whole m used → ⊥
    no m used e = cc

-- all of the bytes were taken
pub all_taken : (bytes other rest : List ℕ) → other ≡ bytes → rest ≡ drop (length other) bytes → rest ≡ []
all_taken bytes other rest same left = left ∙ drop_all (length other) bytes (omega (arith, ap (λ (b : List ℕ). length b) same))
