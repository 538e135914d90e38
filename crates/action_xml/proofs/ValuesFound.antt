-- The value of an attribute that is read has the form.
use Rattle.std.proofs.Common.{◌≡◌, ◌≢◌, ℕ, ◌==◌, List, [], ◌∷◌, ◌++◌, length, Bool, true, false, Ok, Err, Result, refl, sym, ap, ◌∙◌, subst, append_assoc, append-nil, inl, inr}
use Rattle.std.specs.Prelude.{if◌then◌else◌, ◌||◌}
use Rattle.pk_types.specs.Text.{IsText}
use Rattle.xml_pieces.specs.declared.fault.Fault.{Fault}
use Rattle.xml_pieces.specs.Reading.{◌>>=◌, malformed, On, Done}
use Rattle.xml_pieces.specs.References.{Reading, reference, with_text, with_reference}
use Rattle.xml_pieces.specs.Texts.{without_lf, with_plain, as_text, value_step, quoted_value, value}
use Rattle.action_xml.specs.TextForm.{Bit, Byte, CrLf, Cr, Refer, bit_bytes, bits_bytes, bit_text, bits_text, IsValueBit, AreValueBits}
use Rattle.action_xml.proofs.Steps.{ok, steps_found, not_on, not_done, on_same, done_same}
use Rattle.action_xml.proofs.TextsFound.{bind_ok, ok_is, eq_of, ne_of, reference_found, on, done, text_found}
use Rattle.action_xml.proofs.ValuesAgain.{IsQuote, value_bits_before}

-- a step in a value takes one piece
record OneValueBit (quote : ℕ) (so bytes : List ℕ) (t : Reading) : Type 0 where
  bit : Bit
  is : IsValueBit quote bit t.1
  bytes_are : bytes ≡ bit_bytes bit ++ t.1
  text : t.0 ≡ so ++ bit_text bit

bit_at : (quote : ℕ) (so bytes : List ℕ) (x t : Reading) (b : Bit) → x ≡ t → IsValueBit quote b x.1 → bytes ≡ bit_bytes b ++ x.1 → x.0 ≡ so ++ bit_text b → OneValueBit quote so bytes t
bit_at quote so bytes x t b same is split text = subst (OneValueBit quote so bytes) same (record { bit = b; is = is; bytes_are = split; text = text })

plain_found : (quote : ℕ) (so bytes : List ℕ) (b : ℕ) (t : Reading) → b ≢ quote → b ≢ 60 → b ≢ 38 → with_plain so b bytes ≡ t → OneValueBit quote so (b ∷ bytes) t
plain_found quote so bytes b t end lt amp e = of (b == 13) refl e
  where
    second : (bytes : List ℕ) → b ≡ 13 → (so ++ 10 ∷ [], without_lf bytes) ≡ t → OneValueBit quote so (b ∷ bytes) t
    second [] cr e = bit_at quote so (b ∷ []) (so ++ 10 ∷ [], []) t Cr e tt (ap (λ x. x ∷ []) cr) refl
    second (c ∷ bytes) cr e = lf (c == 10) refl e
      where
        lf : (u : Bool) → (c == 10) ≡ u → (so ++ 10 ∷ [], if u then bytes else c ∷ bytes) ≡ t → OneValueBit quote so (b ∷ c ∷ bytes) t
        lf true q e = bit_at quote so (b ∷ c ∷ bytes) (so ++ 10 ∷ [], bytes) t CrLf e tt (ap (λ x. x ∷ c ∷ bytes) cr ∙ ap (λ x. 13 ∷ x ∷ bytes) (eq_of c 10 q)) refl
        lf false q e = bit_at quote so (b ∷ c ∷ bytes) (so ++ 10 ∷ [], c ∷ bytes) t Cr e (ne_of c 10 q) (ap (λ x. x ∷ c ∷ bytes) cr) refl

    of : (u : Bool) → (b == 13) ≡ u → (so ++ (if u then 10 else b) ∷ [], if u then without_lf bytes else bytes) ≡ t → OneValueBit quote so (b ∷ bytes) t
    of true p e = second bytes (eq_of b 13 p) e
    of false p e = bit_at quote so (b ∷ bytes) (so ++ b ∷ [], bytes) t (Byte b) e (end, (lt, amp, ne_of b 13 p)) refl refl

with_found : (quote : ℕ) (so bytes : List ℕ) (t : Reading) → with_reference so (38 ∷ bytes) ≡ Ok t → OneValueBit quote so (38 ∷ bytes) t
with_found quote so bytes t e = of (reference (38 ∷ bytes)) refl e
  where
    of : (r : Result (List ℕ × List ℕ) Fault) → reference (38 ∷ bytes) ≡ r → with_text so r ≡ Ok t → OneValueBit quote so (38 ∷ bytes) t
    of (Ok x) is e =
        let f = reference_found bytes x is in
        bit_at quote so (38 ∷ bytes) (so ++ x.0, x.1) t (Refer f.body) (ok_is (so ++ x.0, x.1) t e) f.is
        (ap (λ r. 38 ∷ r) (f.bytes_are ∙ sym (append_assoc f.body (59 ∷ []) x.1))) (ap (λ w. so ++ w) f.text)
    of (Err d) is e = absurd cc

value_bit_found : (place : List ℕ) (quote : ℕ) (so bytes : List ℕ) (t : Reading) → value_step place quote (so, bytes) ≡ Ok (On t) → OneValueBit quote so bytes t
unfolding value_step
value_bit_found place quote so [] t e = absurd cc
value_bit_found place quote so (b ∷ bytes) t e = of (b == quote) (b == 60) (b == 38) refl refl refl e
  where
    of : (u v w : Bool) → (b == quote) ≡ u → (b == 60) ≡ v → (b == 38) ≡ w
        → (if u then (as_text place so >>= λ text. done (text, bytes)) else (if v then malformed (b ∷ bytes) else (if w then (with_reference so (b ∷ bytes) >>= λ r. on r) else on (with_plain so b bytes)))) ≡ Ok (On t)
        → OneValueBit quote so (b ∷ bytes) t
    of true v w p q r e = let d = bind_ok (as_text place so) (λ text. done (text, bytes)) (On t) e in absurd (not_on (d.0, bytes) t d.2)
    of false true w p q r e = absurd cc
    of false false true p q r e =
        let same : b ≡ 38 = eq_of b 38 r in
        let d = bind_ok (with_reference so (b ∷ bytes)) (λ r. on r) (On t) e in
        let f : with_reference so (38 ∷ bytes) ≡ Ok t = ap (λ c. with_reference so (c ∷ bytes)) (sym same) ∙ d.1 ∙ ap ok (on_same d.0 t d.2) in
        subst (λ c. OneValueBit quote so (c ∷ bytes) t) (sym same) (with_found quote so bytes t f)
    of false false false p q r e = plain_found quote so bytes b t (ne_of b quote p) (ne_of b 60 q) (ne_of b 38 r) (on_same (with_plain so b bytes) t e)

-- the last step: the quote ends the value
record ValueEnd (quote : ℕ) (so bytes : List ℕ) (x : Reading) : Type 0 where
  bytes_are : bytes ≡ quote ∷ x.1
  text : x.0 ≡ so
  is_text : IsText so

value_end_found : (place : List ℕ) (quote : ℕ) (so bytes : List ℕ) (x : Reading) → value_step place quote (so, bytes) ≡ Ok (Done x) → ValueEnd quote so bytes x
unfolding value_step
value_end_found place quote so [] x e = absurd cc
value_end_found place quote so (b ∷ bytes) x e = of (b == quote) (b == 60) (b == 38) refl e
  where
    of : (u v w : Bool) → (b == quote) ≡ u
        → (if u then (as_text place so >>= λ text. done (text, bytes)) else (if v then malformed (b ∷ bytes) else (if w then (with_reference so (b ∷ bytes) >>= λ r. on r) else on (with_plain so b bytes)))) ≡ Ok (Done x)
        → ValueEnd quote so (b ∷ bytes) x
    of true v w p e =
        let d = bind_ok (as_text place so) (λ text. done (text, bytes)) (Done x) e in
        let t = text_found place so d.0 d.1 in
        subst (ValueEnd quote so (b ∷ bytes)) (done_same (d.0, bytes) x d.2) (record { bytes_are = ap (λ c. c ∷ bytes) (eq_of b quote p); text = sym t.1; is_text = t.0 })
    of false true w p e = absurd cc
    of false false true p e = let d = bind_ok (with_reference so (b ∷ bytes)) (λ r. on r) (Done x) e in absurd (not_done x d.0 d.2)
    of false false false p e = absurd (not_done x (with_plain so b bytes) e)

-- a value behind its first quote
pub record WholeValue (quote : ℕ) (so bytes : List ℕ) (x : Reading) : Type 0 where
  pub bits : List Bit
  pub are : AreValueBits quote bits (quote ∷ x.1)
  pub bytes_are : bytes ≡ bits_bytes bits ++ quote ∷ x.1
  pub text : x.0 ≡ so ++ bits_text bits
  pub is_text : IsText x.0

value_first : (quote : ℕ) (so bytes : List ℕ) (t x : Reading) → OneValueBit quote so bytes t → WholeValue quote t.0 t.1 x → WholeValue quote so bytes x
value_first quote so bytes t x one more = record {
  bits = one.bit ∷ more.bits;
  are = (subst (IsValueBit quote one.bit) more.bytes_are one.is, more.are);
  bytes_are = one.bytes_are ∙ ap (λ r. bit_bytes one.bit ++ r) more.bytes_are ∙ sym (append_assoc (bit_bytes one.bit) (bits_bytes more.bits) (quote ∷ x.1));
  text = more.text ∙ ap (λ w. w ++ bits_text more.bits) one.text ∙ append_assoc so (bit_text one.bit) (bits_text more.bits);
  is_text = more.is_text;
}

value_last : (quote : ℕ) (so bytes : List ℕ) (x : Reading) → ValueEnd quote so bytes x → WholeValue quote so bytes x
value_last quote so bytes x end = record {
  bits = [];
  are = tt;
  bytes_are = end.bytes_are;
  text = end.text ∙ sym (append-nil so);
  is_text = subst IsText (sym end.text) end.is_text;
}

quoted_found : (place : List ℕ) (quote : ℕ) (bytes : List ℕ) (x : Reading) → quoted_value place quote bytes ≡ Ok x → WholeValue quote [] bytes x
unfolding quoted_value
quoted_found place quote bytes x e = steps_found (value_step place quote) (λ s y. WholeValue quote s.0 s.1 y)
    (λ s y last. value_last quote s.0 s.1 y (value_end_found place quote s.0 s.1 y last))
    (λ s t y step more. value_first quote s.0 s.1 t y (value_bit_found place quote s.0 s.1 t step) more)
    (length bytes) ([], bytes) x e

-- a value with its quotes
pub record QuotedValue (bytes : List ℕ) (x : Reading) : Type 0 where
  pub quote : ℕ
  pub is_quote : IsQuote quote
  pub bits : List Bit
  pub are : AreValueBits quote bits (quote ∷ [])
  pub bytes_are : bytes ≡ quote ∷ (bits_bytes bits ++ quote ∷ x.1)
  pub text : x.0 ≡ bits_text bits
  pub is_text : IsText x.0

pub value_found : (place bytes : List ℕ) (x : Reading) → value place bytes ≡ Ok x → QuotedValue bytes x
unfolding value
value_found place [] x e = absurd cc
value_found place (q ∷ bytes) x e = of (q == 34) (q == 39) refl refl e
  where
    with : IsQuote q → quoted_value place q bytes ≡ Ok x → QuotedValue (q ∷ bytes) x
    with is e =
        let f = quoted_found place q bytes x e in
        record {
          quote = q;
          is_quote = is;
          bits = f.bits;
          are = value_bits_before q f.bits q x.1 [] f.are;
          bytes_are = ap (λ r. q ∷ r) f.bytes_are;
          text = f.text;
          is_text = f.is_text;
        }

    of : (u v : Bool) → (q == 34) ≡ u → (q == 39) ≡ v → (if u || v then quoted_value place q bytes else malformed place) ≡ Ok x → QuotedValue (q ∷ bytes) x
    of true v p r e = with (inl (eq_of q 34 p)) e
    of false true p r e = with (inr (eq_of q 39 r)) e
    of false false p r e = absurd cc
