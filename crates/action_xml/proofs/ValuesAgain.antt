-- The value of an attribute that has the form is read again, whatever follows its quote.
use Rattle.std.proofs.Common.{◌≡◌, ◌≢◌, ◌⊎◌, ℕ, suc, ◌+◌, ◌-◌, ◌==◌, List, [], ◌∷◌, ◌++◌, length, true, false, Ok, refl, sym, ap, ◌∙◌, arith, append_assoc, append-nil, length-append, ⊎_elim, eq-eqb}
use Rattle.std.specs.Prelude.{if◌then◌else◌, ◌||◌}
use Rattle.std.proofs.lemmas.Bool.{ne_eqb}
use Rattle.pk_types.specs.Text.{IsText}
use Rattle.xml_pieces.specs.Reading.{malformed, On, Done, steps}
use Rattle.xml_pieces.specs.Texts.{value_step, quoted_value, value}
use Rattle.action_xml.specs.TextForm.{NoLf, Bit, Byte, CrLf, Cr, Refer, Note, bit_bytes, bits_bytes, bit_text, bits_text, IsValueBit, AreValueBits}
use Rattle.action_xml.proofs.TextsAgain.{reference_again, text_again, steps_first, steps_last, bits_long}

-- a quote
abbrev pub IsQuote : ℕ → Type 0
IsQuote quote = (quote ≡ 34) ⊎ (quote ≡ 39)

pub no_quote : (quote b : ℕ) → IsQuote quote → b ≢ 34 → b ≢ 39 → (b == quote) ≡ false
no_quote quote b is double single = ne_eqb b quote (λ same. ⊎_elim (λ q. double (same ∙ q)) (λ q. single (same ∙ q)) is)

value_bit_again : (place so rest : List ℕ) (quote : ℕ) (b : Bit) → IsQuote quote → IsValueBit quote b rest
    → value_step place quote (so, bit_bytes b ++ rest) ≡ Ok (On (so ++ bit_text b, rest))
unfolding value_step
value_bit_again place so rest quote (Byte b) q is = rw (ne_eqb b quote is.0, ne_eqb b 60 is.1.0, ne_eqb b 38 is.1.1, ne_eqb b 13 is.1.2) refl
value_bit_again place so rest quote CrLf q is = rw (no_quote quote 13 q (λ e. omega arith) (λ e. omega arith)) refl
value_bit_again place so [] quote Cr q is = rw (no_quote quote 13 q (λ e. omega arith) (λ e. omega arith)) refl
value_bit_again place so (c ∷ rest) quote Cr q is = rw (no_quote quote 13 q (λ e. omega arith) (λ e. omega arith), ne_eqb c 10 is) refl
value_bit_again place so rest quote (Refer body) q is =
    let e : (body ++ 59 ∷ []) ++ rest ≡ body ++ 59 ∷ rest = append_assoc body (59 ∷ []) rest in
    rw (no_quote quote 38 q (λ e. omega arith) (λ e. omega arith), e, reference_again body rest is) refl
value_bit_again place so rest quote (Note inside) q is = absurd is

-- a value is as many steps as it has pieces
value_bits_again : (place so rest : List ℕ) (quote : ℕ) (bits : List Bit) (n : ℕ) → IsQuote quote → AreValueBits quote bits rest
    → steps (value_step place quote) (length bits + n) (so, bits_bytes bits ++ rest) ≡ steps (value_step place quote) n (so ++ bits_text bits, rest)
value_bits_again place so rest quote [] n q are =
    let k : length {A = Bit} [] + n ≡ n = omega arith in
    ap (λ m. steps (value_step place quote) m (so, rest)) k ∙ ap (λ t. steps (value_step place quote) n (t, rest)) (sym (append-nil so))
value_bits_again place so rest quote (b ∷ bits) n q are =
    let tail : List ℕ = bits_bytes bits ++ rest in
    let k : length (b ∷ bits) + n ≡ suc (length bits + n) = omega arith in
    let e : (bit_bytes b ++ bits_bytes bits) ++ rest ≡ bit_bytes b ++ tail = append_assoc (bit_bytes b) (bits_bytes bits) rest in
    ap (λ m. steps (value_step place quote) m (so, (bit_bytes b ++ bits_bytes bits) ++ rest)) k
    ∙ ap (λ y. steps (value_step place quote) (suc (length bits + n)) (so, y)) e
    ∙ steps_first (value_step place quote) (length bits + n) (so, bit_bytes b ++ tail) (so ++ bit_text b, tail) (value_bit_again place so tail quote b q are.0)
    ∙ value_bits_again place (so ++ bit_text b) rest quote bits n q are.1
    ∙ ap (λ t. steps (value_step place quote) n (t, rest)) (append_assoc so (bit_text b) (bits_text bits))

-- the quote ends the value
value_last_again : (place so rest : List ℕ) (quote : ℕ) → IsText so → value_step place quote (so, quote ∷ rest) ≡ Ok (Done (so, rest))
unfolding value_step
value_last_again place so rest quote is = rw (eq-eqb quote quote refl, text_again place so is) refl

pub no_lf_before : (front : List ℕ) (c : ℕ) (rest more : List ℕ) → NoLf (front ++ c ∷ rest) → NoLf (front ++ c ∷ more)
no_lf_before [] c rest more none = none
no_lf_before (b ∷ front) c rest more none = none

value_bit_before : (quote : ℕ) (b : Bit) (front : List ℕ) (c : ℕ) (rest more : List ℕ) → IsValueBit quote b (front ++ c ∷ rest) → IsValueBit quote b (front ++ c ∷ more)
value_bit_before quote (Byte b) front c rest more is = is
value_bit_before quote CrLf front c rest more is = is
value_bit_before quote Cr front c rest more is = no_lf_before front c rest more is
value_bit_before quote (Refer body) front c rest more is = is
value_bit_before quote (Note inside) front c rest more is = is

-- what follows the byte behind the pieces doesn't matter
pub value_bits_before : (quote : ℕ) (bits : List Bit) (c : ℕ) (rest more : List ℕ) → AreValueBits quote bits (c ∷ rest) → AreValueBits quote bits (c ∷ more)
value_bits_before quote [] c rest more are = tt
value_bits_before quote (b ∷ bits) c rest more are = (value_bit_before quote b (bits_bytes bits) c rest more are.0, value_bits_before quote bits c rest more are.1)

-- a value behind its first quote
quoted_again : (place rest : List ℕ) (quote : ℕ) (bits : List Bit) → IsQuote quote → AreValueBits quote bits (quote ∷ rest) → IsText (bits_text bits)
    → quoted_value place quote (bits_bytes bits ++ quote ∷ rest) ≡ Ok (bits_text bits, rest)
unfolding quoted_value
quoted_again place rest quote bits q are is_text =
    let end : List ℕ = quote ∷ rest in
    let m : ℕ = length (bits_bytes bits ++ end) - (length bits + 1) in
    let k : length (bits_bytes bits ++ end) ≡ length bits + suc m = omega (arith, bits_long bits, length-append (bits_bytes bits) end) in
    ap (λ n. steps (value_step place quote) n ([], bits_bytes bits ++ end)) k
    ∙ value_bits_again place [] end quote bits (suc m) q are
    ∙ steps_last (value_step place quote) m (bits_text bits, end) (bits_text bits, rest) (value_last_again place (bits_text bits) rest quote is_text)

quote_test : (quote : ℕ) → IsQuote quote → (quote == 34 || quote == 39) ≡ true
quote_test quote is = ⊎_elim (λ (q : quote ≡ 34). ap (λ b. b == 34 || b == 39) q) (λ (q : quote ≡ 39). ap (λ b. b == 34 || b == 39) q) is

-- a value is read again, whatever follows
pub value_again : (place rest : List ℕ) (quote : ℕ) (bits : List Bit) → IsQuote quote → AreValueBits quote bits (quote ∷ []) → IsText (bits_text bits)
    → value place (quote ∷ (bits_bytes bits ++ quote ∷ rest)) ≡ Ok (bits_text bits, rest)
unfolding value
value_again place rest quote bits q are is_text =
    ap (λ t. if t then quoted_value place quote (bits_bytes bits ++ quote ∷ rest) else malformed place) (quote_test quote q)
    ∙ quoted_again place rest quote bits q (value_bits_before quote bits quote [] rest are) is_text
