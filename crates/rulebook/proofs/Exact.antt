-- An exact glob stands for itself alone.
use Rattle.std.proofs.Common.{◌≡◌, ℕ, zero, suc, ◌≤◌, ◌<◌, ◌==◌, Bool, true, false, true≢false, not, ◌&&◌, ◌||◌, List, [], ◌∷◌, ◌++◌, length, take, Option, Some, None, refl, sym, ap, ◌∙◌, subst, ◌⊎◌, inl, inr, arith, bytes_eq}
use Rattle.std.specs.Prelude.{if◌then◌else◌}
use Rattle.std.specs.List.{list_any}
use Rattle.std.specs.Str.{IsUtf8, chars, is_utf8}
use Rattle.std.specs.Str.Lossy.{utf8_valid_len, valid_len_up_to}
use Rattle.std.proofs.lemmas.Bool.Decides.{Decides-eqb, nat_tests}
use Rattle.std.proofs.lemmas.List.{take_all}
use Rattle.std.proofs.lemmas.Slice.Eq.{bytes_eq-Decides}
use Rattle.std.proofs.lemmas.Str.{IsUtf8-nil, IsUtf8-from_is_utf8, utf8_valid_len_le, encodes-chars, encode_ascii}
use Rattle.std.specs.Prelude.{encode_utf8, encode_utf8_all}
use Rattle.pk_types.specs.Text.{IsText, text_bad, place_or_end, bad_byte_fault}
use Rattle.pk_types.specs.declared.text.TextFault.{TextFault}
use Rattle.glob_match.specs.Glob.{glob, some_suffix, first_is, matches}
use Rattle.authority_model.specs.Words.{Bytes}
use Rattle.rulebook.specs.Indexes.{is_wild, is_exact}

-- both of two facts that hold together
pub both : (a b : Bool) → (a && b) ≡ true → (a ≡ true) × (b ≡ true)
both true b e = (refl, e)
both false b e = absurd (true≢false (sym e))

-- neither of two facts of which none holds
pub neither : (a b : Bool) → (a || b) ≡ false → (a ≡ false) × (b ≡ false)
neither true b e = absurd (true≢false e)
neither false b e = (refl, e)

-- what is not so is false
pub not_true : (b : Bool) → not b ≡ true → b ≡ false
not_true true e = absurd (true≢false (sym e))
not_true false e = refl

under : (b : Bool) (n m : ℕ) → m ≤ n → (if b then suc n else m) ≤ suc n
under true n m le = omega arith
under false n m le = omega arith

valid_le : (bs : List ℕ) (n : ℕ) → valid_len_up_to bs n ≤ n
valid_le bs zero = omega arith
valid_le bs (suc n) = under (is_utf8 (take (suc n) bs)) n (valid_len_up_to bs n) (valid_le bs n)

passed : (b : Bool) (n m : ℕ) → m ≤ n → (if b then suc n else m) ≡ suc n → b ≡ true
passed true n m le e = refl
passed false n m le e = absurd (omega arith)

empty : (bs : List ℕ) → 0 ≡ length bs → [] ≡ bs
empty [] is = refl
empty (b ∷ bs) is = absurd (omega arith)

whole_valid : (bs : List ℕ) (n : ℕ) → n ≡ length bs → valid_len_up_to bs n ≡ n → IsUtf8 bs
whole_valid bs zero is e = subst IsUtf8 (empty bs is) IsUtf8-nil
whole_valid bs (suc n) is e =
    subst IsUtf8 (take_all (suc n) bs (omega arith)) (IsUtf8-from_is_utf8 (take (suc n) bs) (passed (is_utf8 (take (suc n) bs)) n (valid_len_up_to bs n) (valid_le bs n) e))

valid_is : (bs : List ℕ) → utf8_valid_len bs ≡ valid_len_up_to bs (length bs)
unfolding utf8_valid_len
valid_is bs = refl

no_fault : (b : Bool) (f : TextFault) (o : Option TextFault) → (if b then Some f else o) ≡ None → o ≡ None
no_fault true f o e = absurd (cc)
no_fault false f o e = e

no_bad : (o : Option ℕ) → bad_byte_fault o ≡ None → o ≡ None
no_bad None e = refl
no_bad (Some at) e = absurd (cc)

at_end : (o : Option ℕ) (v n : ℕ) → v ≤ n → place_or_end o v n ≡ None → v ≡ n
at_end (Some at) v n le e = absurd (cc)
at_end None v n le e = grind (arith, nat_tests)

-- a text is UTF-8
pub text_utf8 : (bytes : Bytes) → IsText bytes → IsUtf8 bytes
text_utf8 bytes text =
    whole_valid bytes (length bytes) refl (sym (valid_is bytes) ∙ at_end _ (utf8_valid_len bytes) (length bytes) (utf8_valid_len_le bytes) (no_bad (text_bad bytes) (no_fault _ _ (bad_byte_fault (text_bad bytes)) text)))

any_append : (p : ℕ → Bool) (xs ys : List ℕ) → list_any p (xs ++ ys) ≡ false → (list_any p xs ≡ false) × (list_any p ys ≡ false)
any_append p [] ys e = (refl, e)
any_append p (x ∷ xs) ys e =
    let head = neither (p x) (list_any p (xs ++ ys)) e in
    let rest = any_append p xs ys head.1 in
    (ap (λ b. b || list_any p xs) head.0 ∙ rest.0, rest.1)

wild_low : (c : ℕ) → is_wild c ≡ true → c < 128
wild_low c e = grind (arith, nat_tests)

-- a test holds or fails
pub tells : (b : Bool) → (b ≡ true) ⊎ (b ≡ false)
tells true = inl refl
tells false = inr refl

wild_scalar : (c : ℕ) → list_any is_wild (encode_utf8 c) ≡ false → is_wild c ≡ false
wild_scalar c e = elim (tells (is_wild c)) [
  | inl wild ↦ absurd (true≢false (sym (ap (λ b. b || false) wild) ∙ sym (ap (list_any is_wild) (encode_ascii c (wild_low c wild))) ∙ e))
  | inr plain ↦ plain
]

wild_scalars : (cs : List ℕ) → list_any is_wild (encode_utf8_all cs) ≡ false → list_any is_wild cs ≡ false
wild_scalars [] e = refl
wild_scalars (c ∷ cs) e =
    let parts = any_append is_wild (encode_utf8 c) (encode_utf8_all cs) e in
    ap (λ b. b || list_any is_wild cs) (wild_scalar c parts.0) ∙ wild_scalars cs parts.1

-- a pattern without `*` and `?` fits itself alone
fits_itself : (p s : List ℕ) → list_any is_wild p ≡ false → glob p s ≡ true → p ≡ s
fits_itself [] [] plain e = refl
fits_itself [] (c ∷ s) plain e = absurd (true≢false (sym e))
fits_itself (q ∷ p) s plain e =
    let head = neither (is_wild q) (list_any is_wild p) plain in
    let wild = neither (q == 42) (q == 63) head.0 in
    first s (sym (ap (λ b. if b then some_suffix (glob p) s else first_is q (glob p) s) wild.0) ∙ e) wild.1 (λ t. fits_itself p t head.1)
  where
    first : (s : List ℕ) → first_is q (glob p) s ≡ true → (q == 63) ≡ false → ((t : List ℕ) → glob p t ≡ true → p ≡ t) → q ∷ p ≡ s
    first [] e one ih = absurd (true≢false (sym e))
    first (c ∷ s) e one ih =
        let parts = both (q == c) (glob p s) (sym (ap (λ b. (b || (q == c)) && glob p s) one) ∙ e) in
        ap (λ n. n ∷ p) ((Decides-eqb q c).0 parts.0) ∙ ap (λ t. c ∷ t) (ih s parts.1)

-- a text that an exact glob matches is the glob
pub exact_is : (pattern text : Bytes) → IsText pattern → IsText text → is_exact pattern ≡ true → matches pattern text ≡ true → bytes_eq pattern text ≡ true
exact_is pattern text is also exact e =
    let one = text_utf8 pattern is in
    let other = text_utf8 text also in
    let plain : list_any is_wild (encode_utf8_all (chars pattern)) ≡ false = ap (list_any is_wild) (encodes-chars pattern one) ∙ not_true (list_any is_wild pattern) exact in
    let same = fits_itself (chars pattern) (chars text) (wild_scalars (chars pattern) plain) e in
    (bytes_eq-Decides pattern text).1 (sym (encodes-chars pattern one) ∙ ap encode_utf8_all same ∙ encodes-chars text other)
