-- Texts compared from their ends.
use Rattle.std.proofs.Common.{◌≡◌, ◌≢◌, ◌++◌, [], ◌∷◌, ◌-◌, ◌+◌, ◌/◌, ◌%◌, ◌<◌, ◌≤◌, ◌^◌, ◌==◌, ◌&&◌, Bool, true, false, ℕ, suc, List, refl, sym, ap, ◌∙◌, arith, append_assoc, append-nil, length, get_or}
use Rattle.std.specs.Prelude.{bytes_eq, decimal, take, nat_lt}
use Rattle.std.proofs.lemmas.Fmt.{decimal_digit, decimal_step}
use Rattle.std.proofs.lemmas.Bool.Decides.{Decides-eqb, nat_tests}
use Rattle.std.proofs.Math.Seq.{take-length, take-suc}
use Rattle.authority_model.specs.Cookies.{hex, hex_digit}

and_false : (b : Bool) → (b && false) ≡ false
and_false true = refl
and_false false = refl

and_true : (b : Bool) → (b && true) ≡ b
and_true true = refl
and_true false = refl

and_both : (a b c : Bool) → (a && (b && c)) ≡ ((a && b) && c)
and_both true b c = refl
and_both false b c = refl

none_longer : (ys : List ℕ) (b : ℕ) → bytes_eq [] (ys ++ b ∷ []) ≡ false
none_longer [] b = refl
none_longer (y ∷ ys) b = refl

longer_none : (xs : List ℕ) (a : ℕ) → bytes_eq (xs ++ a ∷ []) [] ≡ false
longer_none [] a = refl
longer_none (x ∷ xs) a = refl

hex-zero : (n : ℕ) → hex 0 n ≡ []
unfolding hex
hex-zero n = refl

hex-suc : (less n : ℕ) → hex (suc less) n ≡ hex less (n / 16) ++ hex_digit (n % 16) ∷ []
unfolding hex
hex-suc less n = refl

-- two texts with a last byte each
pub last_equal : (xs ys : List ℕ) (a b : ℕ) → bytes_eq (xs ++ a ∷ []) (ys ++ b ∷ []) ≡ (bytes_eq xs ys && (a == b))
last_equal [] [] a b = and_true (a == b)
last_equal [] (y ∷ ys) a b = ap (λ r. (a == y) && r) (none_longer ys b) ∙ and_false (a == y)
last_equal (x ∷ xs) [] a b = ap (λ r. (x == b) && r) (longer_none xs a) ∙ and_false (x == b)
last_equal (x ∷ xs) (y ∷ ys) a b = ap (λ r. (x == y) && r) (last_equal xs ys a b) ∙ and_both (x == y) (bytes_eq xs ys) (a == b)

-- a text is what stands before its last byte, and that byte
splits : (text : List ℕ) → 1 ≤ length text → text ≡ take (length text - 1) text ++ get_or text (length text - 1) 0 ∷ []
splits text some = let n : suc (length text - 1) ≡ length text = omega arith in
    sym (take-length text) ∙ ap (λ k. take k text) (sym n) ∙ take-suc text (length text - 1) 0 (omega arith)

either_way : (a b : ℕ) → (a == b) ≡ (b == a)
either_way a b = grind (arith, nat_tests)

last_of : (xs text : List ℕ) (a : ℕ) → 1 ≤ length text → bytes_eq (xs ++ a ∷ []) text ≡ (bytes_eq xs (take (length text - 1) text) && (get_or text (length text - 1) 0 == a))
last_of xs text a some =
    ap (λ t. bytes_eq (xs ++ a ∷ []) t) (splits text some)
    ∙ last_equal xs (take (length text - 1) text) a (get_or text (length text - 1) 0)
    ∙ ap (λ b. bytes_eq xs (take (length text - 1) text) && b) (either_way a (get_or text (length text - 1) 0))

is_so : (a b : ℕ) → a ≡ b → (a == b) ≡ true
is_so a b e = (Decides-eqb a b).1 e

is_else : (a b : ℕ) → a ≢ b → (a == b) ≡ false
is_else a b e = grind (arith, nat_tests)

-- a text that ends with the byte, and one that does not
pub ends_so : (xs text : List ℕ) (a : ℕ) → 1 ≤ length text → get_or text (length text - 1) 0 ≡ a → bytes_eq (xs ++ a ∷ []) text ≡ bytes_eq xs (take (length text - 1) text)
ends_so xs text a some is = last_of xs text a some ∙ ap (λ b. bytes_eq xs (take (length text - 1) text) && b) (is_so (get_or text (length text - 1) 0) a is) ∙ and_true (bytes_eq xs (take (length text - 1) text))

pub ends_else : (xs text : List ℕ) (a : ℕ) → 1 ≤ length text → get_or text (length text - 1) 0 ≢ a → bytes_eq (xs ++ a ∷ []) text ≡ false
ends_else xs text a some is = last_of xs text a some ∙ ap (λ b. bytes_eq xs (take (length text - 1) text) && b) (is_else (get_or text (length text - 1) 0) a is) ∙ and_false (bytes_eq xs (take (length text - 1) text))

-- a number below ten, and any other, by its last digit
pub one_digit : (n : ℕ) → n < 10 → decimal n ≡ [] ++ (48 + n % 10) ∷ []
one_digit n small = decimal_digit n small ∙ ap (λ k. (48 + k) ∷ []) (omega arith)

pub more_digits_of_ten : (n : ℕ) → 10 ≤ n → n < 2 ^ 64 → decimal n ≡ decimal (n / 10) ++ (48 + n % 10) ∷ []
more_digits_of_ten n large small = decimal_step n large small

-- a number has a last digit
pub last_digit : (n : ℕ) → n < 2 ^ 64 → (xs : List ℕ) × (decimal n ≡ xs ++ (48 + n % 10) ∷ [])
last_digit n small = go (nat_lt n 10) refl
  where
    go : (b : Bool) → nat_lt n 10 ≡ b → (xs : List ℕ) × (decimal n ≡ xs ++ (48 + n % 10) ∷ [])
    go true is = ([], one_digit n (grind (arith, nat_tests)))
    go false is = (decimal (n / 10), decimal_step n (grind (arith, nat_tests)) small)

-- no byte
pub nothing_is : (text : List ℕ) → (length text == 0) ≡ bytes_eq [] text
nothing_is [] = refl
nothing_is (x ∷ xs) = grind (arith, nat_tests)

-- the hexadecimal digits of a number before its last one
pub more_digits : (front : List ℕ) (digits n : ℕ) → digits ≢ 0 → front ++ hex digits n ≡ (front ++ hex (digits - 1) (n / 16)) ++ hex_digit (n % 16) ∷ []
more_digits front digits n some = go (digits - 1) (omega arith)
  where
    go : (less : ℕ) → digits ≡ suc less → front ++ hex digits n ≡ (front ++ hex less (n / 16)) ++ hex_digit (n % 16) ∷ []
    go less e = ap (λ k. front ++ hex k n) e ∙ ap (λ h. front ++ h) (hex-suc less n) ∙ sym (append_assoc front (hex less (n / 16)) (hex_digit (n % 16) ∷ []))

pub no_digits : (front : List ℕ) (digits n : ℕ) → digits ≡ 0 → front ++ hex digits n ≡ front
no_digits front digits n e = ap (λ k. front ++ hex k n) e ∙ ap (λ h. front ++ h) (hex-zero n) ∙ append-nil front
