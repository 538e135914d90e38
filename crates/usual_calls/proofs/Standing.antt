-- What stands at the front of bytes.
use Rattle.std.proofs.Common.{◌≡◌, ℕ, zero, suc, ◌+◌, ◌-◌, ◌<◌, ◌≤◌, List, [], ◌∷◌, ◌++◌, length, take, drop, get_or, false, refl, sym, ap, ◌∙◌, arith, append_assoc, length-append}
use Rattle.std.specs.Int.{w32, w64, from_le_bytes}
use Rattle.std.proofs.lemmas.Nat.{le_bytes_4, le_bytes_8}
use Rattle.std.proofs.lemmas.List.{append-nil, take-append-drop}
use Rattle.dbus_values.specs.Basics.{gap}
use Rattle.dbus_values.specs.Trees.{Tree, Trees, more, bytes_of, padding, marshalled, all_marshalled}
use Rattle.dbus_values.proofs.Numbers.{IsBytes}
use Rattle.authority_messages.specs.Values.{row, string, pairs, uint32}

pub zeros_taken : (n : ℕ) → n < 8 → take n (0 ∷ 0 ∷ 0 ∷ 0 ∷ 0 ∷ 0 ∷ 0 ∷ []) ≡ padding n
unfolding padding
zeros_taken zero few = refl
zeros_taken (suc zero) few = refl
zeros_taken (suc (suc zero)) few = refl
zeros_taken (suc (suc (suc zero))) few = refl
zeros_taken (suc (suc (suc (suc zero)))) few = refl
zeros_taken (suc (suc (suc (suc (suc zero))))) few = refl
zeros_taken (suc (suc (suc (suc (suc (suc zero)))))) few = refl
zeros_taken (suc (suc (suc (suc (suc (suc (suc zero))))))) few = refl
zeros_taken (suc (suc (suc (suc (suc (suc (suc (suc n)))))))) few = absurd (omega arith)

pub zeros_front : (n : ℕ) (bytes rest : List ℕ) → n < 8 → bytes ≡ take n (0 ∷ 0 ∷ 0 ∷ 0 ∷ 0 ∷ 0 ∷ 0 ∷ []) ++ rest → bytes ≡ padding n ++ rest
zeros_front n bytes rest few is = is ∙ ap (λ (x : List ℕ). x ++ rest) (zeros_taken n few)

pub first_is : (bytes first rest front : List ℕ) (n : ℕ) → first ≡ take n bytes → rest ≡ drop n bytes → first ≡ front → bytes ≡ front ++ rest
first_is bytes first rest front n first-is rest-is same = sym (take-append-drop n bytes) ∙ ap (λ (x : List ℕ). x ++ drop n bytes) (sym first-is ∙ same) ∙ ap (λ (x : List ℕ). front ++ x) (sym rest-is)

pub one_is : (bytes first rest : List ℕ) → 1 ≤ length bytes → first ≡ take 1 bytes → rest ≡ drop 1 bytes → bytes ≡ get_or first 0 0 ∷ rest
one_is [] first rest some first-is rest-is = absurd (omega arith)
one_is (b ∷ bytes) first rest some first-is rest-is = rw (first-is, rest-is) refl

four_are : (xs : List ℕ) → length xs ≡ 4 → get_or xs 0 0 ∷ get_or xs 1 0 ∷ get_or xs 2 0 ∷ get_or xs 3 0 ∷ [] ≡ xs
four_are (a ∷ b ∷ c ∷ d ∷ []) len = refl
four_are [] len = absurd (omega arith)
four_are (a ∷ []) len = absurd (omega arith)
four_are (a ∷ b ∷ []) len = absurd (omega arith)
four_are (a ∷ b ∷ c ∷ []) len = absurd (omega arith)
four_are (a ∷ b ∷ c ∷ d ∷ e ∷ xs) len = absurd (omega arith)

eight_are : (xs : List ℕ) → length xs ≡ 8 → get_or xs 0 0 ∷ get_or xs 1 0 ∷ get_or xs 2 0 ∷ get_or xs 3 0 ∷ get_or xs 4 0 ∷ get_or xs 5 0 ∷ get_or xs 6 0 ∷ get_or xs 7 0 ∷ [] ≡ xs
eight_are (a ∷ b ∷ c ∷ d ∷ xs) len = let rest : length xs ≡ 4 = omega (arith, len) in ap (λ (l : List ℕ). a ∷ b ∷ c ∷ d ∷ l) (four_are xs rest)
eight_are [] len = absurd (omega arith)
eight_are (a ∷ []) len = absurd (omega arith)
eight_are (a ∷ b ∷ []) len = absurd (omega arith)
eight_are (a ∷ b ∷ c ∷ []) len = absurd (omega arith)

pub u32_front : (bytes four rest : List ℕ) (n : ℕ) → four ≡ take 4 bytes → rest ≡ drop 4 bytes → length four ≡ 4 → ((i : ℕ) → get_or four i 0 < 256) → n ≡ from_le_bytes w32 (get_or four 0 0 ∷ get_or four 1 0 ∷ get_or four 2 0 ∷ get_or four 3 0 ∷ []) → bytes ≡ bytes_of false w32 n ++ rest
u32_front bytes four rest n four-is rest-is len low n-is = first_is bytes four rest (bytes_of false w32 n) 4 four-is rest-is (sym (le_bytes_4 four n len low (n-is ∙ ap (from_le_bytes w32) (four_are four len))))

pub u64_front : (bytes eight rest : List ℕ) (n : ℕ) → eight ≡ take 8 bytes → rest ≡ drop 8 bytes → length eight ≡ 8 → ((i : ℕ) → get_or eight i 0 < 256)
    → n ≡ from_le_bytes w64 (get_or eight 0 0 ∷ get_or eight 1 0 ∷ get_or eight 2 0 ∷ get_or eight 3 0 ∷ get_or eight 4 0 ∷ get_or eight 5 0 ∷ get_or eight 6 0 ∷ get_or eight 7 0 ∷ []) → bytes ≡ bytes_of false w64 n ++ rest
u64_front bytes eight rest n eight-is rest-is len low n-is = first_is bytes eight rest (bytes_of false w64 n) 8 eight-is rest-is (sym (le_bytes_8 eight n len low (n-is ∙ ap (from_le_bytes w64) (eight_are eight len))))

pub text_front : (bytes b1 b2 b3 rest text : List ℕ) (at n : ℕ) → bytes ≡ padding (gap 4 at) ++ b1 → b1 ≡ bytes_of false w32 n ++ b2 → n ≡ length text → b2 ≡ text ++ b3 → b3 ≡ (0 ∷ []) ++ rest → bytes ≡ marshalled false at (string text) ++ rest
text_front bytes b1 b2 b3 rest text at n is is1 n-is is2 is3 = rw (is, is1, is2, is3, n-is) (simp append_assoc)

pub taken_front : (bytes text rest : List ℕ) (n : ℕ) → text ≡ take n bytes → rest ≡ drop n bytes → bytes ≡ text ++ rest
taken_front bytes text rest n text-is rest-is = first_is bytes text rest text n text-is rest-is refl

pub number_front : (bytes b1 rest : List ℕ) (at n : ℕ) → bytes ≡ padding (gap 4 at) ++ b1 → b1 ≡ bytes_of false w32 n ++ rest → bytes ≡ marshalled false at (uint32 n) ++ rest
number_front bytes b1 rest at n is is1 = rw (is, is1) (simp append_assoc)

pub none_front : (bytes b1 b2 rest : List ℕ) (at start size : ℕ) → start ≡ at + gap 4 at → bytes ≡ padding (gap 4 at) ++ b1 → b1 ≡ bytes_of false w32 size ++ b2 → size ≡ 0 → b2 ≡ padding (gap 8 (start + 4)) ++ rest → bytes ≡ marshalled false at (pairs []) ++ rest
none_front bytes b1 b2 rest at start size start-is is is1 size-is is2 =
    let p = padding (gap 4 at) in
    let n = bytes_of false w32 0 in
    let q = padding (gap 8 (at + gap 4 at + 4)) in
    let b2-is : b2 ≡ q ++ rest = is2 ∙ ap (λ (k : ℕ). padding (gap 8 (k + 4)) ++ rest) start-is in
    let whole : bytes ≡ p ++ (n ++ (q ++ rest)) = is ∙ ap (λ (x : List ℕ). p ++ x) (is1 ∙ ap (λ (k : ℕ). bytes_of false w32 k ++ b2) size-is ∙ ap (λ (x : List ℕ). n ++ x) b2-is) in
    whole ∙ ap (λ (x : List ℕ). p ++ (n ++ x)) (ap (λ (x : List ℕ). x ++ rest) (sym (append-nil q))) ∙ ap (λ (x : List ℕ). p ++ x) (sym (append_assoc n (q ++ []) rest)) ∙ sym (append_assoc p (n ++ (q ++ [])) rest)

-- ---- values one after another

next : (t : Tree) (ts : Trees) (p q : ℕ) (r r' : List ℕ) → r ≡ marshalled false p t ++ r' → q ≡ p + length (marshalled false p t) → r' ≡ all_marshalled false q ts → r ≡ all_marshalled false p (more t ts)
next t ts p q r r' is q-is is' = is ∙ ap (λ (x : List ℕ). marshalled false p t ++ x) (is' ∙ ap (λ (k : ℕ). all_marshalled false k ts) q-is)

place : (whole : ℕ) (r m r' : List ℕ) → length r ≤ whole → r ≡ m ++ r' → whole - length r' ≡ (whole - length r) + length m
place whole r m r' le is = omega (arith, le, ap length is, length-append m r')

shorter : (whole : ℕ) (r m r' : List ℕ) → length r ≤ whole → r ≡ m ++ r' → length r' ≤ whole
shorter whole r m r' le is = omega (arith, le, ap length is, length-append m r')

empty : (r : List ℕ) → length r ≡ 0 → r ≡ []
empty [] e = refl
empty (x ∷ r) e = absurd (omega arith)

pub asked_front : (at whole flags : ℕ) (r0 r1 r2 r3 r4 action cancel : List ℕ) → whole ≡ at + length r0 → r0 ≡ marshalled false (whole - length r0) (string action) ++ r1 → r1 ≡ marshalled false (whole - length r1) (pairs []) ++ r2 → r2 ≡ marshalled false (whole - length r2) (uint32 flags) ++ r3
    → r3 ≡ marshalled false (whole - length r3) (string cancel) ++ r4 → length r4 ≡ 0 → r0 ≡ all_marshalled false at (row (string action ∷ pairs [] ∷ uint32 flags ∷ string cancel ∷ []))
asked_front at whole flags r0 r1 r2 r3 r4 action cancel whole-is is0 is1 is2 is3 none =
    let le0 : length r0 ≤ whole = omega (arith, whole-is) in
    let le1 = shorter whole r0 _ r1 le0 is0 in
    let le2 = shorter whole r1 _ r2 le1 is1 in
    let le3 = shorter whole r2 _ r3 le2 is2 in
    let start : at ≡ whole - length r0 = omega (arith, whole-is) in
    let all3 = next (string cancel) (row []) _ _ r3 r4 is3 (place whole r3 _ r4 le3 is3) (empty r4 none) in
    let all2 = next (uint32 flags) (row (string cancel ∷ [])) _ _ r2 r3 is2 (place whole r2 _ r3 le2 is2) all3 in
    let all1 = next (pairs []) (row (uint32 flags ∷ string cancel ∷ [])) _ _ r1 r2 is1 (place whole r1 _ r2 le1 is1) all2 in
    let all0 = next (string action) (row (pairs [] ∷ uint32 flags ∷ string cancel ∷ [])) _ _ r0 r1 is0 (place whole r0 _ r1 le0 is0) all1 in
    all0 ∙ ap (λ (p : ℕ). all_marshalled false p (row (string action ∷ pairs [] ∷ uint32 flags ∷ string cancel ∷ []))) (sym start)
