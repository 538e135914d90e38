-- The first word of a text.
use Rattle.std.proofs.Common.{◌≡◌, ℕ, suc, ◌+◌, ◌<◌, ◌≤◌, ◌==◌, Bool, true, false, not, List, [], ◌∷◌, Some, None, refl, ap, sym, ◌∙◌, length, take, drop, arith, cond, one-add}
use Rattle.std.specs.Prelude.{if◌then◌else◌, position, nat_lt, unwrap_or}
use Rattle.std.specs.List.{position_or_len}
use Rattle.std.proofs.lemmas.List.{length-drop}
use borrow.Author.Tests.{ltb-false}
use Rattle.std.proofs.lemmas.Bool.{eqb-true}
use Rattle.pk_types.specs.Text.{is_blank}
use Rattle.authority_model.specs.Words.{Bytes, words, runs, run_joined}

-- the place, or else the length
pub unwrap_or-position : (p : ℕ → Bool) (xs : List ℕ) → position_or_len p xs ≤ length xs → unwrap_or (position p xs) (length xs) ≡ position_or_len p xs
unwrap_or-position p xs within = of (nat_lt (position_or_len p xs) (length xs)) refl
  where
    of : (b : Bool) → nat_lt (position_or_len p xs) (length xs) ≡ b → unwrap_or (cond b (Some (position_or_len p xs)) None) (length xs) ≡ position_or_len p xs
    of true is = refl
    of false is = let past : length xs ≤ position_or_len p xs = ltb-false (position_or_len p xs) (length xs) is in omega arith

-- a place within, or else the length
pub place-within : (p : ℕ → Bool) (xs : List ℕ) → position_or_len p xs ≤ length xs
place-within p [] = omega arith
place-within p (x ∷ xs) = by (not (p x)) (place-within p xs)
  where
    by : (b : Bool) → position_or_len p xs ≤ length xs → cond b (1 + position_or_len p xs) 0 ≤ suc (length xs)
    by true ih = omega arith
    by false ih = omega arith

-- the separators at the front make no run
pub runs-drop : (parts : ℕ → Bool) (text : Bytes) → runs parts (drop (position_or_len (λ b. not (parts b)) text) text) ≡ runs parts text
runs-drop parts [] = refl
runs-drop parts (b ∷ bs) = by (parts b) refl (runs-drop parts bs)
  where
    by : (t : Bool) → parts b ≡ t → runs parts (drop (position_or_len (λ b. not (parts b)) bs) bs) ≡ runs parts bs → runs parts (drop (cond (not (not t)) (1 + position_or_len (λ b. not (parts b)) bs) 0) (b ∷ bs)) ≡ (if t then runs parts bs else run_joined parts b bs (runs parts bs))
    by true is ih = ap (λ n. runs parts (drop n (b ∷ bs))) (one-add (position_or_len (λ b. not (parts b)) bs)) ∙ ih
    by false is ih = ap (λ t. if t then runs parts bs else run_joined parts b bs (runs parts bs)) is

-- what comes after them begins with a byte that is not a separator
pub parts-first : (parts : ℕ → Bool) (text : Bytes) (b : ℕ) (bs : Bytes) → drop (position_or_len (λ b. not (parts b)) text) text ≡ b ∷ bs → parts b ≡ false
parts-first parts [] b bs e = absurd (cc)
parts-first parts (x ∷ xs) b bs e = by (parts x) refl (parts-first parts xs b bs) e
  where
    by : (t : Bool) → parts x ≡ t → (drop (position_or_len (λ b. not (parts b)) xs) xs ≡ b ∷ bs → parts b ≡ false) → drop (cond (not (not t)) (1 + position_or_len (λ b. not (parts b)) xs) 0) (x ∷ xs) ≡ b ∷ bs → parts b ≡ false
    by true is ih e = ih (ap (λ n. drop n (x ∷ xs)) (sym (one-add (position_or_len (λ b. not (parts b)) xs))) ∙ e)
    by false is ih e = let same : x ≡ b = cc in ap parts (sym same) ∙ is

-- a byte before a separator is a run of its own
run_joined-parts : (parts : ℕ → Bool) (b c : ℕ) (cs : Bytes) (found : List Bytes) → parts c ≡ true → run_joined parts b (c ∷ cs) found ≡ (b ∷ []) ∷ found
run_joined-parts parts b c cs [] is = refl
run_joined-parts parts b c cs (run ∷ found) is = ap (λ t. if t then ((b ∷ []) ∷ run ∷ found) else ((b ∷ run) ∷ found)) is

-- the first run of a text that begins with one
pub runs-front : (parts : ℕ → Bool) (b : ℕ) (bs : Bytes) → parts b ≡ false → runs parts (b ∷ bs) ≡ take (position_or_len parts (b ∷ bs)) (b ∷ bs) ∷ runs parts (drop (position_or_len parts (b ∷ bs)) (b ∷ bs))
runs-front parts b [] is = rw is refl
runs-front parts b (c ∷ cs) is = by (parts c) refl (runs-front parts c cs)
  where
    by : (t : Bool) → parts c ≡ t → (parts c ≡ false → runs parts (c ∷ cs) ≡ take (position_or_len parts (c ∷ cs)) (c ∷ cs) ∷ runs parts (drop (position_or_len parts (c ∷ cs)) (c ∷ cs)))
        → runs parts (b ∷ c ∷ cs) ≡ take (position_or_len parts (b ∷ c ∷ cs)) (b ∷ c ∷ cs) ∷ runs parts (drop (position_or_len parts (b ∷ c ∷ cs)) (b ∷ c ∷ cs))
    by true blank ih =
        ap (λ t. if t then runs parts (c ∷ cs) else run_joined parts b (c ∷ cs) (runs parts (c ∷ cs))) is
        ∙ run_joined-parts parts b c cs (runs parts (c ∷ cs)) blank
        ∙ ap (λ t. take (1 + cond (not t) (1 + position_or_len parts cs) 0) (b ∷ c ∷ cs) ∷ runs parts (drop (1 + cond (not t) (1 + position_or_len parts cs) 0) (b ∷ c ∷ cs))) (sym blank)
        ∙ ap (λ t. take (cond (not t) (1 + position_or_len parts (c ∷ cs)) 0) (b ∷ c ∷ cs) ∷ runs parts (drop (cond (not t) (1 + position_or_len parts (c ∷ cs)) 0) (b ∷ c ∷ cs))) (sym is)
    by false word ih =
        let end = position_or_len parts (c ∷ cs) in
        ap (λ t. if t then runs parts (c ∷ cs) else run_joined parts b (c ∷ cs) (runs parts (c ∷ cs))) is
        ∙ ap (run_joined parts b (c ∷ cs)) (ih word)
        ∙ ap (λ t. if t then ((b ∷ []) ∷ take end (c ∷ cs) ∷ runs parts (drop end (c ∷ cs))) else ((b ∷ take end (c ∷ cs)) ∷ runs parts (drop end (c ∷ cs)))) word
        ∙ ap (λ n. take n (b ∷ c ∷ cs) ∷ runs parts (drop n (b ∷ c ∷ cs))) (sym (one-add end))
        ∙ ap (λ t. take (cond (not t) (1 + end) 0) (b ∷ c ∷ cs) ∷ runs parts (drop (cond (not t) (1 + end) 0) (b ∷ c ∷ cs))) (sym is)

-- no byte is left: no word
pub no_word : (text rest : Bytes) (n : ℕ) → n ≡ position_or_len (λ b. not (is_blank b)) text → rest ≡ drop n text → (length rest == 0) ≡ true → words text ≡ []
no_word text [] n first is empty = sym (runs-drop is_blank text) ∙ ap (runs is_blank) (ap (λ n. drop n text) (sym first) ∙ sym is)
no_word text (b ∷ bs) n first is empty = absurd (omega (arith, eqb-true (length (b ∷ bs)) 0 empty))

-- the first word, and what comes after it
pub first_word : (text rest word after : Bytes) (n end : ℕ) → n ≡ position_or_len (λ b. not (is_blank b)) text → rest ≡ drop n text → (length rest == 0) ≡ false
    → end ≡ position_or_len is_blank rest → word ≡ take end rest → after ≡ drop end rest → words text ≡ word ∷ words after
first_word text [] word after n end first is some ends front back = absurd (cc)
first_word text (b ∷ bs) word after n end first is some ends front back =
    let at : drop (position_or_len (λ b. not (is_blank b)) text) text ≡ b ∷ bs = ap (λ n. drop n text) (sym first) ∙ sym is in
    sym (runs-drop is_blank text) ∙ ap (runs is_blank) at ∙ runs-front is_blank b bs (parts-first is_blank text b bs at)
    ∙ ap (λ n. take n (b ∷ bs) ∷ runs is_blank (drop n (b ∷ bs))) (sym ends)
    ∙ ap (λ w. w ∷ runs is_blank (drop end (b ∷ bs))) (sym front)
    ∙ ap (λ rest. word ∷ runs is_blank rest) (sym back)

-- it is shorter than the text
pub after_shorter : (text rest after : Bytes) (n end : ℕ) → n ≡ position_or_len (λ b. not (is_blank b)) text → rest ≡ drop n text → (length rest == 0) ≡ false
    → end ≡ position_or_len is_blank rest → after ≡ drop end rest → length after < length text
after_shorter text [] after n end first is some ends back = absurd (cc)
after_shorter text (b ∷ bs) after n end first is some ends back =
    let at : drop (position_or_len (λ b. not (is_blank b)) text) text ≡ b ∷ bs = ap (λ n. drop n text) (sym first) ∙ sym is in
    let word : is_blank b ≡ false = parts-first is_blank text b bs at in
    let more : end ≡ 1 + position_or_len is_blank bs = ends ∙ ap (λ t. cond (not t) (1 + position_or_len is_blank bs) 0) word in
    omega (arith, ap length back, length-drop end (b ∷ bs), ap length is, length-drop n text)
