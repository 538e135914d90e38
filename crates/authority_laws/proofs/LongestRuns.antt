-- The words of a text are its longest runs without blanks, in order.
use Rattle.std.proofs.Common.{◌≡◌, ℕ, Bool, true, false, List, [], ◌∷◌, ◌++◌, refl, ap, ◌∙◌, subst}
use Rattle.std.specs.Prelude.{if◌then◌else◌}
use Rattle.pk_types.specs.Text.{is_blank}
use Rattle.authority_model.specs.Words.{Bytes, run_joined, words}
use Rattle.authority_laws.specs.Longest.{AllBlank, IsRun, StartsBlank, HasWords}

-- the first byte of a text that has a word right at its front is not a blank; so no blanks come before the first word where the first byte is not a blank
unblanked : (c : ℕ) (bytes gap rest : Bytes) → is_blank c ≡ false → (c ∷ bytes) ≡ gap ++ rest → AllBlank gap → (c ∷ bytes) ≡ rest
unblanked c bytes [] rest is e blank = e
unblanked c bytes (g ∷ gap) rest is e blank =
    let same : c ≡ g = cc in
    absurd (cc (is, ap is_blank same, blank.0))

-- one more blank before the words
one_blank : (b : ℕ) (text : Bytes) (ws : List Bytes) → is_blank b ≡ true → HasWords text ws → HasWords (b ∷ text) ws
one_blank b text [] is h = (is, h)
one_blank b text (w ∷ ws) is h = (b ∷ h.0, h.1, ap (λ t. b ∷ t) h.2, (is, h.3), h.4, h.5, h.6)

-- one more byte before the words, which is not a blank
one_byte : (b : ℕ) (text : Bytes) (ws : List Bytes) → is_blank b ≡ false → HasWords text ws → HasWords (b ∷ text) (run_joined is_blank b text ws)
one_byte b [] [] is h = ([], [], refl, tt, (is, tt), tt, tt)
one_byte b [] (w ∷ ws) is h = absurd (empty h.0 h.1 w h.2 h.4)
  where
    empty : (gap rest w : Bytes) → [] ≡ gap ++ (w ++ rest) → IsRun w → ⊥
    empty [] rest [] e run = run
    empty [] rest (c ∷ w) e run = absurd (cc)
    empty (g ∷ gap) rest w e run = absurd (cc)
one_byte b (c ∷ text) [] is h = ([], c ∷ text, refl, tt, (is, tt), h.0, h)
one_byte b (c ∷ text) (w ∷ ws) is h = of (is_blank c) refl
  where
    of : (t : Bool) → is_blank c ≡ t → HasWords (b ∷ c ∷ text) (if t then (b ∷ []) ∷ w ∷ ws else (b ∷ w) ∷ ws)
    of true t = ([], c ∷ text, refl, tt, (is, tt), t, h)
    of false t = ([], h.1, ap (λ t. b ∷ t) (unblanked c text h.0 (w ++ h.1) t h.2 h.3), tt, joined w h.4, h.5, h.6)
      where
        joined : (w : Bytes) → IsRun w → IsRun (b ∷ w)
        joined [] run = absurd run
        joined (d ∷ w) run = (is, run)

-- the words of a text are its words by what stands around them
pub words_are : (text : Bytes) → HasWords text (words text)
words_are [] = tt
words_are (b ∷ text) = of (is_blank b) refl (words_are text)
  where
    of : (t : Bool) → is_blank b ≡ t → HasWords text (words text) → HasWords (b ∷ text) (if t then words text else run_joined is_blank b text (words text))
    of true is ih = one_blank b text (words text) is ih
    of false is ih = one_byte b text (words text) is ih

-- blanks at the front change nothing
words_blank : (gap rest : Bytes) → AllBlank gap → words (gap ++ rest) ≡ words rest
words_blank [] rest blank = refl
words_blank (g ∷ gap) rest blank = ap (λ t. if t then words (gap ++ rest) else run_joined is_blank g (gap ++ rest) (words (gap ++ rest))) blank.0 ∙ words_blank gap rest blank.1

-- a run at the front, with a blank or the end after it, is the first word
words_run : (w rest : Bytes) → IsRun w → StartsBlank rest → words (w ++ rest) ≡ w ∷ words rest
words_run [] rest run starts = absurd run
words_run (b ∷ []) rest run starts = ap (λ t. if t then words rest else run_joined is_blank b rest (words rest)) run.0 ∙ alone rest starts (words rest) refl
  where
    alone : (rest : Bytes) → StartsBlank rest → (ws : List Bytes) → words rest ≡ ws → run_joined is_blank b rest ws ≡ (b ∷ []) ∷ ws
    alone [] starts ws is = refl
    alone (c ∷ rest) starts [] is = refl
    alone (c ∷ rest) starts (w ∷ ws) is = ap (λ t. if t then (b ∷ []) ∷ w ∷ ws else (b ∷ w) ∷ ws) starts
words_run (b ∷ c ∷ w) rest run starts =
    ap (λ t. if t then words (c ∷ w ++ rest) else run_joined is_blank b (c ∷ w ++ rest) (words (c ∷ w ++ rest))) run.0
    ∙ ap (run_joined is_blank b (c ∷ w ++ rest)) (words_run (c ∷ w) rest run.1 starts)
    ∙ ap (λ t. if t then (b ∷ []) ∷ (c ∷ w) ∷ words rest else (b ∷ c ∷ w) ∷ words rest) run.1.0

blank_words : (text : Bytes) → AllBlank text → words text ≡ []
blank_words [] blank = refl
blank_words (b ∷ text) blank = ap (λ t. if t then words text else run_joined is_blank b text (words text)) blank.0 ∙ blank_words text blank.1

-- and no other list is
pub words_only : (text : Bytes) (ws : List Bytes) → HasWords text ws → words text ≡ ws
words_only text [] h = blank_words text h
words_only text (w ∷ ws) h =
    ap words h.2 ∙ words_blank h.0 (w ++ h.1) h.3 ∙ words_run w h.1 h.4 h.5 ∙ ap (λ l. w ∷ l) (words_only h.1 ws h.6)

pub words_back : (text : Bytes) (ws : List Bytes) → words text ≡ ws → HasWords text ws
words_back text ws e = subst (HasWords text) e (words_are text)
