-- Reading line by line, and a fault inside of a part.
use Rattle.std.proofs.Common.{◌≡◌, ◌⊎◌, ℕ, suc, ◌+◌, Bool, true, false, cond, ◌==◌, List, [], ◌∷◌, ◌++◌, Result, Ok, Err, refl, sym, ap, ◌∙◌, append_assoc, inl, inr, arith}
use Rattle.std.proofs.lemmas.Bool.{ne_eqb}
use Rattle.pk_types.specs.Pieces.{Lacks, pieces_of}
use Rattle.audit_words.specs.Codecs.{Piece}
use Rattle.audit_words.specs.Lines.{written}
use Rattle.audit_text.specs.declared.fault.LineKind.{LineKind}
use Rattle.audit_text.specs.Lines.{Place, Reading, ◌then◌, LineCodec, lines_in}
use Rattle.audit_text.specs.Faults.{Cause, IsBad, Stops}

abbrev good : {A : Type 0} → A → Result A (ℕ × LineKind)
good x = Ok x

pub ok_is : {A : Type 0} (x y : A) → good x ≡ good y → x ≡ y
ok_is x y e = cc

pub not_err : (A : Type 0) (x : A) (e : ℕ × LineKind) → good x ≡ Err e → ⊥
not_err A x e h = cc

pub err_is : {A : Type 0} (d e : ℕ × LineKind) (r : Result A (ℕ × LineKind)) → r ≡ Err d → r ≡ Err e → d ≡ e
err_is d e r p q = cc

pub bind_ok : {A B : Type 0} (r : Reading A) (f : A × Place → Reading B) (y : B × Place) → (r then f) ≡ Ok y
    → (x : A × Place) × (r ≡ Ok x) × (f x ≡ Ok y)
bind_ok (Ok x) f y e = (x, refl, e)
bind_ok (Err d) f y e = absurd cc

pub bind_err : {A B : Type 0} (r : Reading A) (f : A × Place → Reading B) (e : ℕ × LineKind) → (r then f) ≡ Err e
    → (r ≡ Err e) ⊎ ((x : A × Place) × (r ≡ Ok x) × (f x ≡ Err e))
bind_err (Ok x) f e h = inr (x, refl, h)
bind_err (Err d) f e h = inl (ap (λ (j : ℕ × LineKind). Err j) (err_is d e (Err d) refl h))

-- ---- counting lines

count_step : (t : Bool) (n m : ℕ) → cond t (suc (n + m)) (n + m) ≡ cond t (suc n) n + m
count_step true n m = omega arith
count_step false n m = refl

pub lines_append : (xs ys : List ℕ) → lines_in (xs ++ ys) ≡ lines_in xs + lines_in ys
lines_append [] ys = omega arith
lines_append (b ∷ bs) ys =
    ap (λ (k : ℕ). cond (b == 10) (suc k) k) (lines_append bs ys) ∙ count_step (b == 10) (lines_in bs) (lines_in ys)

pub lines_none : (xs : List ℕ) → Lacks 10 xs → lines_in xs ≡ 0
lines_none [] lacks = refl
lines_none (b ∷ bs) lacks = ap (λ (t : Bool). cond t (suc (lines_in bs)) (lines_in bs)) (ne_eqb b 10 lacks.0) ∙ lines_none bs lacks.1

pub lines_one : (xs : List ℕ) → Lacks 10 xs → lines_in (xs ++ 10 ∷ []) ≡ 1
lines_one xs lacks = lines_append xs (10 ∷ []) ∙ ap (λ (k : ℕ). k + 1) (lines_none xs lacks)

-- ---- the laws

-- the bytes begin with the text of this value, which fits, and the place is behind it
pub record Found {V : Type 0} (c : LineCodec V) (p : Place) (x : V × Place) : Type 0 where
  pub whole : p.1 ≡ c.spell x.0 ++ x.1.1
  pub number : x.1.0 ≡ p.0 + lines_in (c.spell x.0)
  pub fits : c.fits x.0

-- every line with these words is refused behind these lines
abbrev pub Refuses : {V : Type 0} → LineCodec V → ℕ → ℕ × LineKind → List ℕ → List (List ℕ) → Type 0
Refuses c n e front words = (line rest : List ℕ) → Lacks 10 line → pieces_of 32 line ≡ words → c.take (n, front ++ (line ++ 10 ∷ rest)) ≡ Err e

abbrev pub StopsAt : {V : Type 0} → LineCodec V → Place → ℕ × LineKind → Type 0
StopsAt c p e = Stops c (Refuses c p.0 e) p e

pub record Lawful {V : Type 0} (c : LineCodec V) : Type 0 where
  pub some : V
  pub some_fits : c.fits some
  pub again : (v : V) (n : ℕ) (rest : List ℕ) → c.fits v → c.take (n, c.spell v ++ rest) ≡ Ok (v, (n + lines_in (c.spell v), rest))
  pub found : (p : Place) (x : V × Place) → c.take p ≡ Ok x → Found c p x
  pub stops : (p : Place) (e : ℕ × LineKind) → c.take p ≡ Err e → StopsAt c p e

-- ---- a fault in a part is a fault of the whole

pub record Inside {A V : Type 0} (part : LineCodec A) (whole : LineCodec V) (front : List ℕ) : Type 0 where
  pub value : A → V
  pub fits : (a : A) → part.fits a → whole.fits (value a)
  pub more : A → List ℕ
  pub spelled : (a : A) → part.fits a → whole.spell (value a) ≡ front ++ (part.spell a ++ more a)
  pub fails : (n : ℕ) (bytes : List ℕ) (e : ℕ × LineKind) → part.take (n + lines_in front, bytes) ≡ Err e → whole.take (n, front ++ bytes) ≡ Err e

-- the same fault, where what is refused by one meaning is refused by another
pub cause_as : (word : List ℕ) (pieces : List Piece) (P Q : List (List ℕ) → Type 0) (words : List (List ℕ)) (k : LineKind)
    → ((ws : List (List ℕ)) → P ws → Q ws) → Cause word pieces P words k → Cause word pieces Q words k
cause_as word pieces P Q words k f (inl (inl c)) = inl (inl (record { first = c.first; others = c.others; is = c.is; other = c.other; word_kind = c.word_kind; refused = λ after. f (c.first ∷ after) (c.refused after) }))
cause_as word pieces P Q words k f (inl (inr c)) = inl (inr (record { front = c.front; next = c.next; more = c.more; due = c.due; is = c.is; count = c.count; refused = f _ c.refused }))
cause_as word pieces P Q words k f (inr (inl c)) = inr (inl (record { front = c.front; next = c.next; more = c.more; due = c.due; wrong = c.wrong; others = c.others; is = c.is; kind_due = c.kind_due; refused = λ after. f _ (c.refused after) }))
cause_as word pieces P Q words k f (inr (inr c)) = inr (inr (record { first = c.first; others = c.others; is = c.is; count = c.count; refused = λ after. f _ (c.refused after) }))

pub bad_as : (word : List ℕ) (pieces : List Piece) (P Q : List (List ℕ) → Type 0) (left : List ℕ) (k : LineKind)
    → ((ws : List (List ℕ)) → P ws → Q ws) → IsBad word pieces P left k → IsBad word pieces Q left k
bad_as word pieces P Q left k f (inl end) = inl end
bad_as word pieces P Q left k f (inr b) = inr (record {
  line = b.line;
  behind = b.behind;
  stands = b.stands;
  lacks = b.lacks;
  cause = cause_as word pieces P Q (pieces_of 32 b.line) k f b.cause;
})

pub stops_in : {A V : Type 0} {part : LineCodec A} {whole : LineCodec V} {front : List ℕ}
    → Inside part whole front → (n : ℕ) (bytes : List ℕ) (e : ℕ × LineKind) → StopsAt part (n + lines_in front, bytes) e → StopsAt whole (n, front ++ bytes) e
stops_in {A} {V} {part} {whole} {front} i n bytes e s =
    let next : List ℕ = (s.word ++ written s.pieces) ++ 10 ∷ s.more in
    let goes : whole.spell (i.value s.value) ≡ (front ++ s.front) ++ ((s.word ++ written s.pieces) ++ 10 ∷ (s.more ++ i.more s.value)) =
    i.spelled s.value s.fits
    ∙ ap (λ (t : List ℕ). front ++ (t ++ i.more s.value)) s.goes_on
    ∙ ap (λ (t : List ℕ). front ++ t) (append_assoc s.front next (i.more s.value))
    ∙ ap (λ (t : List ℕ). front ++ (s.front ++ t)) (append_assoc (s.word ++ written s.pieces) (10 ∷ s.more) (i.more s.value))
    ∙ sym (append_assoc front s.front ((s.word ++ written s.pieces) ++ 10 ∷ (s.more ++ i.more s.value))) in
    record {
      front = front ++ s.front;
      left = s.left;
      whole = ap (λ (t : List ℕ). front ++ t) s.whole ∙ sym (append_assoc front s.front s.left);
      number = s.number ∙ omega (arith, lines_append front s.front);
      value = i.value s.value;
      fits = i.fits s.value s.fits;
      word = s.word;
      pieces = s.pieces;
      more = s.more ++ i.more s.value;
      goes_on = goes;
      bad = bad_as s.word s.pieces (Refuses part (n + lines_in front) e s.front) (Refuses whole n e (front ++ s.front)) s.left e.1
          (λ ws r line rest lacks is. ap (λ (t : List ℕ). whole.take (n, t)) (append_assoc front s.front (line ++ 10 ∷ rest)) ∙ i.fails n (s.front ++ (line ++ 10 ∷ rest)) e (r line rest lacks is))
          s.bad;
    }
