-- Reading step by step, and a fault inside of a part.
use Rattle.std.proofs.Common.{◌≡◌, ◌⊎◌, ℕ, List, [], ◌∷◌, ◌++◌, Result, Ok, Err, Option, Some, None, refl, sym, ap, ◌∙◌, append_assoc, inl, inr}
use Rattle.audit_words.specs.declared.fault.Kind.{Kind}
use Rattle.audit_words.specs.Codecs.{Piece, Codec, Reading, ◌>>=◌, text_of, texts, kind_of, one, take_word, word_value}
use Rattle.audit_words.specs.Faults.{StopsAt, Stops, Found, Lawful}
use Rattle.audit_words.specs.Lines.{IsClean, AreClean}

abbrev good : {A : Type 0} → A → Result A Kind
good x = Ok x

pub texts_append : (xs ys : List Piece) → texts (xs ++ ys) ≡ texts xs ++ texts ys
texts_append [] ys = refl
texts_append (x ∷ xs) ys = ap (λ (t : List (List ℕ)). text_of x ∷ t) (texts_append xs ys)

pub regroup : (xs ys : List Piece) (ws : List (List ℕ)) → texts (xs ++ ys) ++ ws ≡ texts xs ++ (texts ys ++ ws)
regroup xs ys ws = ap (λ (t : List (List ℕ)). t ++ ws) (texts_append xs ys) ∙ append_assoc (texts xs) (texts ys) ws

pub clean_append : (xs ys : List Piece) → AreClean xs → AreClean ys → AreClean (xs ++ ys)
clean_append [] ys p q = q
clean_append (x ∷ xs) ys p q = (p.0, clean_append xs ys p.1 q)

pub ok_is : {A : Type 0} (x y : A) → good x ≡ good y → x ≡ y
ok_is x y e = cc

pub ok_parts : (A : Type 0) (x y : A × List (List ℕ)) → good x ≡ good y → (x.0 ≡ y.0) × (x.1 ≡ y.1)
ok_parts A x y e = (ap (λ (z : A × List (List ℕ)). z.0) (ok_is x y e), ap (λ (z : A × List (List ℕ)). z.1) (ok_is x y e))

pub err_is : {A : Type 0} (j k : Kind) (r : Result A Kind) → r ≡ Err j → r ≡ Err k → j ≡ k
err_is j k r d e = cc

pub bind_ok : {A B : Type 0} (r : Reading A) (f : A × List (List ℕ) → Reading B) (y : B × List (List ℕ)) → (r >>= f) ≡ Ok y
    → (x : A × List (List ℕ)) × (r ≡ Ok x) × (f x ≡ Ok y)
bind_ok (Ok x) f y e = (x, refl, e)
bind_ok (Err d) f y e = absurd cc

pub bind_err : {A B : Type 0} (r : Reading A) (f : A × List (List ℕ) → Reading B) (k : Kind) → (r >>= f) ≡ Err k
    → (r ≡ Err k) ⊎ ((x : A × List (List ℕ)) × (r ≡ Ok x) × (f x ≡ Err k))
bind_err (Ok x) f k e = inr (x, refl, e)
bind_err (Err d) f k e = inl (ap (λ (j : Kind). Err j) (err_is d k (Err d) refl e))

-- ---- one word

pub record IsWord {V : Type 0} (piece : V → Piece) (kind : Kind) (value : List ℕ → Option V) (fits : V → Type 0) : Type 0 where
  pub some : V
  pub some_fits : fits some
  pub back : (v : V) → fits v → value (text_of (piece v)) ≡ Some v
  pub only : (w : List ℕ) (v : V) → value w ≡ Some v → (w ≡ text_of (piece v)) × fits v
  pub due : (v : V) → kind_of (piece v) ≡ kind
  pub clean : (v : V) → fits v → IsClean (text_of (piece v))

word_ok : {V : Type 0} (kind : Kind) (ws : List (List ℕ)) (o : Option V) (x : V × List (List ℕ)) → word_value kind ws o ≡ Ok x → (o ≡ Some x.0) × (ws ≡ x.1)
word_ok kind ws (Some v) x e = let p = ok_parts _ (v, ws) x e in (ap (λ y. Some y) p.0, p.1)
word_ok kind ws None x e = absurd cc

word_err : {V : Type 0} (kind : Kind) (ws : List (List ℕ)) (o : Option V) (k : Kind) → word_value kind ws o ≡ Err k → (o ≡ None) × (k ≡ kind)
word_err kind ws (Some v) k e = absurd cc
word_err kind ws None k e = (refl, cc)

word_found : {V : Type 0} (piece : V → Piece) (kind : Kind) (value : List ℕ → Option V) (fits : V → Type 0) → IsWord piece kind value fits
    → (ws : List (List ℕ)) (x : V × List (List ℕ)) → take_word kind value ws ≡ Ok x → Found (one piece kind value fits) ws x
word_found piece kind value fits law [] x e = absurd cc
word_found piece kind value fits law (w ∷ ws) x e =
    let p = word_ok kind ws (value w) x e in
    let q = law.only w x.0 p.0 in
    record {
      whole = ap (λ (u : List ℕ). u ∷ ws) q.0 ∙ ap (λ (t : List (List ℕ)). text_of (piece x.0) ∷ t) p.1;
      fits = q.1;
      clean = (law.clean x.0 q.1, tt);
    }

word_stops : {V : Type 0} (piece : V → Piece) (kind : Kind) (value : List ℕ → Option V) (fits : V → Type 0) → IsWord piece kind value fits
    → (ws : List (List ℕ)) (k : Kind) → take_word kind value ws ≡ Err k → Stops (one piece kind value fits) ws k
word_stops piece kind value fits law [] k e = record {
  front = [];
  next = piece law.some;
  goes_on = record { value = law.some; fits = law.some_fits; more = []; spelled = refl };
  at = inl (refl, cc);
}
word_stops piece kind value fits law (w ∷ ws) k e =
    let p = word_err kind ws (value w) k e in
    record {
      front = [];
      next = piece law.some;
      goes_on = record { value = law.some; fits = law.some_fits; more = []; spelled = refl };
      at = inr (w, ws, refl, p.1 ∙ sym (law.due law.some), λ after. ap (word_value kind after) p.0 ∙ ap (λ (j : Kind). Err j) (sym p.1));
    }

pub one_lawful : {V : Type 0} {piece : V → Piece} {kind : Kind} {value : List ℕ → Option V} {fits : V → Type 0} → IsWord piece kind value fits
    → Lawful (one piece kind value fits)
one_lawful {V} {piece} {kind} {value} {fits} law = record {
  some = law.some;
  some_fits = law.some_fits;
  again = λ v rest f. ap (word_value kind rest) (law.back v f);
  found = word_found piece kind value fits law;
  stops = word_stops piece kind value fits law;
}

-- ---- a fault in a part is a fault of the whole

-- values of the part stand in values of the whole behind these words, and faults of the part are faults of the whole
pub record Inside {A V : Type 0} (part : Codec A) (whole : Codec V) (front : List Piece) : Type 0 where
  pub value : A → V
  pub fits : (a : A) → part.fits a → whole.fits (value a)
  pub more : A → List Piece
  pub spelled : (a : A) → part.fits a → whole.spell (value a) ≡ front ++ (part.spell a ++ more a)
  pub fails : (ws : List (List ℕ)) (k : Kind) → part.take ws ≡ Err k → whole.take (texts front ++ ws) ≡ Err k

pub stops_in : {A V : Type 0} {part : Codec A} {whole : Codec V} {front : List Piece}
    → Inside part whole front → (ws : List (List ℕ)) (k : Kind) → Stops part ws k → Stops whole (texts front ++ ws) k
stops_in {A} {V} {part} {whole} {front} i ws k s =
    let g = s.goes_on in
    let e : whole.spell (i.value g.value) ≡ (front ++ s.front) ++ s.next ∷ (g.more ++ i.more g.value) =
    i.spelled g.value g.fits
    ∙ ap (λ (ps : List Piece). front ++ (ps ++ i.more g.value)) g.spelled
    ∙ ap (λ (ps : List Piece). front ++ ps) (append_assoc s.front (s.next ∷ g.more) (i.more g.value))
    ∙ sym (append_assoc front s.front (s.next ∷ (g.more ++ i.more g.value))) in
    record {
      front = front ++ s.front;
      next = s.next;
      goes_on = record { value = i.value g.value; fits = i.fits g.value g.fits; more = g.more ++ i.more g.value; spelled = e };
      at = elim s.at as (λ _. StopsAt whole (texts front ++ ws) k (front ++ s.front) s.next) [
        | inl p ↦ inl (ap (λ (t : List (List ℕ)). texts front ++ t) p.0 ∙ sym (texts_append front s.front), p.1)
        | inr p ↦ inr (
          p.0,
          p.1,
          ap (λ (t : List (List ℕ)). texts front ++ t) p.2 ∙ sym (regroup front s.front (p.0 ∷ p.1)),
          p.3,
          λ after. ap whole.take (regroup front s.front (p.0 ∷ after)) ∙ i.fails (texts s.front ++ p.0 ∷ after) k (p.4 after),
        )
      ];
    }

-- the words of a value that is read again are clean
pub clean_of : {V : Type 0} {c : Codec V} → Lawful c → (v : V) → c.fits v → AreClean (c.spell v)
clean_of {V} {c} p v f = (p.found (texts (c.spell v) ++ []) (v, []) (p.again v [] f)).clean
