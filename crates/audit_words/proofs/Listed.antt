-- Lists: the length, and the items.
use Rattle.std.proofs.Common.{◌≡◌, ℕ, zero, suc, List, [], ◌∷◌, ◌++◌, length, Ok, Err, refl, sym, ap, subst, ◌∙◌, inl, inr, arith}
use Rattle.std.specs.Prelude.{decimal}
use Rattle.std.proofs.lemmas.List.{append-nil}
use Rattle.audit_words.specs.declared.fault.Kind.{Kind}
use Rattle.audit_words.specs.Codecs.{Piece, Numeral, Codec, Reading, ◌>>=◌, text_of, texts, number, take_items, spell_items, AllFit, list}
use Rattle.audit_words.specs.Faults.{Stops, Found, Lawful}
use Rattle.audit_words.specs.Lines.{IsClean}
use Rattle.audit_words.proofs.Basics.{regroup, clean_append, ok_is, bind_ok, bind_err, Inside, stops_in}
use Rattle.audit_words.proofs.Parts.{not_err}
use Rattle.audit_words.proofs.Numbers.{word_32}

-- as many items, without their number
abbrev pub items : {A : Type 0} → Codec A → ℕ → Codec (List A)
items c n = record { spell = spell_items c; take = take_items c n; fits = λ vs. (length vs ≡ n) × AllFit c vs }

pub copies : {A : Type 0} → ℕ → A → List A
copies zero v = []
copies (suc n) v = v ∷ copies n v

pub copies_fit : {A : Type 0} (c : Codec A) (n : ℕ) (v : A) → c.fits v → (items c n).fits (copies n v)
unfolding copies
copies_fit c zero v f = (refl, tt)
copies_fit c (suc n) v f = let r = copies_fit c n v f in (ap suc r.0, (f, r.1))

items_again : {A : Type 0} (c : Codec A) → Lawful c → (vs : List A) (rest : List (List ℕ)) → AllFit c vs
    → take_items c (length vs) (texts (spell_items c vs) ++ rest) ≡ Ok (vs, rest)
items_again c p [] rest fits = refl
items_again {A} c p (v ∷ vs) rest fits =
    ap (λ (u : List (List ℕ)). c.take u >>= λ x. take_items c (length vs) x.1 >>= λ y. Ok (x.0 ∷ y.0, y.1)) (regroup (c.spell v) (spell_items c vs) rest)
    ∙ ap (λ (r : Reading A). r >>= λ x. take_items c (length vs) x.1 >>= λ y. Ok (x.0 ∷ y.0, y.1)) (p.again v (texts (spell_items c vs) ++ rest) fits.0)
    ∙ ap (λ (r : Reading (List A)). r >>= λ y. Ok (v ∷ y.0, y.1)) (items_again c p vs rest fits.1)

items_found : {A : Type 0} (c : Codec A) → Lawful c → (n : ℕ) (ws : List (List ℕ)) (x : List A × List (List ℕ))
    → take_items c n ws ≡ Ok x → Found (items c n) ws x
items_found {A} c p zero ws x e =
    subst (λ (y : List A × List (List ℕ)). Found (items c 0) ws y) (ok_is ([], ws) x e) (record { whole = refl; fits = (refl, tt); clean = tt })
items_found {A} c p (suc n) ws x e =
    let s = bind_ok (c.take ws) (λ y. take_items c n y.1 >>= λ z. Ok (y.0 ∷ z.0, z.1)) x e in
    let t = bind_ok (take_items c n s.0.1) (λ z. Ok (s.0.0 ∷ z.0, z.1)) x s.2 in
    let f = p.found ws s.0 s.1 in
    let g = items_found c p n s.0.1 t.0 t.1 in
    subst (λ (y : List A × List (List ℕ)). Found (items c (suc n)) ws y)
    (ok_is (s.0.0 ∷ t.0.0, t.0.1) x t.2)
    (record {
      whole = f.whole ∙ ap (λ (u : List (List ℕ)). texts (c.spell s.0.0) ++ u) g.whole ∙ sym (regroup (c.spell s.0.0) (spell_items c t.0.0) t.0.1);
      fits = (ap suc g.fits.0, (f.fits, g.fits.1));
      clean = clean_append (c.spell s.0.0) (spell_items c t.0.0) f.clean g.clean;
    })

items_first : {A : Type 0} (c : Codec A) → Lawful c → (n : ℕ) → Inside c (items c (suc n)) []
items_first {A} c p n = record {
  value = λ v. v ∷ copies n p.some;
  fits = λ v f. let r = copies_fit c n p.some p.some_fits in (ap suc r.0, (f, r.1));
  more = λ v. spell_items c (copies n p.some);
  spelled = λ v f. refl;
  fails = λ ws k e. ap (λ (r : Reading A). r >>= λ x. take_items c n x.1 >>= λ y. Ok (x.0 ∷ y.0, y.1)) e;
}

items_others : {A : Type 0} (c : Codec A) → Lawful c → (n : ℕ) (v : A) → c.fits v → Inside (items c n) (items c (suc n)) (c.spell v)
items_others {A} c p n v f = record {
  value = λ vs. v ∷ vs;
  fits = λ vs g. (ap suc g.0, (f, g.1));
  more = λ vs. [];
  spelled = λ vs g. ap (λ (ps : List Piece). c.spell v ++ ps) (sym (append-nil (spell_items c vs)));
  fails = λ ws k e.
      ap (λ (r : Reading A). r >>= λ x. take_items c n x.1 >>= λ y. Ok (x.0 ∷ y.0, y.1)) (p.again v ws f)
      ∙ ap (λ (r : Reading (List A)). r >>= λ y. Ok (v ∷ y.0, y.1)) e;
}

items_stops : {A : Type 0} (c : Codec A) → Lawful c → (n : ℕ) (ws : List (List ℕ)) (k : Kind)
    → take_items c n ws ≡ Err k → Stops (items c n) ws k
items_stops c p zero ws k e = absurd (not_err _ _ _ e)
items_stops c p (suc n) ws k e =
    elim (bind_err (c.take ws) (λ y. take_items c n y.1 >>= λ z. Ok (y.0 ∷ z.0, z.1)) k e) [
      | inl h ↦ stops_in (items_first c p n) ws k (p.stops ws k h)
      | inr s ↦
          let f = p.found ws s.0 s.1 in
          elim (bind_err (take_items c n s.0.1) (λ z. Ok (s.0.0 ∷ z.0, z.1)) k s.2) [
            | inl h ↦ subst (λ (u : List (List ℕ)). Stops (items c (suc n)) u k) (sym f.whole)
                (stops_in (items_others c p n s.0.0 f.fits) s.0.1 k (items_stops c p n s.0.1 k h))
            | inr t ↦ absurd (not_err _ _ _ t.2)
          ]
    ]

-- ---- with the length

list_again : {A : Type 0} (c : Codec A) → Lawful c → (vs : List A) (rest : List (List ℕ)) → (list c).fits vs
    → (list c).take (texts ((list c).spell vs) ++ rest) ≡ Ok (vs, rest)
list_again c p vs rest fits =
    ap (λ (r : Reading ℕ). r >>= λ n. take_items c n.0 n.1) (word_32.again (length vs) (texts (spell_items c vs) ++ rest) fits.0)
    ∙ items_again c p vs rest fits.1

list_found : {A : Type 0} (c : Codec A) → Lawful c → (ws : List (List ℕ)) (x : List A × List (List ℕ))
    → (list c).take ws ≡ Ok x → Found (list c) ws x
list_found c p ws x e =
    let s = bind_ok ((number 32).take ws) (λ n. take_items c n.0 n.1) x e in
    let f = word_32.found ws s.0 s.1 in
    let g = items_found c p s.0.0 s.0.1 x s.2 in
    record {
      whole = f.whole ∙ ap (λ (u : List (List ℕ)). text_of (Numeral s.0.0) ∷ u) g.whole ∙ ap (λ (n : ℕ). text_of (Numeral n) ∷ (texts (spell_items c x.0) ++ x.1)) (sym g.fits.0);
      fits = (subst (number 32).fits (sym g.fits.0) f.fits, g.fits.1);
      clean = (subst (λ (n : ℕ). IsClean (decimal n)) (sym g.fits.0) f.clean.0, g.clean);
    }

list_number : {A : Type 0} (c : Codec A) → Lawful c → Inside (number 32) (list c) []
list_number c p = record {
  value = λ n. copies n p.some;
  fits = λ n f. let r = copies_fit c n p.some p.some_fits in (subst (number 32).fits (sym r.0) f, r.1);
  more = λ n. spell_items c (copies n p.some);
  spelled = λ n f. let r = copies_fit c n p.some p.some_fits in ap (λ (k : ℕ). Numeral k ∷ spell_items c (copies n p.some)) r.0;
  fails = λ ws k e. ap (λ (r : Reading ℕ). r >>= λ n. take_items c n.0 n.1) e;
}

list_items : {A : Type 0} (c : Codec A) → (n : ℕ) → (number 32).fits n → Inside (items c n) (list c) (Numeral n ∷ [])
list_items c n lt = record {
  value = λ vs. vs;
  fits = λ vs g. (subst (number 32).fits (sym g.0) lt, g.1);
  more = λ vs. [];
  spelled = λ vs g. ap (λ (k : ℕ). Numeral k ∷ spell_items c vs) g.0 ∙ ap (λ (ps : List Piece). Numeral n ∷ ps) (sym (append-nil (spell_items c vs)));
  fails = λ ws k e. ap (λ (r : Reading ℕ). r >>= λ j. take_items c j.0 j.1) (word_32.again n ws lt) ∙ e;
}

list_stops : {A : Type 0} (c : Codec A) → Lawful c → (ws : List (List ℕ)) (k : Kind) → (list c).take ws ≡ Err k → Stops (list c) ws k
list_stops c p ws k e =
    elim (bind_err ((number 32).take ws) (λ n. take_items c n.0 n.1) k e) [
      | inl h ↦ stops_in (list_number c p) ws k (word_32.stops ws k h)
      | inr s ↦
          let f = word_32.found ws s.0 s.1 in
          subst (λ (u : List (List ℕ)). Stops (list c) u k) (sym f.whole)
          (stops_in (list_items c s.0.0 f.fits) s.0.1 k (items_stops c p s.0.0 s.0.1 k s.2))
    ]

pub list_lawful : {A : Type 0} {c : Codec A} → Lawful c → Lawful (list c)
list_lawful {A} {c} p = record {
  some = [];
  some_fits = (omega arith, tt);
  again = list_again c p;
  found = list_found c p;
  stops = list_stops c p;
}
