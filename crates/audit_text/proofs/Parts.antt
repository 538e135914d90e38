-- Lines one after the other, and lines behind a head.
use Rattle.std.proofs.Common.{◌≡◌, ℕ, zero, suc, ◌+◌, List, [], ◌∷◌, ◌++◌, length, Ok, Err, refl, sym, ap, subst, ◌∙◌, append_assoc, inl, inr, arith}
use Rattle.std.proofs.lemmas.List.{append-nil}
use Rattle.audit_text.specs.declared.fault.LineKind.{LineKind}
use Rattle.audit_text.specs.Lines.{Place, Reading, ◌then◌, LineCodec, lines_in, ◌↵◌, take_items, spell_items, AllFit, items, Headed, take_parts, headed}
use Rattle.audit_text.proofs.Basics.{ok_is, not_err, bind_ok, bind_err, lines_append, Found, StopsAt, Lawful, Inside, stops_in}

-- ---- two parts

both_again : {A B : Type 0} (a : LineCodec A) (b : LineCodec B) → Lawful a → Lawful b
    → (x : A × B) (n : ℕ) (rest : List ℕ) → (a ↵ b).fits x → (a ↵ b).take (n, (a ↵ b).spell x ++ rest) ≡ Ok (x, (n + lines_in ((a ↵ b).spell x), rest))
both_again {A} {B} a b p q x n rest fits =
    let m : (n + lines_in (a.spell x.0)) + lines_in (b.spell x.1) ≡ n + lines_in (a.spell x.0 ++ b.spell x.1) = omega (arith, lines_append (a.spell x.0) (b.spell x.1)) in
    ap (λ (t : List ℕ). (a ↵ b).take (n, t)) (append_assoc (a.spell x.0) (b.spell x.1) rest)
    ∙ ap (λ (r : Reading A). r then λ y. b.take y.1 then λ z. Ok ((y.0, z.0), z.1)) (p.again x.0 n (b.spell x.1 ++ rest) fits.0)
    ∙ ap (λ (r : Reading B). r then λ z. Ok ((x.0, z.0), z.1)) (q.again x.1 (n + lines_in (a.spell x.0)) rest fits.1)
    ∙ ap (λ (k : ℕ). Ok (x, (k, rest))) m

both_found : {A B : Type 0} (a : LineCodec A) (b : LineCodec B) → Lawful a → Lawful b
    → (at : Place) (x : (A × B) × Place) → (a ↵ b).take at ≡ Ok x → Found (a ↵ b) at x
both_found {A} {B} a b p q at x e =
    let s = bind_ok (a.take at) (λ y. b.take y.1 then λ z. Ok ((y.0, z.0), z.1)) x e in
    let t = bind_ok (b.take s.0.1) (λ z. Ok ((s.0.0, z.0), z.1)) x s.2 in
    let f = p.found at s.0 s.1 in
    let g = q.found s.0.1 t.0 t.1 in
    subst (λ (y : (A × B) × Place). Found (a ↵ b) at y) (ok_is ((s.0.0, t.0.0), t.0.1) x t.2)
    (record {
      whole = f.whole ∙ ap (λ (u : List ℕ). a.spell s.0.0 ++ u) g.whole ∙ sym (append_assoc (a.spell s.0.0) (b.spell t.0.0) t.0.1.1);
      number = omega (arith, f.number, g.number, lines_append (a.spell s.0.0) (b.spell t.0.0));
      fits = (f.fits, g.fits);
    })

both_first : {A B : Type 0} (a : LineCodec A) (b : LineCodec B) → Lawful b → Inside a (a ↵ b) []
both_first {A} a b q = record {
  value = λ v. (v, q.some);
  fits = λ v f. (f, q.some_fits);
  more = λ v. b.spell q.some;
  spelled = λ v f. refl;
  fails = λ n bytes e h. ap (λ (r : Reading A). r then λ y. b.take y.1 then λ z. Ok ((y.0, z.0), z.1)) (ap (λ (k : ℕ). a.take (k, bytes)) (omega arith) ∙ h);
}

both_second : {A B : Type 0} (a : LineCodec A) (b : LineCodec B) → Lawful a → (v : A) → a.fits v → Inside b (a ↵ b) (a.spell v)
both_second {A} {B} a b p v f = record {
  value = λ u. (v, u);
  fits = λ u g. (f, g);
  more = λ u. [];
  spelled = λ u g. ap (λ (t : List ℕ). a.spell v ++ t) (sym (append-nil (b.spell u)));
  fails = λ n bytes e h.
      ap (λ (r : Reading A). r then λ y. b.take y.1 then λ z. Ok ((y.0, z.0), z.1)) (p.again v n bytes f)
      ∙ ap (λ (r : Reading B). r then λ z. Ok ((v, z.0), z.1)) h;
}

-- a place behind lines that were read
pub behind : {V W : Type 0} (c : LineCodec V) (at : Place) (x : V × Place) (e : ℕ × LineKind) (whole : LineCodec W) → Found c at x
    → StopsAt whole (at.0, c.spell x.0 ++ x.1.1) e → StopsAt whole at e
behind c at x e whole f s = subst (λ (t : List ℕ). StopsAt whole (at.0, t) e) (sym f.whole) s

both_stops : {A B : Type 0} (a : LineCodec A) (b : LineCodec B) → Lawful a → Lawful b
    → (at : Place) (e : ℕ × LineKind) → (a ↵ b).take at ≡ Err e → StopsAt (a ↵ b) at e
both_stops {A} {B} a b p q at e h =
    elim (bind_err (a.take at) (λ y. b.take y.1 then λ z. Ok ((y.0, z.0), z.1)) e h) [
      | inl d ↦ stops_in (both_first a b q) at.0 at.1 e (subst (λ (k : ℕ). StopsAt a (k, at.1) e) (omega arith) (p.stops at e d))
      | inr s ↦
          let f = p.found at s.0 s.1 in
          elim (bind_err (b.take s.0.1) (λ z. Ok ((s.0.0, z.0), z.1)) e s.2) [
            | inl d ↦ behind a at s.0 e (a ↵ b) f
                (stops_in (both_second a b p s.0.0 f.fits) at.0 s.0.1.1 e (subst (λ (k : ℕ). StopsAt b (k, s.0.1.1) e) f.number (q.stops s.0.1 e d)))
            | inr t ↦ absurd (not_err _ _ _ t.2)
          ]
    ]

pub both_lawful : {A B : Type 0} {a : LineCodec A} {b : LineCodec B} → Lawful a → Lawful b → Lawful (a ↵ b)
both_lawful {A} {B} {a} {b} p q = record {
  some = (p.some, q.some);
  some_fits = (p.some_fits, q.some_fits);
  again = both_again a b p q;
  found = both_found a b p q;
  stops = both_stops a b p q;
}

-- the laws of parts, written as the parts are
infixr 30 ◌⊗◌
pub ◌⊗◌ : {A B : Type 0} {a : LineCodec A} {b : LineCodec B} → Lawful a → Lawful b → Lawful (a ↵ b)
p ⊗ q = both_lawful p q

-- ---- as many values as are told

copies : {A : Type 0} → ℕ → A → List A
copies zero v = []
copies (suc n) v = v ∷ copies n v

copies_fit : {A : Type 0} (c : LineCodec A) (n : ℕ) (v : A) → c.fits v → (items c n).fits (copies n v)
unfolding copies
copies_fit c zero v f = (refl, tt)
copies_fit c (suc n) v f = let r = copies_fit c n v f in (ap suc r.0, (f, r.1))

items_again : {A : Type 0} (c : LineCodec A) → Lawful c → (vs : List A) (n : ℕ) (rest : List ℕ) → AllFit c vs
    → take_items c (length vs) (n, spell_items c vs ++ rest) ≡ Ok (vs, (n + lines_in (spell_items c vs), rest))
items_again c p [] n rest fits = ap (λ (k : ℕ). Ok ([], (k, rest))) (omega arith)
items_again {A} c p (v ∷ vs) n rest fits =
    let m : (n + lines_in (c.spell v)) + lines_in (spell_items c vs) ≡ n + lines_in (c.spell v ++ spell_items c vs) = omega (arith, lines_append (c.spell v) (spell_items c vs)) in
    ap (λ (t : List ℕ). c.take (n, t) then λ x. take_items c (length vs) x.1 then λ y. Ok (x.0 ∷ y.0, y.1)) (append_assoc (c.spell v) (spell_items c vs) rest)
    ∙ ap (λ (r : Reading A). r then λ x. take_items c (length vs) x.1 then λ y. Ok (x.0 ∷ y.0, y.1)) (p.again v n (spell_items c vs ++ rest) fits.0)
    ∙ ap (λ (r : Reading (List A)). r then λ y. Ok (v ∷ y.0, y.1)) (items_again c p vs (n + lines_in (c.spell v)) rest fits.1)
    ∙ ap (λ (k : ℕ). Ok (v ∷ vs, (k, rest))) m

items_found : {A : Type 0} (c : LineCodec A) → Lawful c → (n : ℕ) (at : Place) (x : List A × Place) → take_items c n at ≡ Ok x → Found (items c n) at x
items_found {A} c p zero at x e =
    subst (λ (y : List A × Place). Found (items c 0) at y) (ok_is ([], at) x e) (record { whole = refl; number = omega arith; fits = (refl, tt) })
items_found {A} c p (suc n) at x e =
    let s = bind_ok (c.take at) (λ y. take_items c n y.1 then λ z. Ok (y.0 ∷ z.0, z.1)) x e in
    let t = bind_ok (take_items c n s.0.1) (λ z. Ok (s.0.0 ∷ z.0, z.1)) x s.2 in
    let f = p.found at s.0 s.1 in
    let g = items_found c p n s.0.1 t.0 t.1 in
    subst (λ (y : List A × Place). Found (items c (suc n)) at y) (ok_is (s.0.0 ∷ t.0.0, t.0.1) x t.2)
    (record {
      whole = f.whole ∙ ap (λ (u : List ℕ). c.spell s.0.0 ++ u) g.whole ∙ sym (append_assoc (c.spell s.0.0) (spell_items c t.0.0) t.0.1.1);
      number = omega (arith, f.number, g.number, lines_append (c.spell s.0.0) (spell_items c t.0.0));
      fits = (ap suc g.fits.0, (f.fits, g.fits.1));
    })

items_first : {A : Type 0} (c : LineCodec A) → Lawful c → (n : ℕ) → Inside c (items c (suc n)) []
items_first {A} c p n = record {
  value = λ v. v ∷ copies n p.some;
  fits = λ v f. let r = copies_fit c n p.some p.some_fits in (ap suc r.0, (f, r.1));
  more = λ v. spell_items c (copies n p.some);
  spelled = λ v f. refl;
  fails = λ k bytes e h. ap (λ (r : Reading A). r then λ x. take_items c n x.1 then λ y. Ok (x.0 ∷ y.0, y.1)) (ap (λ (j : ℕ). c.take (j, bytes)) (omega arith) ∙ h);
}

items_others : {A : Type 0} (c : LineCodec A) → Lawful c → (n : ℕ) (v : A) → c.fits v → Inside (items c n) (items c (suc n)) (c.spell v)
items_others {A} c p n v f = record {
  value = λ vs. v ∷ vs;
  fits = λ vs g. (ap suc g.0, (f, g.1));
  more = λ vs. [];
  spelled = λ vs g. ap (λ (t : List ℕ). c.spell v ++ t) (sym (append-nil (spell_items c vs)));
  fails = λ k bytes e h.
      ap (λ (r : Reading A). r then λ x. take_items c n x.1 then λ y. Ok (x.0 ∷ y.0, y.1)) (p.again v k bytes f)
      ∙ ap (λ (r : Reading (List A)). r then λ y. Ok (v ∷ y.0, y.1)) h;
}

items_stops : {A : Type 0} (c : LineCodec A) → Lawful c → (n : ℕ) (at : Place) (e : ℕ × LineKind) → take_items c n at ≡ Err e → StopsAt (items c n) at e
items_stops c p zero at e h = absurd (not_err _ _ _ h)
items_stops {A} c p (suc n) at e h =
    elim (bind_err (c.take at) (λ y. take_items c n y.1 then λ z. Ok (y.0 ∷ z.0, z.1)) e h) [
      | inl d ↦ stops_in (items_first c p n) at.0 at.1 e (subst (λ (k : ℕ). StopsAt c (k, at.1) e) (omega arith) (p.stops at e d))
      | inr s ↦
          let f = p.found at s.0 s.1 in
          elim (bind_err (take_items c n s.0.1) (λ z. Ok (s.0.0 ∷ z.0, z.1)) e s.2) [
            | inl d ↦ behind c at s.0 e (items c (suc n)) f
                (stops_in (items_others c p n s.0.0 f.fits) at.0 s.0.1.1 e (subst (λ (k : ℕ). StopsAt (items c n) (k, s.0.1.1) e) f.number (items_stops c p n s.0.1 e d)))
            | inr t ↦ absurd (not_err _ _ _ t.2)
          ]
    ]

items_all : {A : Type 0} (c : LineCodec A) → Lawful c → (k : ℕ) (vs : List A) (n : ℕ) (rest : List ℕ) → (items c k).fits vs
    → take_items c k (n, spell_items c vs ++ rest) ≡ Ok (vs, (n + lines_in (spell_items c vs), rest))
items_all c p k vs n rest fits = subst (λ (j : ℕ). take_items c j (n, spell_items c vs ++ rest) ≡ Ok (vs, (n + lines_in (spell_items c vs), rest))) fits.0 (items_again c p vs n rest fits.1)

pub items_lawful : {A : Type 0} {c : LineCodec A} (n : ℕ) → Lawful c → Lawful (items c n)
items_lawful {A} {c} n p = record {
  some = copies n p.some;
  some_fits = copies_fit c n p.some p.some_fits;
  again = items_all c p n;
  found = items_found c p n;
  stops = items_stops c p n;
}

-- ---- behind a head

-- the head and the parts of a value that was made behind this head are these
pub record GivesParts {V : Type 0} (s : Headed V) : Type 0 where
  pub parts : (x : s.Parts) → s.parts_of (s.make x) ≡ x
  pub head : (h : s.Head) (x : s.Parts) → (s.parts h).fits x → s.head.fits h → s.head_of (s.make x) ≡ h

abbrev PartsLawful : {V : Type 0} → Headed V → Type 0
PartsLawful s = (h : s.Head) → Lawful (s.parts h)

headed_again : {V : Type 0} (s : Headed V) → Lawful s.head → PartsLawful s
    → (v : V) (n : ℕ) (rest : List ℕ) → (headed s).fits v → (headed s).take (n, (headed s).spell v ++ rest) ≡ Ok (v, (n + lines_in ((headed s).spell v), rest))
headed_again {V} s p q v n rest fits =
    let h = s.head_of v in
    let x = s.parts_of v in
    let m : (n + lines_in (s.head.spell h)) + lines_in ((s.parts h).spell x) ≡ n + lines_in (s.head.spell h ++ (s.parts h).spell x) =
    omega (arith, lines_append (s.head.spell h) ((s.parts h).spell x)) in
    ap (λ (t : List ℕ). (headed s).take (n, t)) (append_assoc (s.head.spell h) ((s.parts h).spell x) rest)
    ∙ ap (λ (r : Reading s.Head). r then take_parts s) (p.again h n ((s.parts h).spell x ++ rest) fits.1)
    ∙ ap (λ (r : Reading s.Parts). r then λ y. Ok (s.make y.0, y.1)) ((q h).again x (n + lines_in (s.head.spell h)) rest fits.2)
    ∙ ap (λ (k : ℕ). Ok (s.make x, (k, rest))) m
    ∙ ap (λ (u : V). Ok (u, (n + lines_in ((headed s).spell v), rest))) fits.0

-- what was made behind a head fits, and is spelled by the head and its parts
made_fits : {V : Type 0} (s : Headed V) → GivesParts s → (h : s.Head) (x : s.Parts) → s.head.fits h → (s.parts h).fits x → (headed s).fits (s.make x)
made_fits {V} s g h x f e =
    let head = g.head h x e f in (
      ap s.make (g.parts x),
      subst s.head.fits (sym head) f,
      subst (λ (k : s.Head). (s.parts k).fits (s.parts_of (s.make x))) (sym head) (subst (λ (y : s.Parts). (s.parts h).fits y) (sym (g.parts x)) e),
    )

made_spelled : {V : Type 0} (s : Headed V) → GivesParts s → (h : s.Head) (x : s.Parts) → s.head.fits h → (s.parts h).fits x
    → (headed s).spell (s.make x) ≡ s.head.spell h ++ (s.parts h).spell x
made_spelled s g h x f e =
    ap (λ (k : s.Head). s.head.spell k ++ (s.parts k).spell (s.parts_of (s.make x))) (g.head h x e f)
    ∙ ap (λ (y : s.Parts). s.head.spell h ++ (s.parts h).spell y) (g.parts x)

headed_found : {V : Type 0} (s : Headed V) → GivesParts s → Lawful s.head → PartsLawful s
    → (at : Place) (x : V × Place) → (headed s).take at ≡ Ok x → Found (headed s) at x
headed_found {V} s g p q at x e =
    let a = bind_ok (s.head.take at) (take_parts s) x e in
    let b = bind_ok ((s.parts a.0.0).take a.0.1) (λ y. Ok (s.make y.0, y.1)) x a.2 in
    let f = p.found at a.0 a.1 in
    let i = (q a.0.0).found a.0.1 b.0 b.1 in
    let is = made_spelled s g a.0.0 b.0.0 f.fits i.fits in
    subst (λ (y : V × Place). Found (headed s) at y) (ok_is (s.make b.0.0, b.0.1) x b.2)
    (record {
      whole =
          f.whole
          ∙ ap (λ (u : List ℕ). s.head.spell a.0.0 ++ u) i.whole
          ∙ sym (append_assoc (s.head.spell a.0.0) ((s.parts a.0.0).spell b.0.0) b.0.1.1)
          ∙ ap (λ (u : List ℕ). u ++ b.0.1.1) (sym is);
      number = omega (arith, f.number, i.number, lines_append (s.head.spell a.0.0) ((s.parts a.0.0).spell b.0.0)) ∙ ap (λ (u : List ℕ). at.0 + lines_in u) (sym is);
      fits = made_fits s g a.0.0 b.0.0 f.fits i.fits;
    })

headed_first : {V : Type 0} (s : Headed V) → GivesParts s → PartsLawful s → Inside s.head (headed s) []
headed_first {V} s g q = record {
  value = λ h. s.make (q h).some;
  fits = λ h f. made_fits s g h (q h).some f (q h).some_fits;
  more = λ h. (s.parts h).spell (q h).some;
  spelled = λ h f. made_spelled s g h (q h).some f (q h).some_fits;
  fails = λ n bytes e h. ap (λ (r : Reading s.Head). r then take_parts s) (ap (λ (k : ℕ). s.head.take (k, bytes)) (omega arith) ∙ h);
}

headed_parts : {V : Type 0} (s : Headed V) → GivesParts s → Lawful s.head → (h : s.Head) → s.head.fits h → Inside (s.parts h) (headed s) (s.head.spell h)
headed_parts {V} s g p h f = record {
  value = s.make;
  fits = λ x e. made_fits s g h x f e;
  more = λ x. [];
  spelled = λ x e. made_spelled s g h x f e ∙ ap (λ (t : List ℕ). s.head.spell h ++ t) (sym (append-nil ((s.parts h).spell x)));
  fails = λ n bytes e d.
      ap (λ (r : Reading s.Head). r then take_parts s) (p.again h n bytes f)
      ∙ ap (λ (r : Reading s.Parts). r then λ y. Ok (s.make y.0, y.1)) d;
}

headed_stops : {V : Type 0} (s : Headed V) → GivesParts s → Lawful s.head → PartsLawful s
    → (at : Place) (e : ℕ × LineKind) → (headed s).take at ≡ Err e → StopsAt (headed s) at e
headed_stops {V} s g p q at e h =
    elim (bind_err (s.head.take at) (take_parts s) e h) [
      | inl d ↦ stops_in (headed_first s g q) at.0 at.1 e (subst (λ (k : ℕ). StopsAt s.head (k, at.1) e) (omega arith) (p.stops at e d))
      | inr a ↦
          let f = p.found at a.0 a.1 in
          elim (bind_err ((s.parts a.0.0).take a.0.1) (λ y. Ok (s.make y.0, y.1)) e a.2) [
            | inl d ↦ behind s.head at a.0 e (headed s) f
                (stops_in (headed_parts s g p a.0.0 f.fits) at.0 a.0.1.1 e (subst (λ (k : ℕ). StopsAt (s.parts a.0.0) (k, a.0.1.1) e) f.number ((q a.0.0).stops a.0.1 e d)))
            | inr t ↦ absurd (not_err _ _ _ t.2)
          ]
    ]

pub headed_lawful : {V : Type 0} (s : Headed V) → GivesParts s → Lawful s.head → ((h : s.Head) → Lawful (s.parts h)) → Lawful (headed s)
headed_lawful s g p q = record {
  some = s.make (q p.some).some;
  some_fits = made_fits s g p.some (q p.some).some p.some_fits (q p.some).some_fits;
  again = headed_again s p q;
  found = headed_found s g p q;
  stops = headed_stops s g p q;
}
