-- Parts one after the other, and a value that is made of its parts.
use Rattle.std.proofs.Common.{◌≡◌, ℕ, List, [], ◌++◌, Result, Ok, Err, refl, sym, ap, subst, ◌∙◌, inl, inr}
use Rattle.std.proofs.lemmas.List.{append-nil}
use Rattle.audit_words.specs.declared.fault.Kind.{Kind}
use Rattle.audit_words.specs.Codecs.{Piece, Codec, Reading, ◌>>=◌, texts, nothing, ◌&◌, Shape, made}
use Rattle.audit_words.specs.Faults.{Stops, Found, Lawful}
use Rattle.audit_words.specs.Lines.{AreClean}
use Rattle.audit_words.proofs.Basics.{regroup, clean_append, ok_is, ok_parts, bind_ok, bind_err, Inside, stops_in}

abbrev done : {A : Type 0} → A → Result A Kind
done x = Ok x

pub not_err : (A : Type 0) (x : A) (k : Kind) → done x ≡ Err k → ⊥
not_err A x k e = cc

nothing_found : (ws : List (List ℕ)) (x : Unit {0} × List (List ℕ)) → nothing.take ws ≡ Ok x → Found nothing ws x
nothing_found ws x e = record { whole = (ok_parts _ (tt, ws) x e).1; fits = tt; clean = tt }

nothing_stops : (ws : List (List ℕ)) (k : Kind) → nothing.take ws ≡ Err k → Stops nothing ws k
nothing_stops ws k e = absurd cc

pub nothing_lawful : Lawful nothing
nothing_lawful = record { some = tt; some_fits = tt; again = λ v rest fits. refl; found = nothing_found; stops = nothing_stops }

-- ---- two parts

both_again : {A B : Type 0} (a : Codec A) (b : Codec B) → Lawful a → Lawful b
    → (x : A × B) (rest : List (List ℕ)) → (a & b).fits x → (a & b).take (texts ((a & b).spell x) ++ rest) ≡ Ok (x, rest)
both_again a b p q x rest fits =
    ap (a & b).take (regroup (a.spell x.0) (b.spell x.1) rest)
    ∙ ap (λ r. r >>= λ y. b.take y.1 >>= λ z. Ok ((y.0, z.0), z.1)) (p.again x.0 (texts (b.spell x.1) ++ rest) fits.0)
    ∙ ap (λ r. r >>= λ z. Ok ((x.0, z.0), z.1)) (q.again x.1 rest fits.1)

both_found : (A B : Type 0) (a : Codec A) (b : Codec B) → Lawful a → Lawful b
    → (ws : List (List ℕ)) (x : (A × B) × List (List ℕ)) → (a & b).take ws ≡ Ok x → Found (a & b) ws x
both_found A B a b p q ws x e =
    let s = bind_ok (a.take ws) (λ y. b.take y.1 >>= λ z. Ok ((y.0, z.0), z.1)) x e in
    let t = bind_ok (b.take s.0.1) (λ z. Ok ((s.0.0, z.0), z.1)) x s.2 in
    let f = p.found ws s.0 s.1 in
    let g = q.found s.0.1 t.0 t.1 in
    subst (λ (y : (A × B) × List (List ℕ)). Found (a & b) ws y)
    (ok_is ((s.0.0, t.0.0), t.0.1) x t.2)
    (record {
      whole = f.whole ∙ ap (λ (u : List (List ℕ)). texts (a.spell s.0.0) ++ u) g.whole ∙ sym (regroup (a.spell s.0.0) (b.spell t.0.0) t.0.1);
      fits = (f.fits, g.fits);
      clean = clean_append (a.spell s.0.0) (b.spell t.0.0) f.clean g.clean;
    })

both_first : (A B : Type 0) (a : Codec A) (b : Codec B) → Lawful b → Inside a (a & b) []
both_first A B a b q = record {
  value = λ v. (v, q.some);
  fits = λ v f. (f, q.some_fits);
  more = λ v. b.spell q.some;
  spelled = λ v f. refl;
  fails = λ ws k e. ap (λ (r : Reading A). r >>= λ y. b.take y.1 >>= λ z. Ok ((y.0, z.0), z.1)) e;
}

both_second : (A B : Type 0) (a : Codec A) (b : Codec B) → Lawful a → (v : A) → a.fits v → Inside b (a & b) (a.spell v)
both_second A B a b p v f = record {
  value = λ u. (v, u);
  fits = λ u g. (f, g);
  more = λ u. [];
  spelled = λ u g. ap (λ (ps : List Piece). a.spell v ++ ps) (sym (append-nil (b.spell u)));
  fails = λ ws k e.
      ap (λ (r : Reading A). r >>= λ y. b.take y.1 >>= λ z. Ok ((y.0, z.0), z.1)) (p.again v ws f)
      ∙ ap (λ (r : Reading B). r >>= λ z. Ok ((v, z.0), z.1)) e;
}

both_stops : (A B : Type 0) (a : Codec A) (b : Codec B) → Lawful a → Lawful b
    → (ws : List (List ℕ)) (k : Kind) → (a & b).take ws ≡ Err k → Stops (a & b) ws k
both_stops A B a b p q ws k e =
    elim (bind_err (a.take ws) (λ y. b.take y.1 >>= λ z. Ok ((y.0, z.0), z.1)) k e) [
      | inl h ↦ stops_in (both_first A B a b q) ws k (p.stops ws k h)
      | inr s ↦
          let f = p.found ws s.0 s.1 in
          elim (bind_err (b.take s.0.1) (λ z. Ok ((s.0.0, z.0), z.1)) k s.2) [
            | inl h ↦ subst (λ (u : List (List ℕ)). Stops (a & b) u k) (sym f.whole)
                (stops_in (both_second A B a b p s.0.0 f.fits) s.0.1 k (q.stops s.0.1 k h))
            | inr t ↦ absurd (not_err _ _ _ t.2)
          ]
    ]

pub both_lawful : {A B : Type 0} {a : Codec A} {b : Codec B} → Lawful a → Lawful b → Lawful (a & b)
both_lawful {A} {B} {a} {b} p q = record {
  some = (p.some, q.some);
  some_fits = (p.some_fits, q.some_fits);
  again = both_again a b p q;
  found = both_found A B a b p q;
  stops = both_stops A B a b p q;
}

-- ---- made of parts

-- the parts of a value that was made are those that it was made of
abbrev pub GivesParts : {V : Type 0} → Shape V → Type 0
GivesParts s = (x : s.Parts) → s.parts_of (s.make x) ≡ x

made_again : {V : Type 0} (s : Shape V) → Lawful s.parts
    → (v : V) (rest : List (List ℕ)) → (made s).fits v → (made s).take (texts ((made s).spell v) ++ rest) ≡ Ok (v, rest)
made_again {V} s p v rest fits =
    ap (λ (r : Reading s.Parts). r >>= λ x. Ok (s.make x.0, x.1)) (p.again (s.parts_of v) rest fits.1)
    ∙ ap (λ (u : V). Ok (u, rest)) fits.0

made_fits : {V : Type 0} (s : Shape V) → GivesParts s → (x : s.Parts) → s.parts.fits x → (made s).fits (s.make x)
made_fits s parts x f = (ap s.make (parts x), subst s.parts.fits (sym (parts x)) f)

made_found : {V : Type 0} (s : Shape V) → GivesParts s → Lawful s.parts
    → (ws : List (List ℕ)) (x : V × List (List ℕ)) → (made s).take ws ≡ Ok x → Found (made s) ws x
made_found {V} s parts p ws x e =
    let t = bind_ok (s.parts.take ws) (λ y. Ok (s.make y.0, y.1)) x e in
    let f = p.found ws t.0 t.1 in
    subst (λ (y : V × List (List ℕ)). Found (made s) ws y)
    (ok_is (s.make t.0.0, t.0.1) x t.2)
    (record {
      whole = f.whole ∙ ap (λ (u : s.Parts). texts (s.parts.spell u) ++ t.0.1) (sym (parts t.0.0));
      fits = made_fits s parts t.0.0 f.fits;
      clean = subst (λ (u : s.Parts). AreClean (s.parts.spell u)) (sym (parts t.0.0)) f.clean;
    })

made_inside : {V : Type 0} (s : Shape V) → GivesParts s → Inside s.parts (made s) []
made_inside s parts = record {
  value = s.make;
  fits = made_fits s parts;
  more = λ v. [];
  spelled = λ v f. ap s.parts.spell (parts v) ∙ sym (append-nil (s.parts.spell v));
  fails = λ ws k e. ap (λ (r : Reading s.Parts). r >>= λ x. Ok (s.make x.0, x.1)) e;
}

made_stops : {V : Type 0} (s : Shape V) → GivesParts s → Lawful s.parts
    → (ws : List (List ℕ)) (k : Kind) → (made s).take ws ≡ Err k → Stops (made s) ws k
made_stops s parts p ws k e =
    elim (bind_err (s.parts.take ws) (λ y. Ok (s.make y.0, y.1)) k e) [
      | inl h ↦ stops_in (made_inside s parts) ws k (p.stops ws k h)
      | inr t ↦ absurd (not_err _ _ _ t.2)
    ]

pub made_lawful : {V : Type 0} (s : Shape V) → GivesParts s → Lawful s.parts → Lawful (made s)
made_lawful s parts p = record {
  some = s.make p.some;
  some_fits = made_fits s parts p.some p.some_fits;
  again = made_again s p;
  found = made_found s parts p;
  stops = made_stops s parts p;
}

-- the laws of parts, written as the parts are
infixr 30 ◌⊗◌
pub ◌⊗◌ : {A B : Type 0} {a : Codec A} {b : Codec B} → Lawful a → Lawful b → Lawful (a & b)
p ⊗ q = both_lawful p q
