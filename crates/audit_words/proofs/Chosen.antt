-- One of several cases, by a name.
use Rattle.std.proofs.Common.{◌≡◌, ◌⊎◌, ℕ, Bool, true, cond, List, [], ◌∷◌, ◌++◌, Ok, Err, Option, Some, None, refl, sym, ap, subst, ◌∙◌, inl, inr}
use Rattle.std.specs.Str.{bytes_eq}
use Rattle.std.proofs.lemmas.List.{append-nil}
use Rattle.audit_words.specs.declared.fault.Kind.{Kind}
use Rattle.audit_words.specs.declared.fault.Kind.TheVariants.{Value}
use Rattle.audit_words.specs.Codecs.{Piece, Plain, Codec, Reading, ◌>>=◌, texts, Case, take_parts, of_cases, take_case, Spelled, cases, option, option_cases, spelled_option}
use Rattle.audit_words.specs.Faults.{Stops, Found, Lawful}
use Rattle.audit_words.specs.Lines.{AreClean}
use Rattle.audit_words.proofs.Basics.{ok_is, bind_ok, bind_err, Inside, stops_in}
use Rattle.audit_words.proofs.Parts.{not_err, nothing_lawful}
use Rattle.audit_words.proofs.Tests.{same_bytes, chosen}
use Rattle.audit_words.proofs.Cleaning.{is_clean, clean_word}

-- a case of the whole: its name leads to it, and what it makes is spelled by its name and its parts
pub record IsCase {V : Type 0} (whole : Codec V) (c : Case V) : Type 0 where
  pub lawful : Lawful c.parts
  pub clean : is_clean c.name ≡ true
  pub routed : (ws : List (List ℕ)) → whole.take (c.name ∷ ws) ≡ take_parts c ws
  pub spelled : (v : c.Parts) → whole.spell (c.make v) ≡ Plain c.name ∷ c.parts.spell v
  pub fits : (v : c.Parts) → c.parts.fits v → whole.fits (c.make v)

pub case_is : {V : Type 0} {whole : Codec V} {c : Case V} → Lawful c.parts → is_clean c.name ≡ true → ((ws : List (List ℕ)) → whole.take (c.name ∷ ws) ≡ take_parts c ws)
    → ((v : c.Parts) → whole.spell (c.make v) ≡ Plain c.name ∷ c.parts.spell v) → ((v : c.Parts) → c.parts.fits v → whole.fits (c.make v)) → IsCase whole c
case_is lawful clean routed spelled fits = record { lawful = lawful; clean = clean; routed = routed; spelled = spelled; fits = fits }

case_found : {V : Type 0} (whole : Codec V) (c : Case V) → IsCase whole c
    → (ws : List (List ℕ)) (x : V × List (List ℕ)) → take_parts c ws ≡ Ok x → Found whole (c.name ∷ ws) x
case_found {V} whole c i ws x e =
    let s = bind_ok (c.parts.take ws) (λ y. Ok (c.make y.0, y.1)) x e in
    let f = i.lawful.found ws s.0 s.1 in
    subst (λ (y : V × List (List ℕ)). Found whole (c.name ∷ ws) y)
    (ok_is (c.make s.0.0, s.0.1) x s.2)
    (record {
      whole = ap (λ (t : List (List ℕ)). c.name ∷ t) f.whole ∙ ap (λ (ps : List Piece). texts ps ++ s.0.1) (sym (i.spelled s.0.0));
      fits = i.fits s.0.0 f.fits;
      clean = subst AreClean (sym (i.spelled s.0.0)) (clean_word c.name i.clean, f.clean);
    })

case_inside : {V : Type 0} (whole : Codec V) (c : Case V) → IsCase whole c → Inside c.parts whole (Plain c.name ∷ [])
case_inside whole c i = record {
  value = c.make;
  fits = i.fits;
  more = λ v. [];
  spelled = λ v f. i.spelled v ∙ ap (λ (ps : List Piece). Plain c.name ∷ ps) (sym (append-nil (c.parts.spell v)));
  fails = λ ws k e. i.routed ws ∙ ap (λ (r : Reading c.Parts). r >>= λ x. Ok (c.make x.0, x.1)) e;
}

case_stops : {V : Type 0} (whole : Codec V) (c : Case V) → IsCase whole c
    → (ws : List (List ℕ)) (k : Kind) → take_parts c ws ≡ Err k → Stops whole (c.name ∷ ws) k
case_stops whole c i ws k e =
    elim (bind_err (c.parts.take ws) (λ y. Ok (c.make y.0, y.1)) k e) [
      | inl h ↦ stops_in (case_inside whole c i) ws k (i.lawful.stops ws k h)
      | inr t ↦ absurd (not_err _ _ _ t.2)
    ]

-- what a case makes of these parts is read again
pub again_in : {A V : Type 0} {parts : Codec A} → Lawful parts → (make : A → V) (a : A) (rest : List (List ℕ)) → parts.fits a
    → (parts.take (texts (parts.spell a) ++ rest) >>= λ x. Ok (make x.0, x.1)) ≡ Ok (make a, rest)
again_in {A} p make a rest f = ap (λ (r : Reading A). r >>= λ x. Ok (make x.0, x.1)) (p.again a rest f)

-- ---- all cases

abbrev pub AreCases : {V : Type 0} → Codec V → List (Case V) → Type 0
AreCases whole [] = Unit {0}
AreCases whole (c ∷ cs) = IsCase whole c × AreCases whole cs

cases_found : {V : Type 0} (whole : Codec V) (cs : List (Case V)) → AreCases whole cs → (w : List ℕ) (ws : List (List ℕ)) (x : V × List (List ℕ))
    → of_cases cs w ws ≡ Ok x → Found whole (w ∷ ws) x
cases_found whole [] all w ws x e = absurd cc
cases_found whole (c ∷ cs) all w ws x e =
    elim (chosen (bytes_eq w c.name) (take_parts c ws) (of_cases cs w ws) (Ok x) e) [
      | inl h ↦ subst (λ (u : List ℕ). Found whole (u ∷ ws) x) (sym (same_bytes w c.name h.0)) (case_found whole c all.0 ws x h.1)
      | inr h ↦ cases_found whole cs all.1 w ws x h.1
    ]

-- a fault is one of a case, or the name is none of theirs
cases_err : {V : Type 0} (whole : Codec V) (cs : List (Case V)) → AreCases whole cs → (w : List ℕ) (ws : List (List ℕ)) (k : Kind)
    → of_cases cs w ws ≡ Err k → (Stops whole (w ∷ ws) k) ⊎ ((k ≡ Value) × ((after : List (List ℕ)) → of_cases cs w after ≡ Err Value))
cases_err whole [] all w ws k e = inr (cc, λ after. refl)
cases_err {V} whole (c ∷ cs) all w ws k e =
    elim (chosen (bytes_eq w c.name) (take_parts c ws) (of_cases cs w ws) (Err k) e) [
      | inl h ↦ inl (subst (λ (u : List ℕ). Stops whole (u ∷ ws) k) (sym (same_bytes w c.name h.0)) (case_stops whole c all.0 ws k h.1))
      | inr h ↦ elim (cases_err whole cs all.1 w ws k h.1) [
        | inl s ↦ inl s
        | inr n ↦ inr (n.0, λ after. ap (λ (b : Bool). cond b (take_parts c after) (of_cases cs w after)) h.0 ∙ n.1 after)
      ]
    ]

-- the cases cover each value, and one value shows that there are any
pub record Covers {V : Type 0} (spelled : V → Spelled) (all : List (Case V)) : Type 0 where
  pub some : V
  pub some_fits : (spelled some).fits
  pub name : List ℕ
  pub more : List Piece
  pub begins : (spelled some).pieces ≡ Plain name ∷ more
  pub again : (v : V) (rest : List (List ℕ)) → (spelled v).fits → take_case all (texts (spelled v).pieces ++ rest) ≡ Ok (v, rest)

all_found : {V : Type 0} (spelled : V → Spelled) (all : List (Case V)) → AreCases (cases spelled all) all
    → (ws : List (List ℕ)) (x : V × List (List ℕ)) → take_case all ws ≡ Ok x → Found (cases spelled all) ws x
all_found spelled all is [] x e = absurd cc
all_found spelled all is (w ∷ ws) x e = cases_found (cases spelled all) all is w ws x e

all_stops : {V : Type 0} (spelled : V → Spelled) (all : List (Case V)) → AreCases (cases spelled all) all → Covers spelled all
    → (ws : List (List ℕ)) (k : Kind) → take_case all ws ≡ Err k → Stops (cases spelled all) ws k
all_stops spelled all is o [] k e = record {
  front = [];
  next = Plain o.name;
  goes_on = record { value = o.some; fits = o.some_fits; more = o.more; spelled = o.begins };
  at = inl (refl, cc);
}
all_stops spelled all is o (w ∷ ws) k e =
    elim (cases_err (cases spelled all) all is w ws k e) [
      | inl s ↦ s
      | inr n ↦ record {
        front = [];
        next = Plain o.name;
        goes_on = record { value = o.some; fits = o.some_fits; more = o.more; spelled = o.begins };
        at = inr (w, ws, refl, n.0, λ after. n.1 after ∙ ap (λ (j : Kind). Err j) (sym n.0));
      }
    ]

-- there is a case
abbrev pub HasCase : {V : Type 0} → List (Case V) → Type 0
HasCase [] = ⊥
HasCase (c ∷ cs) = Unit {0}

-- every value that fits is read again
abbrev pub AreAgain : {V : Type 0} → Codec V → Type 0
AreAgain {V} c = (v : V) (rest : List (List ℕ)) → c.fits v → c.take (texts (c.spell v) ++ rest) ≡ Ok (v, rest)

covers : {V : Type 0} (spelled : V → Spelled) (all : List (Case V)) → HasCase all → AreCases (cases spelled all) all
    → AreAgain (cases spelled all) → Covers spelled all
covers spelled [] has is again = absurd has
covers spelled (c ∷ cs) has is again = record {
  some = c.make is.0.lawful.some;
  some_fits = is.0.fits is.0.lawful.some is.0.lawful.some_fits;
  name = c.name;
  more = c.parts.spell is.0.lawful.some;
  begins = is.0.spelled is.0.lawful.some;
  again = again;
}

pub cases_lawful : {V : Type 0} (spelled : V → Spelled) (all : List (Case V)) → HasCase all → AreCases (cases spelled all) all
    → AreAgain (cases spelled all) → Lawful (cases spelled all)
cases_lawful spelled all has is again =
    let o = covers spelled all has is again in
    record {
      some = o.some;
      some_fits = o.some_fits;
      again = again;
      found = all_found spelled all is;
      stops = all_stops spelled all is o;
    }

-- ---- an option

option_again : {A : Type 0} (c : Codec A) → Lawful c
    → (o : Option A) (rest : List (List ℕ)) → (option c).fits o → (option c).take (texts ((option c).spell o) ++ rest) ≡ Ok (o, rest)
option_again c p None rest f = refl
option_again c p (Some v) rest f = again_in p (λ u. Some u) v rest f

pub option_lawful : {A : Type 0} {c : Codec A} → Lawful c → Lawful (option c)
option_lawful {A} {c} p =
    cases_lawful (spelled_option c) (option_cases c) tt
    (case_is nothing_lawful refl (λ ws. refl) (λ v. refl) (λ v f. tt), (case_is p refl (λ ws. refl) (λ v. refl) (λ v f. f), tt))
    (option_again c p)
