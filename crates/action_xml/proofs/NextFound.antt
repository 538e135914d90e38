-- What is read as coming next in an element has the form.
use Rattle.std.proofs.Common.{◌≡◌, ℕ, ◌==◌, List, [], ◌∷◌, ◌++◌, length, Bool, true, false, Ok, refl, sym, ap, ◌∙◌, subst, append_assoc, Result}
use Rattle.std.specs.Prelude.{if◌then◌else◌}
use Rattle.xml_pieces.specs.declared.fault.Fault.{Fault}
use Rattle.xml_pieces.specs.Reading.{◌>>=◌, malformed, On, Done, Step}
use Rattle.xml_pieces.specs.Bytes.{is_space, behind_spaces, name}
use Rattle.xml_pieces.specs.Markup.{declaration, end_tag}
use Rattle.xml_pieces.specs.Children.{Next, Child, End, next_markup, next_by, next_step, next}
use Rattle.action_xml.specs.TextForm.{IsWhite, comment_bytes}
use Rattle.action_xml.specs.GapForm.{Gap, Space, Comment, IsGap, gaps_bytes, AreGaps, IsNext}
use Rattle.action_xml.proofs.Steps.{steps_found, not_on, not_done, on_same, done_same}
use Rattle.action_xml.proofs.TextsFound.{bind_ok, skip_found, eq_of, comment_found, end_found}
use Rattle.action_xml.proofs.AttributesFound.{name_form}

abbrev on : List ℕ → Result (Step (List ℕ) Next) Fault
on s = Ok (On s)

abbrev done : Next → Result (Step (List ℕ) Next) Fault
done x = Ok (Done x)

-- white space in front of what follows
pub record NextForm (parent bytes : List ℕ) (x : Next) : Type 0 where
  pub gaps : List Gap
  pub are : AreGaps gaps
  pub here : List ℕ
  pub bytes_are : bytes ≡ gaps_bytes gaps ++ here
  pub is : IsNext parent x here

behind_white : (parent : List ℕ) (x : Next) (front bytes rest : List ℕ) → IsWhite front → bytes ≡ front ++ rest → NextForm parent rest x → NextForm parent bytes x
behind_white parent x [] bytes rest white split form = subst (λ b. NextForm parent b x) (sym split) form
behind_white parent x (w ∷ front) bytes rest white split form =
    let f = behind_white parent x front (front ++ rest) rest white.1 refl form in
    record {
      gaps = Space w ∷ f.gaps;
      are = (white.0, f.are);
      here = f.here;
      bytes_are = split ∙ ap (λ r. w ∷ r) f.bytes_are;
      is = f.is;
    }

behind_comment : (parent : List ℕ) (x : Next) (inside bytes rest : List ℕ) → IsGap (Comment inside) → bytes ≡ comment_bytes inside ++ rest → NextForm parent rest x → NextForm parent bytes x
behind_comment parent x inside bytes rest is split form = record {
  gaps = Comment inside ∷ form.gaps;
  are = (is, form.are);
  here = form.here;
  bytes_are = split ∙ ap (λ r. comment_bytes inside ++ r) form.bytes_are ∙ sym (append_assoc (comment_bytes inside) (gaps_bytes form.gaps) form.here);
  is = form.is;
}

nothing_before : (parent here : List ℕ) (x : Next) → IsNext parent x here → NextForm parent here x
nothing_before parent here x is = record { gaps = []; are = tt; here = here; bytes_are = refl; is = is }

-- at `<`, a comment
markup_on : (parent bytes t : List ℕ) (x : Next) → next_markup parent (60 ∷ bytes) bytes ≡ Ok (On t) → NextForm parent t x → NextForm parent (60 ∷ bytes) x
markup_on parent [] t x e form = absurd cc
markup_on parent (c ∷ bytes) t x e form = of (c == 33) (c == 47) (c == 63) e
  where
    here : List ℕ
    here = 60 ∷ c ∷ bytes

    of : (u v w : Bool)
        → (if u then (declaration here >>= λ rest. on rest) else (if v then (end_tag parent here >>= λ rest. done (End rest)) else (if w then malformed here else (name here (c ∷ bytes) >>= λ n. done (Child n.0 here n.1))))) ≡ Ok (On t)
        → NextForm parent here x
    of true v w e =
        let b = bind_ok (declaration here) (λ rest. on rest) (On t) e in
        let f = comment_found here b.0 b.1 in
        behind_comment parent x f.0 here t f.1 (f.2 ∙ ap (λ r. comment_bytes f.0 ++ r) (on_same b.0 t b.2)) form
    of false true w e = let b = bind_ok (end_tag parent here) (λ rest. done (End rest)) (On t) e in absurd (not_on (End b.0) t b.2)
    of false false true e = absurd cc
    of false false false e = let b = bind_ok (name here (c ∷ bytes)) (λ n. done (Child n.0 here n.1)) (On t) e in absurd (not_on (Child b.0.0 here b.0.1) t b.2)

-- at `<`, an element or the end tag
markup_done : (parent bytes : List ℕ) (x : Next) → next_markup parent (60 ∷ bytes) bytes ≡ Ok (Done x) → IsNext parent x (60 ∷ bytes)
markup_done parent [] x e = absurd cc
markup_done parent (c ∷ bytes) x e = of (c == 33) (c == 47) (c == 63) refl e
  where
    here : List ℕ
    here = 60 ∷ c ∷ bytes

    of : (u v w : Bool) → (c == 47) ≡ v
        → (if u then (declaration here >>= λ rest. on rest) else (if v then (end_tag parent here >>= λ rest. done (End rest)) else (if w then malformed here else (name here (c ∷ bytes) >>= λ n. done (Child n.0 here n.1))))) ≡ Ok (Done x)
        → IsNext parent x here
    of true v w p e = let b = bind_ok (declaration here) (λ rest. on rest) (Done x) e in absurd (not_done x b.0 b.2)
    of false true w p e =
        let b = bind_ok (end_tag parent here) (λ rest. done (End rest)) (Done x) e in
        let slash : c ≡ 47 = eq_of c 47 p in
        let f = end_found parent bytes b.0 (ap (λ d. end_tag parent (60 ∷ d ∷ bytes)) (sym slash) ∙ b.1) in
        subst (λ y. IsNext parent y here) (done_same (End b.0) x b.2) (f.0, f.1, ap (λ d. 60 ∷ d ∷ bytes) slash ∙ ap (λ r. 60 ∷ 47 ∷ r) f.2)
    of false false true p e = absurd cc
    of false false false p e =
        let b = bind_ok (name here (c ∷ bytes)) (λ n. done (Child n.0 here n.1)) (Done x) e in
        let f = name_form here (c ∷ bytes) b.0 b.1 in
        subst (λ y. IsNext parent y here) (done_same (Child b.0.0 here b.0.1) x b.2) (refl, f.is, ap (λ r. 60 ∷ r) f.bytes_are)

step_on : (parent bytes t : List ℕ) (x : Next) → next_step parent bytes ≡ Ok (On t) → NextForm parent t x → NextForm parent bytes x
unfolding next_step
step_on parent bytes t x e form = let f = skip_found is_space bytes in by f.0 f.1 (behind_spaces bytes) f.2 e
  where
    by : (front : List ℕ) → IsWhite front → (rest : List ℕ) → bytes ≡ front ++ rest → next_by parent rest ≡ Ok (On t) → NextForm parent bytes x
    by front white [] split e = absurd cc
    by front white (b ∷ rest) split e = of (b == 60) refl e
      where
        of : (u : Bool) → (b == 60) ≡ u → (if u then next_markup parent (b ∷ rest) rest else malformed (b ∷ rest)) ≡ Ok (On t) → NextForm parent bytes x
        of true p e =
            let same : b ≡ 60 = eq_of b 60 p in
            let m = markup_on parent rest t x (ap (λ c. next_markup parent (c ∷ rest) rest) (sym same) ∙ e) form in
            behind_white parent x front bytes (60 ∷ rest) white (split ∙ ap (λ c. front ++ c ∷ rest) same) m
        of false p e = absurd cc

step_done : (parent bytes : List ℕ) (x : Next) → next_step parent bytes ≡ Ok (Done x) → NextForm parent bytes x
unfolding next_step
step_done parent bytes x e = let f = skip_found is_space bytes in by f.0 f.1 (behind_spaces bytes) f.2 e
  where
    by : (front : List ℕ) → IsWhite front → (rest : List ℕ) → bytes ≡ front ++ rest → next_by parent rest ≡ Ok (Done x) → NextForm parent bytes x
    by front white [] split e = absurd cc
    by front white (b ∷ rest) split e = of (b == 60) refl e
      where
        of : (u : Bool) → (b == 60) ≡ u → (if u then next_markup parent (b ∷ rest) rest else malformed (b ∷ rest)) ≡ Ok (Done x) → NextForm parent bytes x
        of true p e =
            let same : b ≡ 60 = eq_of b 60 p in
            let m = markup_done parent rest x (ap (λ c. next_markup parent (c ∷ rest) rest) (sym same) ∙ e) in
            behind_white parent x front bytes (60 ∷ rest) white (split ∙ ap (λ c. front ++ c ∷ rest) same) (nothing_before parent (60 ∷ rest) x m)
        of false p e = absurd cc

pub next_found : (parent bytes : List ℕ) (x : Next) → next parent bytes ≡ Ok x → NextForm parent bytes x
unfolding next
next_found parent bytes x e = steps_found (next_step parent) (λ s y. NextForm parent s y) (λ s y last. step_done parent s y last) (λ s t y step form. step_on parent s t y step form) (length bytes) bytes x e
