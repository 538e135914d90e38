-- One line of a text.
use Rattle.std.proofs.Common.{◌≡◌, ◌≢◌, ℕ, suc, ◌+◌, Bool, true, false, cond, ◌==◌, List, [], ◌∷◌, ◌++◌, Result, Ok, Err, Option, Some, None, refl, sym, ap, subst, ◌∙◌, append_assoc, inl, inr, arith}
use Rattle.std.specs.Str.{bytes_eq}
use Rattle.std.proofs.lemmas.List.{append-nil}
use Rattle.std.proofs.lemmas.Slice.Eq.{bytes_eq-Decides}
use Rattle.pk_types.specs.Pieces.{Lacks, pieces_of, onto_first}
use Rattle.pk_types.proofs.Cuts.{lacks_append}
use Rattle.audit_words.specs.declared.fault.Kind.{Kind}
use Rattle.audit_words.specs.Codecs.{Piece, Codec, text_of, texts, whole, and_ended}
use Rattle.audit_words.specs.Faults as words
use Rattle.audit_words.specs.Lines.{written, joined, IsClean, AreClean, cut_at}
use Rattle.audit_words.proofs.Basics.{clean_of}
use Rattle.audit_words.proofs.Cleaning.{is_clean, clean_word}
use Rattle.audit_words.proofs.Cutting.{separator_at, cut_only, none_lacks}
use Rattle.audit_words.proofs.Splitting.{split_again, split_found}
use Rattle.audit_words.proofs.Tests.{same_bytes, chosen}
use Rattle.audit_words.proofs.Written.{written_spaced}
use Rattle.audit_text.specs.declared.fault.LineKind.{LineKind}
use Rattle.audit_text.specs.declared.fault.LineKind.TheVariants as kind
use Rattle.audit_text.specs.Lines.{Place, lines_in, kind_of_words, of_whole, value_of, on_line, take_line, line}
use Rattle.audit_text.specs.Faults.{Cause}
use Rattle.audit_text.proofs.Basics.{ok_is, err_is, lines_one, cause_as, Found, Refuses, StopsAt, Lawful}

written_clean : (ps : List Piece) → AreClean ps → Lacks 10 (written ps)
unfolding written
written_clean [] clean = tt
written_clean (p ∷ ps) clean = (λ e. omega arith, lacks_append 10 (text_of p) (written ps) clean.0.1 (written_clean ps clean.1))

same_word : (w : List ℕ) → bytes_eq w w ≡ true
same_word w = grind (arith, bytes_eq-Decides w w)

other_word : (v w : List ℕ) → bytes_eq v w ≡ false → v ≢ w
other_word v w e = λ z. absurd (grind (arith, bytes_eq-Decides v w))

-- ---- a line of these words

abbrev a_value : {V : Type 0} → V → Result V LineKind
a_value v = Ok v

abbrev a_kind : {V : Type 0} → LineKind → Result V LineKind
a_kind k = Err k

value_again : {V : Type 0} (word : List ℕ) (c : Codec V) → words.Lawful c → (v : V) → c.fits v → value_of word c (word ∷ texts (c.spell v)) ≡ a_value v
value_again {V} word c p v f =
    ap (λ (t : Bool). cond t (of_whole (whole c (texts (c.spell v)))) (Err kind.Word)) (same_word word)
    ∙ ap (λ (ws : List (List ℕ)). of_whole (whole c ws)) (sym (append-nil (texts (c.spell v))))
    ∙ ap (λ (r : Result (V × List (List ℕ)) Kind). of_whole (and_ended r)) (p.again v [] f)

-- the bytes of a value's line, behind which others stand
text_line : (word : List ℕ) (ps : List Piece) (rest : List ℕ) → ((word ++ written ps) ++ 10 ∷ []) ++ rest ≡ (word ++ written ps) ++ 10 ∷ rest
text_line word ps rest = append_assoc (word ++ written ps) (10 ∷ []) rest

line_lacks : (word : List ℕ) (ps : List Piece) → IsClean word → AreClean ps → Lacks 10 (word ++ written ps)
line_lacks word ps clean all = lacks_append 10 word (written ps) clean.1 (written_clean ps all)

line_again : {V : Type 0} (word : List ℕ) (c : Codec V) → IsClean word → words.Lawful c
    → (v : V) (n : ℕ) (rest : List ℕ) → c.fits v → (line word c).take (n, (line word c).spell v ++ rest) ≡ Ok (v, (n + lines_in ((line word c).spell v), rest))
line_again {V} word c clean p v n rest f =
    let all = clean_of p v f in
    let lacks = line_lacks word (c.spell v) clean all in
    let one : suc n ≡ n + lines_in ((word ++ written (c.spell v)) ++ 10 ∷ []) = omega (arith, lines_one (word ++ written (c.spell v)) lacks) in
    ap (λ (t : List ℕ). take_line word c n (cut_at 10 t)) (text_line word (c.spell v) rest)
    ∙ ap (λ (o : Option (List ℕ × List ℕ)). take_line word c n o) (separator_at 10 (word ++ written (c.spell v)) rest lacks)
    ∙ ap (λ (ws : List (List ℕ)). on_line n rest (value_of word c ws)) (split_again word (c.spell v) clean.0 all)
    ∙ ap (λ (r : Result V LineKind). on_line n rest r) (value_again word c p v f)
    ∙ ap (λ (m : ℕ). Ok (v, (m, rest))) one

-- ---- what a line says

value_is : {V : Type 0} (u v : V) → a_value u ≡ Ok v → u ≡ v
value_is u v e = cc

value_not : {V : Type 0} (v : V) (k : LineKind) → a_value v ≡ Err k → ⊥
value_not v k e = cc

kind_not : {V : Type 0} (v : V) (k : LineKind) → a_kind k ≡ Ok v → ⊥
kind_not v k e = cc

kind_is : (V : Type 0) (j k : LineKind) → a_kind {V = V} j ≡ Err k → j ≡ k
kind_is V j k e = cc

whole_ok : {V : Type 0} (c : Codec V) (ws : List (List ℕ)) (v : V) → of_whole (whole c ws) ≡ Ok v → c.take ws ≡ Ok (v, [])
whole_ok {V} c ws v e = of (c.take ws) refl e
  where
    of : (r : Result (V × List (List ℕ)) Kind) → c.take ws ≡ r → of_whole (and_ended r) ≡ Ok v → c.take ws ≡ Ok (v, [])
    of (Ok (u, [])) d h = d ∙ ap (λ (x : V). Ok (x, [])) (value_is u v h)
    of (Ok (u, w ∷ us)) d h = absurd (kind_not v kind.Count h)
    of (Err k) d h = absurd (kind_not v (kind_of_words k) h)

-- a line's words are its value's
pub record Says {V : Type 0} (word : List ℕ) (c : Codec V) (ws : List (List ℕ)) (v : V) : Type 0 where
  pub words_are : ws ≡ word ∷ texts (c.spell v)
  pub fits : c.fits v
  pub clean : AreClean (c.spell v)

value_found : {V : Type 0} (word : List ℕ) (c : Codec V) → words.Lawful c → (ws : List (List ℕ)) (v : V) → value_of word c ws ≡ Ok v → Says word c ws v
value_found word c p [] v e = absurd (kind_not v kind.Word e)
value_found word c p (w ∷ ws) v e =
    elim (chosen (bytes_eq w word) (of_whole (whole c ws)) (Err kind.Word) (Ok v) e) [
      | inl h ↦
          let f = p.found ws (v, []) (whole_ok c ws v h.1) in
          record {
            words_are = ap (λ (t : List ℕ). t ∷ ws) (same_bytes w word h.0) ∙ ap (λ (t : List (List ℕ)). word ∷ t) (f.whole ∙ append-nil (texts (c.spell v)));
            fits = f.fits;
            clean = f.clean;
          }
      | inr h ↦ absurd (kind_not v kind.Word h.1)
    ]

on_ok : {V : Type 0} (n : ℕ) (rest : List ℕ) (r : Result V LineKind) (x : V × Place) → on_line n rest r ≡ Ok x → (r ≡ Ok x.0) × (x.1 ≡ (suc n, rest))
on_ok {V} n rest (Ok v) x e =
    let same = ok_is (v, (suc n, rest)) x e in
    (ap (λ (y : V × Place). Ok y.0) same, sym (ap (λ (y : V × Place). y.1) same))
on_ok n rest (Err k) x e = absurd cc

-- the line of these words
line_of_words : (word l : List ℕ) (ps : List Piece) → pieces_of 32 l ≡ word ∷ texts ps → l ≡ word ++ written ps
line_of_words word l ps e = sym (split_found l) ∙ ap joined e ∙ ap (λ (t : List ℕ). word ++ t) (sym (written_spaced ps))

line_found : {V : Type 0} (word : List ℕ) (c : Codec V) → IsClean word → words.Lawful c
    → (p : Place) (x : V × Place) → (line word c).take p ≡ Ok x → Found (line word c) p x
line_found {V} word c clean law p x e = of (cut_at 10 p.1) refl e
  where
    of : (o : Option (List ℕ × List ℕ)) → cut_at 10 p.1 ≡ o → take_line word c p.0 o ≡ Ok x → Found (line word c) p x
    of None d h = absurd cc
    of (Some y) d h =
        let cut = cut_only 10 p.1 y d in
        let r = on_ok p.0 y.1 (value_of word c (pieces_of 32 y.0)) x h in
        let s = value_found word c law (pieces_of 32 y.0) x.0 r.0 in
        let l : y.0 ≡ word ++ written (c.spell x.0) = line_of_words word y.0 (c.spell x.0) s.words_are in
        let lacks = line_lacks word (c.spell x.0) clean s.clean in
        let number : x.1.0 ≡ suc p.0 = ap (λ (q : Place). q.0) r.1 in
        let rest : y.1 ≡ x.1.1 = sym (ap (λ (q : Place). q.1) r.1) in
        record {
          whole = cut.whole ∙ ap (λ (t : List ℕ). t ++ 10 ∷ y.1) l ∙ sym (text_line word (c.spell x.0) y.1) ∙ ap (λ (t : List ℕ). ((word ++ written (c.spell x.0)) ++ 10 ∷ []) ++ t) rest;
          number = omega (arith, number, lines_one (word ++ written (c.spell x.0)) lacks);
          fits = s.fits;
        }

-- ---- what is wrong with a line

abbrev RefusesWords : {V : Type 0} → List ℕ → Codec V → LineKind → List (List ℕ) → Type 0
RefusesWords word c k ws = value_of word c ws ≡ Err k

over_kind : {V : Type 0} (word : List ℕ) (c : Codec V) → words.Lawful c → (v : V) → c.fits v → (w : List ℕ) (after : List (List ℕ))
    → of_whole (whole c (texts (c.spell v) ++ w ∷ after)) ≡ a_kind kind.Count
over_kind {V} word c p v f w after = ap (λ (r : Result (V × List (List ℕ)) Kind). of_whole (and_ended r)) (p.again v (w ∷ after) f)

wrong_kind : {V : Type 0} (c : Codec V) (ws : List (List ℕ)) (k : Kind) → c.take ws ≡ Err k → of_whole (whole c ws) ≡ a_kind (kind_of_words k)
wrong_kind {V} c ws k e = ap (λ (r : Result (V × List (List ℕ)) Kind). of_whole (and_ended r)) e

due_word : {V : Type 0} (word : List ℕ) (c : Codec V) (ws : List (List ℕ)) (k : LineKind) → of_whole (whole c ws) ≡ Err k → value_of word c (word ∷ ws) ≡ Err k
due_word word c ws k e = ap (λ (t : Bool). cond t (of_whole (whole c ws)) (Err kind.Word)) (same_word word) ∙ e

-- a fitting value, whose pieces are due, and the cause
pub record Due {V : Type 0} (word : List ℕ) (c : Codec V) (ws : List (List ℕ)) (k : LineKind) : Type 0 where
  pub value : V
  pub fits : c.fits value
  pub cause : Cause word (c.spell value) (RefusesWords word c k) ws k

words_stop : {V : Type 0} (word : List ℕ) (c : Codec V) (ws : List (List ℕ)) (k : Kind) → c.take ws ≡ Err k → words.Stops c ws k → Due word c (word ∷ ws) (kind_of_words k)
words_stop {V} word c ws k e s =
    record {
      value = s.goes_on.value;
      fits = s.goes_on.fits;
      cause = elim s.at as (λ _. Cause word (c.spell s.goes_on.value) (RefusesWords word c (kind_of_words k)) (word ∷ ws) (kind_of_words k)) [
        | inl a ↦ inl (inr (record {
          front = s.front;
          next = s.next;
          more = s.goes_on.more;
          due = s.goes_on.spelled;
          is = ap (λ (t : List (List ℕ)). word ∷ t) a.0;
          count = ap kind_of_words a.1;
          refused = due_word word c (texts s.front) (kind_of_words k) (wrong_kind c (texts s.front) k (ap c.take (sym a.0) ∙ e));
        }))
        | inr a ↦ inr (inl (record {
          front = s.front;
          next = s.next;
          more = s.goes_on.more;
          due = s.goes_on.spelled;
          wrong = a.0;
          others = a.1;
          is = ap (λ (t : List (List ℕ)). word ∷ t) a.2;
          kind_due = ap kind_of_words a.3;
          refused = λ after. due_word word c (texts s.front ++ a.0 ∷ after) (kind_of_words k) (wrong_kind c (texts s.front ++ a.0 ∷ after) k (a.4 after));
        }))
      ];
    }

-- a line has a first word
pub record HasWord (l : List ℕ) : Type 0 where
  pub first : List ℕ
  pub others : List (List ℕ)
  pub are : pieces_of 32 l ≡ first ∷ others

word_step : (t : Bool) (b : ℕ) (w : List ℕ) (ws : List (List ℕ)) → (first : List ℕ) × (others : List (List ℕ)) × (cond t ([] ∷ w ∷ ws) ((b ∷ w) ∷ ws) ≡ first ∷ others)
word_step true b w ws = ([], w ∷ ws, refl)
word_step false b w ws = (b ∷ w, ws, refl)

has_word : (l : List ℕ) → HasWord l
has_word [] = record { first = []; others = []; are = refl }
has_word (b ∷ bs) =
    let h = has_word bs in
    let s = word_step (b == 32) b h.first h.others in
    record { first = s.0; others = s.1; are = ap (λ (ws : List (List ℕ)). cond (b == 32) ([] ∷ ws) (onto_first b ws)) h.are ∙ s.2 }

whole_err : {V : Type 0} (word : List ℕ) (c : Codec V) → words.Lawful c → (ws : List (List ℕ)) (k : LineKind) → of_whole (whole c ws) ≡ Err k → Due word c (word ∷ ws) k
whole_err {V} word c p ws k e = of (c.take ws) refl e
  where
    of : (r : Result (V × List (List ℕ)) Kind) → c.take ws ≡ r → of_whole (and_ended r) ≡ Err k → Due word c (word ∷ ws) k
    of (Ok (v, [])) d h = absurd (value_not v k h)
    of (Ok (v, w ∷ us)) d h =
        let f = p.found ws (v, w ∷ us) d in
        subst (λ (j : LineKind). Due word c (word ∷ ws) j) (kind_is V kind.Count k h) (record {
          value = v;
          fits = f.fits;
          cause = inr (inr (record {
            first = w;
            others = us;
            is = ap (λ (t : List (List ℕ)). word ∷ t) f.whole;
            count = refl;
            refused = λ after. due_word word c (texts (c.spell v) ++ w ∷ after) kind.Count (over_kind word c p v f.fits w after);
          }));
        })
    of (Err j) d h = subst (λ (i : LineKind). Due word c (word ∷ ws) i) (kind_is V (kind_of_words j) k h) (words_stop word c ws j d (p.stops ws j d))

value_stops : {V : Type 0} (word : List ℕ) (c : Codec V) → words.Lawful c → (w : List ℕ) (ws : List (List ℕ)) (k : LineKind) → value_of word c (w ∷ ws) ≡ Err k → Due word c (w ∷ ws) k
value_stops {V} word c p w ws k e =
    elim (chosen (bytes_eq w word) (of_whole (whole c ws)) (Err kind.Word) (Err k) e) [
      | inl h ↦ subst (λ (u : List ℕ). Due word c (u ∷ ws) k) (sym (same_bytes w word h.0)) (whole_err word c p ws k h.1)
      | inr h ↦ subst (λ (j : LineKind). Due word c (w ∷ ws) j) (kind_is V kind.Word k h.1) (record {
        value = p.some;
        fits = p.some_fits;
        cause = inl (inl (record {
          first = w;
          others = ws;
          is = refl;
          other = other_word w word h.0;
          word_kind = refl;
          refused = λ after. ap (λ (t : Bool). cond t (of_whole (whole c after)) (Err kind.Word)) h.0;
        }));
      })
    ]

on_err : {V : Type 0} (n : ℕ) (rest : List ℕ) (r : Result V LineKind) (e : ℕ × LineKind) → on_line n rest r ≡ Err e → (r ≡ Err e.1) × (n ≡ e.0)
on_err n rest (Ok v) e h = absurd cc
on_err {V} n rest (Err k) e h =
    let same = err_is {A = V × Place} (n, k) e (Err (n, k)) refl h in
    (ap (λ (x : ℕ × LineKind). Err x.1) same, ap (λ (x : ℕ × LineKind). x.0) same)

line_stops : {V : Type 0} (word : List ℕ) (c : Codec V) → words.Lawful c → (p : Place) (e : ℕ × LineKind) → (line word c).take p ≡ Err e → StopsAt (line word c) p e
line_stops {V} word c law p e h = of (cut_at 10 p.1) refl h
  where
    of : (o : Option (List ℕ × List ℕ)) → cut_at 10 p.1 ≡ o → take_line word c p.0 o ≡ Err e → StopsAt (line word c) p e
    of None d g =
        let same = err_is {A = V × Place} (p.0, kind.End) e (Err (p.0, kind.End)) refl g in
        record {
          front = [];
          left = p.1;
          whole = refl;
          number = sym (ap (λ (x : ℕ × LineKind). x.0) same) ∙ omega arith;
          value = law.some;
          fits = law.some_fits;
          word = word;
          pieces = c.spell law.some;
          more = [];
          goes_on = refl;
          bad = inl (sym (ap (λ (x : ℕ × LineKind). x.1) same), none_lacks 10 p.1 d);
        }
    of (Some y) d g =
        let cut = cut_only 10 p.1 y d in
        let r = on_err p.0 y.1 (value_of word c (pieces_of 32 y.0)) e g in
        let w = has_word y.0 in
        let due = value_stops word c law w.first w.others e.1 (ap (value_of word c) (sym w.are) ∙ r.0) in
        record {
          front = [];
          left = p.1;
          whole = refl;
          number = sym r.1 ∙ omega arith;
          value = due.value;
          fits = due.fits;
          word = word;
          pieces = c.spell due.value;
          more = [];
          goes_on = refl;
          bad = inr (record {
            line = y.0;
            behind = y.1;
            stands = cut.whole;
            lacks = cut.lacks;
            cause = cause_as word (c.spell due.value) (RefusesWords word c e.1) (Refuses (line word c) p.0 e []) (pieces_of 32 y.0) e.1
                (λ ws refused l rest lacks is.
                ap (λ (o : Option (List ℕ × List ℕ)). take_line word c p.0 o) (separator_at 10 l rest lacks)
                ∙ ap (λ (us : List (List ℕ)). on_line p.0 rest (value_of word c us)) is
                ∙ ap (λ (q : Result V LineKind). on_line p.0 rest q) refused
                ∙ ap (λ (n : ℕ). Err (n, e.1)) r.1)
                (subst (λ (us : List (List ℕ)). Cause word (c.spell due.value) (RefusesWords word c e.1) us e.1) (sym w.are) due.cause);
          });
        }

pub line_lawful : {V : Type 0} {c : Codec V} (word : List ℕ) → is_clean word ≡ true → words.Lawful c → Lawful (line word c)
line_lawful {V} {c} word clean p = record {
  some = p.some;
  some_fits = p.some_fits;
  again = line_again word c (clean_word word clean) p;
  found = line_found word c (clean_word word clean) p;
  stops = line_stops word c p;
}
