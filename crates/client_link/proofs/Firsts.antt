-- The first message of some kind is one message, and is there where the bytes hold it.
use Rattle.std.proofs.Common.{◌≡◌, ℕ, Bool, true, false, List, [], ◌∷◌, ◌++◌, length, drop, refl, ap, sym, subst, ◌∙◌, append_assoc}
use Rattle.std.proofs.lemmas.List.{drop_at}
use Rattle.dbus_values.specs.declared.fault.FaultKind.{FaultKind}
use Rattle.dbus_values.specs.Next.{Bad, Partial, Seen, Whole, next_of}
use Rattle.dbus_values.specs.Streams.{Follow, IsForm, NoneWhole}
use Rattle.dbus_values.proofs.Streaming.{form_whole, one_form}
use Rattle.client_link.specs.Following.{IsFirst, NoneIs, Passes}
use Rattle.client_link.proofs.Follows.{passes_bytes}

tails : (a x y : List ℕ) → a ++ x ≡ a ++ y → x ≡ y
tails a x y same = sym (drop_at a x (length a) refl) ∙ ap (λ (z : List ℕ). drop (length a) z) same ∙ drop_at a y (length a) refl

-- two messages at the front of the same bytes are one, and the same follows
one_head : (a b x y : List ℕ) (s t : Seen) → IsForm a s → IsForm b t → a ++ x ≡ b ++ y → (s ≡ t) × (x ≡ y)
one_head a b x y s t p q same =
    let h = one_form a b x y s t p q same in
    (h.1, tails a x y (same ∙ ap (λ (z : List ℕ). z ++ y) (sym h.0)))

-- one message is not both
not_both : (test : Seen → Bool) (s t : Seen) → s ≡ t → test s ≡ false → test t ≡ true → ⊥
not_both test s t same isnt is = contradiction (sym isnt ∙ ap test same ∙ is)
  where
    contradiction : false ≡ true → ⊥
    contradiction e = cc

first_in : (test : Seen → Bool) (bytes : List ℕ) (p q : List Seen) (bp bq tp tq rp rq : List ℕ) (s t : Seen) → Follow bytes p bp → Follow bytes q bq → NoneIs test p → NoneIs test q
    → IsForm tp s → IsForm tq t → bp ≡ tp ++ rp → bq ≡ tq ++ rq → test s ≡ true → test t ≡ true → s ≡ t
first_in test bytes [] [] bp bq tp tq rp rq s t fp fq np nq hp hq ep eq yp yq = (one_head tp tq rp rq s t hp hq (sym (fp ∙ ep) ∙ fq ∙ eq)).0
first_in test bytes [] (n ∷ q) bp bq tp tq rp rq s t fp fq np nq hp hq ep eq yp yq =
    absurd (not_both test n s (one_head fq.0 tp fq.1 rp n s fq.2 hp (sym fq.3 ∙ fp ∙ ep)).0 nq.0 yp)
first_in test bytes (m ∷ p) [] bp bq tp tq rp rq s t fp fq np nq hp hq ep eq yp yq =
    absurd (not_both test m t (one_head fp.0 tq fp.1 rq m t fp.2 hq (sym fp.3 ∙ fq ∙ eq)).0 np.0 yq)
first_in test bytes (m ∷ p) (n ∷ q) bp bq tp tq rp rq s t fp fq np nq hp hq ep eq yp yq =
    let rest : fp.1 ≡ fq.1 = (one_head fp.0 fq.0 fp.1 fq.1 m n fp.2 fq.2 (sym fp.3 ∙ fq.3)).1 in
    first_in test fq.1 p q bp bq tp tq rp rq s t (subst (λ (b : List ℕ). Follow b p bp) rest fp.4) fq.4 np.1 nq.1 hp hq ep eq yp yq

-- the first such message of the same bytes is one
pub one_first : (test : Seen → Bool) (bytes : List ℕ) (s t : Seen) (x y : List ℕ) → IsFirst test bytes s x → IsFirst test bytes t y → s ≡ t
one_first test bytes s t x y a b =
    first_in test bytes a.passes.passed b.passes.passed a.behind b.behind a.text b.text x y s t a.passes.follow b.passes.follow a.passes.none_is b.passes.none_is a.form b.form a.cut b.cut a.is b.is

lacking_in : (test : Seen → Bool) (bytes : List ℕ) (p q : List Seen) (rest bq tq rq : List ℕ) (t : Seen) → Follow bytes p rest → Follow bytes q bq → NoneIs test p → NoneWhole rest → IsForm tq t → bq ≡ tq ++ rq → test t ≡ true → ⊥
lacking_in test bytes [] [] rest bq tq rq t fp fq np none hq eq yq = none tq rq t hq (sym fp ∙ fq ∙ eq)
lacking_in test bytes [] (n ∷ q) rest bq tq rq t fp fq np none hq eq yq = none fq.0 fq.1 n fq.2 (sym fp ∙ fq.3)
lacking_in test bytes (m ∷ p) [] rest bq tq rq t fp fq np none hq eq yq = not_both test m t (one_head fp.0 tq fp.1 rq m t fp.2 hq (sym fp.3 ∙ fq ∙ eq)).0 np.0 yq
lacking_in test bytes (m ∷ p) (n ∷ q) rest bq tq rq t fp fq np none hq eq yq =
    let same : fp.1 ≡ fq.1 = (one_head fp.0 fq.0 fp.1 fq.1 m n fp.2 fq.2 (sym fp.3 ∙ fq.3)).1 in
    lacking_in test fq.1 p q rest bq tq rq t (subst (λ (b : List ℕ). Follow b p rest) same fp.4) fq.4 np.1 none hq eq yq

-- none is there, where all messages were passed over
pub none_first : (test : Seen → Bool) (bytes rest : List ℕ) (t : Seen) (y : List ℕ) → Passes test bytes rest → NoneWhole rest → IsFirst test bytes t y → ⊥
none_first test bytes rest t y p none b = lacking_in test bytes p.passed b.passes.passed rest b.behind b.text y t p.follow b.passes.follow p.none_is none b.form b.cut b.is

-- more bytes behind it leave it
pub first_more : (test : Seen → Bool) (bytes more : List ℕ) (s : Seen) (x : List ℕ) → IsFirst test bytes s x → IsFirst test (bytes ++ more) s (x ++ more)
first_more test bytes more s x f = record {
  behind = f.behind ++ more;
  text = f.text;
  passes = passes_bytes test bytes f.behind more f.passes;
  form = f.form;
  cut = ap (λ (b : List ℕ). b ++ more) f.cut ∙ append_assoc f.text x more;
  is = f.is;
}

-- less than a message begins with none
pub none_partial : (rest : List ℕ) → next_of rest ≡ Partial → NoneWhole rest
none_partial rest partial = λ text more seen form is. other (sym partial ∙ form_whole (next_of rest) rest text more seen refl form is)
  where
    other : {seen : Seen} {n : ℕ} → Partial ≡ Whole seen n → ⊥
    other e = cc

-- neither do bytes with a fault
pub none_bad : (rest : List ℕ) (kind : FaultKind) (at : ℕ) → next_of rest ≡ Bad kind at → NoneWhole rest
none_bad rest kind at bad = λ text more seen form is. other (sym bad ∙ form_whole (next_of rest) rest text more seen refl form is)
  where
    other : {seen : Seen} {n : ℕ} → Bad kind at ≡ Whole seen n → ⊥
    other e = cc
