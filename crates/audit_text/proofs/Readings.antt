-- What the bytes of an input are read as.
use Rattle.std.proofs.Common.{◌≡◌, ℕ, ◌+◌, ◌<◌, ◌≤◌, nat_lt, Bool, true, false, cond, List, [], ◌∷◌, length, Result, Ok, Err, refl, sym, ap, subst, ◌∙◌, inl, inr, arith}
use Rattle.std.specs.Prelude.{IfErr}
use Rattle.std.proofs.lemmas.Bool.Decides.{nat_tests}
use Rattle.std.proofs.lemmas.List.{append-nil}
use Rattle.pk_outside.specs.Causes.{Rose}
use Rattle.authority_model.specs.declared.journal.History.{History}
use Rattle.audit_words.proofs.Tests.{chosen}
use Rattle.audit_text.specs.declared.fault.LineKind.{LineKind}
use Rattle.audit_text.specs.declared.fault.LineKind.TheVariants as kind
use Rattle.audit_text.specs.declared.fault.AuditReadRefused.{AuditReadRefused}
use Rattle.audit_text.specs.declared.fault.AuditReadRefused.TheVariants as refused
use Rattle.audit_text.specs.declared.heads.TextHead.{TextHead}
use Rattle.audit_text.specs.declared.reading.TheConstants.{MAX_ENTRIES}
use Rattle.audit_text.specs.Lines.{Place, Reading, ◌then◌, lines_in, take_parts}
use Rattle.audit_text.specs.Audit.{first_line, history_headed, history, audit_text, IsSpelled, of_lines, unless_many, behind_head, reading}
use Rattle.audit_text.specs.Outcomes.{IsAuditText, IsTooMany, NoTextHas, IsBadLine, IsReading, IsReadAs, IsRefusedMany, OnJudged}
use Rattle.audit_text.specs.Reads.{GivesHistory}
use Rattle.audit_text.specs.Takes.{Stand, HasReadCause}
use Rattle.audit_text.proofs.Basics.{ok_is, not_err, Refuses, bad_as}
use Rattle.audit_text.proofs.Histories.{first_line_lawful, history_lawful}

abbrev a_history : History → Result History AuditReadRefused
a_history h = Ok h

abbrev a_refusal : AuditReadRefused → Result History AuditReadRefused
a_refusal r = Err r

history_is : (g h : History) → a_history g ≡ Ok h → g ≡ h
history_is g h e = cc

not_refused : (h : History) (r : AuditReadRefused) → a_history h ≡ Err r → ⊥
not_refused h r e = cc

not_history : (h : History) (r : AuditReadRefused) → a_refusal r ≡ Ok h → ⊥
not_history h r e = cc

refusal_is : (q r : AuditReadRefused) → a_refusal q ≡ Err r → q ≡ r
refusal_is q r e = cc

-- the history's own reading, from its first line on
from_head : (bytes : List ℕ) (x : TextHead × Place) → first_line.take (1, bytes) ≡ Ok x → history.take (1, bytes) ≡ take_parts history_headed x
from_head bytes x e = ap (λ (r : Reading TextHead). r then take_parts history_headed) e

-- ---- a history that was read

lines_ok : (r : Reading History) (h : History) → of_lines r ≡ Ok h → (n : ℕ) × (r ≡ Ok (h, (n, [])))
lines_ok (Ok (v, (n, []))) h e = (n, ap (λ (u : History). Ok (u, (n, []))) (history_is v h e))
lines_ok (Ok (v, (n, b ∷ bs))) h e = absurd (not_history h (refused.BadLine n kind.End) e)
lines_ok (Err f) h e = absurd (not_history h (refused.BadLine f.0 f.1) e)

few : (n : ℕ) → nat_lt MAX_ENTRIES n ≡ false → n ≤ MAX_ENTRIES
few n e = grind (arith, nat_tests)

not_many : (n : ℕ) → n ≤ MAX_ENTRIES → nat_lt MAX_ENTRIES n ≡ false
not_many n e = grind (arith, nat_tests)

many : (n : ℕ) → nat_lt MAX_ENTRIES n ≡ true → MAX_ENTRIES < n
many n e = grind (arith, nat_tests)

is_many : (n : ℕ) → MAX_ENTRIES < n → nat_lt MAX_ENTRIES n ≡ true
is_many n e = grind (arith, nat_tests)

-- the first line tells the lengths of the history
head_of : (h : History) → IsSpelled h → (x : TextHead × Place) → first_line.take (1, audit_text h) ≡ Ok x → x.0 ≡ history_headed.head_of h
head_of h f x e =
    let s = history_headed in
    let again = first_line_lawful.again (s.head_of h) 1 ((s.parts (s.head_of h)).spell (s.parts_of h)) f.1 in
    ap (λ (y : TextHead × Place). y.0) (ok_is x _ (sym e ∙ again))

text_is : (bytes : List ℕ) (h : History) (n : ℕ) → history.take (1, bytes) ≡ Ok (h, (n, [])) → IsSpelled h × (bytes ≡ audit_text h)
text_is bytes h n e =
    let f = history_lawful.found (1, bytes) (h, (n, [])) e in
    (f.fits, f.whole ∙ append-nil (audit_text h))

ok_behind : (bytes : List ℕ) (x : TextHead × Place) (h : History) → first_line.take (1, bytes) ≡ Ok x → unless_many x ≡ Ok h → IsAuditText bytes h
ok_behind bytes x h d e =
    elim (chosen (nat_lt MAX_ENTRIES x.0.entries) (Err (refused.TooMany x.0.entries)) (of_lines (take_parts history_headed x)) (Ok h) e) [
      | inl q ↦ absurd (not_history h (refused.TooMany x.0.entries) q.1)
      | inr q ↦
          let l = lines_ok (take_parts history_headed x) h q.1 in
          let t = text_is bytes h l.0 (from_head bytes x d ∙ l.1) in
          let head = head_of h t.0 x (ap (λ (bs : List ℕ). first_line.take (1, bs)) (sym t.1) ∙ d) in
          record {
            spelled = t.0;
            text = t.1;
            few = subst (λ (k : TextHead). k.entries ≤ MAX_ENTRIES) head (few x.0.entries q.0);
          }
    ]

-- ---- a faulty line

-- what reading refuses stands in no audit text
no_text : (front : List ℕ) (e : ℕ × LineKind) (words : List (List ℕ)) → Refuses history 1 e front words → NoTextHas front words
no_text front e words r line rest lacks is h f same =
    not_err (History × Place) (h, (1 + lines_in (audit_text h), [])) e
    (sym (history_lawful.again h 1 [] f) ∙ ap (λ (t : List ℕ). history.take (1, t)) (append-nil (audit_text h) ∙ same) ∙ r line rest lacks is)

stops_here : (bytes : List ℕ) (e : ℕ × LineKind) → history.take (1, bytes) ≡ Err e → IsBadLine bytes e.0 e.1
stops_here bytes e d =
    let s = history_lawful.stops (1, bytes) e d in
    inl (record {
      front = s.front;
      left = s.left;
      whole = s.whole;
      number = s.number;
      value = s.value;
      fits = s.fits;
      word = s.word;
      pieces = s.pieces;
      more = s.more;
      goes_on = s.goes_on;
      bad = bad_as s.word s.pieces (Refuses history 1 e s.front) (NoTextHas s.front) s.left e.1 (no_text s.front e) s.bad;
    })

abbrev Bad : List ℕ → AuditReadRefused → Type 0
Bad bytes r = IsReading bytes (Err r)

lines_err : (bytes : List ℕ) (r : Reading History) (q : AuditReadRefused) → history.take (1, bytes) ≡ r → of_lines r ≡ Err q → Bad bytes q
lines_err bytes (Ok (v, (n, []))) q d e = absurd (not_refused v q e)
lines_err bytes (Ok (v, (n, b ∷ bs))) q d e =
    let f = history_lawful.found (1, bytes) (v, (n, b ∷ bs)) d in
    subst (λ (r : AuditReadRefused). Bad bytes r) (refusal_is (refused.BadLine n kind.End) q e)
    (inr (record { value = v; spelled = f.fits; byte = b; behind = bs; after = f.whole; number = f.number; end = refl }))
lines_err bytes (Err f) q d e = subst (λ (r : AuditReadRefused). Bad bytes r) (refusal_is (refused.BadLine f.0 f.1) q e) (stops_here bytes f d)

err_behind : (bytes : List ℕ) (x : TextHead × Place) (q : AuditReadRefused) → first_line.take (1, bytes) ≡ Ok x → unless_many x ≡ Err q → Bad bytes q
err_behind bytes x q d e =
    elim (chosen (nat_lt MAX_ENTRIES x.0.entries) (Err (refused.TooMany x.0.entries)) (of_lines (take_parts history_headed x)) (Err q) e) [
      | inl h ↦
          let f = first_line_lawful.found (1, bytes) x d in
          subst (λ (r : AuditReadRefused). Bad bytes r) (refusal_is (refused.TooMany x.0.entries) q h.1)
          (record { head = x.0; fits = f.fits; told = refl; many = many x.0.entries h.0; rest = x.1.1; begins = f.whole })
      | inr h ↦ lines_err bytes (take_parts history_headed x) q (from_head bytes x d) h.1
    ]

reading_ok : (bytes : List ℕ) (h : History) → reading bytes ≡ Ok h → IsAuditText bytes h
reading_ok bytes h e = of (first_line.take (1, bytes)) refl e
  where
    of : (r : Reading TextHead) → first_line.take (1, bytes) ≡ r → behind_head r ≡ Ok h → IsAuditText bytes h
    of (Ok x) d g = ok_behind bytes x h d g
    of (Err f) d g = absurd (not_history h (refused.BadLine f.0 f.1) g)

reading_err : (bytes : List ℕ) (q : AuditReadRefused) → reading bytes ≡ Err q → Bad bytes q
reading_err bytes q e = of (first_line.take (1, bytes)) refl e
  where
    of : (r : Reading TextHead) → first_line.take (1, bytes) ≡ r → behind_head r ≡ Err q → Bad bytes q
    of (Ok x) d g = err_behind bytes x q d g
    of (Err f) d g =
        subst (λ (r : AuditReadRefused). Bad bytes r) (refusal_is (refused.BadLine f.0 f.1) q g)
        (stops_here bytes f (ap (λ (r : Reading TextHead). r then take_parts history_headed) d))

-- ---- what the calls return

pub on_judged : (P : Type 0) (result : Result History AuditReadRefused) → P → OnJudged result P
on_judged P (Ok h) p = p
on_judged P (Err refused.ReadFault) p = tt
on_judged P (Err (refused.TooMany n)) p = p
on_judged P (Err (refused.BadLine n k)) p = p
on_judged P (Err refused.NoMemory) p = tt

pub judged_as : (P Q : Type 0) → (P → Q) → (result : Result History AuditReadRefused) → OnJudged result P → OnJudged result Q
judged_as P Q f (Ok h) p = f p
judged_as P Q f (Err refused.ReadFault) p = tt
judged_as P Q f (Err (refused.TooMany n)) p = f p
judged_as P Q f (Err (refused.BadLine n k)) p = f p
judged_as P Q f (Err refused.NoMemory) p = tt

pub is_reading : (bytes : List ℕ) (result : Result History AuditReadRefused) → GivesHistory result (reading bytes) → IsReading bytes result
is_reading bytes (Ok h) g = reading_ok bytes h (sym g)
is_reading bytes (Err refused.ReadFault) g = tt
is_reading bytes (Err (refused.TooMany n)) g = reading_err bytes (refused.TooMany n) (sym g)
is_reading bytes (Err (refused.BadLine n k)) g = reading_err bytes (refused.BadLine n k) (sym g)
is_reading bytes (Err refused.NoMemory) g = tt

reading_again : (h : History) → IsSpelled h → length h.entries ≤ MAX_ENTRIES → reading (audit_text h) ≡ Ok h
reading_again h f le =
    let s = history_headed in
    let behind : List ℕ = (s.parts (s.head_of h)).spell (s.parts_of h) in
    let head = first_line_lawful.again (s.head_of h) 1 behind f.1 in
    let all = history_lawful.again h 1 [] f in
    let parts = sym (from_head (audit_text h) _ head) ∙ ap (λ (t : List ℕ). history.take (1, t)) (sym (append-nil (audit_text h))) ∙ all in
    ap behind_head head
    ∙ ap (λ (t : Bool). cond t (Err (refused.TooMany (length h.entries))) (of_lines (take_parts s (s.head_of h, (1 + lines_in (first_line.spell (s.head_of h)), behind))))) (not_many (length h.entries) le)
    ∙ ap of_lines parts

pub is_read_as : (bytes : List ℕ) (h : History) (result : Result History AuditReadRefused) → IsSpelled h → length h.entries ≤ MAX_ENTRIES → OnJudged result (bytes ≡ audit_text h)
    → GivesHistory result (reading bytes) → IsReadAs h result
is_read_as bytes h result f le text g = of result text g
  where
    again : bytes ≡ audit_text h → reading bytes ≡ Ok h
    again e = ap reading e ∙ reading_again h f le

    of : (r : Result History AuditReadRefused) → OnJudged r (bytes ≡ audit_text h) → GivesHistory r (reading bytes) → IsReadAs h r
    of (Ok v) d e = history_is v h (e ∙ again d)
    of (Err refused.ReadFault) d e = tt
    of (Err (refused.TooMany n)) d e = not_history h (refused.TooMany n) (e ∙ again d)
    of (Err (refused.BadLine n k)) d e = not_history h (refused.BadLine n k) (e ∙ again d)
    of (Err refused.NoMemory) d e = tt

same_count : (m n : ℕ) → refused.TooMany m ≡ refused.TooMany n → m ≡ n
same_count m n e = cc

other : (m n : ℕ) (k : LineKind) → refused.BadLine m k ≡ refused.TooMany n → ⊥
other m n k e = cc

many_again : (bytes : List ℕ) (n : ℕ) → IsTooMany bytes n → reading bytes ≡ Err (refused.TooMany n)
many_again bytes n t =
    ap reading t.begins
    ∙ ap behind_head (first_line_lawful.again t.head 1 t.rest t.fits)
    ∙ ap (λ (b : Bool). cond b (Err (refused.TooMany t.head.entries)) (of_lines (take_parts history_headed (t.head, (1 + lines_in (first_line.spell t.head), t.rest))))) (is_many t.head.entries (subst (λ (k : ℕ). MAX_ENTRIES < k) t.told t.many))
    ∙ ap (λ (k : ℕ). Err (refused.TooMany k)) (sym t.told)

pub is_refused_many : (bytes told : List ℕ) (n : ℕ) (result : Result History AuditReadRefused) → IsTooMany told n → OnJudged result (bytes ≡ told)
    → GivesHistory result (reading bytes) → IsRefusedMany n result
is_refused_many bytes told n result t all g = of result all g
  where
    again : bytes ≡ told → reading bytes ≡ Err (refused.TooMany n)
    again e = ap reading e ∙ many_again told n t

    of : (r : Result History AuditReadRefused) → OnJudged r (bytes ≡ told) → GivesHistory r (reading bytes) → IsRefusedMany n r
    of (Ok v) d e = not_refused v (refused.TooMany n) (e ∙ again d)
    of (Err refused.ReadFault) d e = tt
    of (Err (refused.TooMany m)) d e = same_count m n (refusal_is (refused.TooMany m) (refused.TooMany n) (e ∙ again d))
    of (Err (refused.BadLine m k)) d e = other m n k (refusal_is (refused.BadLine m k) (refused.TooMany n) (e ∙ again d))
    of (Err refused.NoMemory) d e = tt

pub read_fault_of : (a b : Stand) (result : Result History AuditReadRefused) → HasReadCause result a b → IfErr result (λ r. r ≡ refused.ReadFault → Rose a.faults b.faults)
read_fault_of a b (Ok h) c = tt
read_fault_of a b (Err refused.ReadFault) c = λ e. c
read_fault_of a b (Err (refused.TooMany n)) c = λ e. absurd cc
read_fault_of a b (Err (refused.BadLine n k)) c = λ e. absurd cc
read_fault_of a b (Err refused.NoMemory) c = λ e. absurd cc
