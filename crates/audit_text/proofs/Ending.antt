-- The end of an input, and what all of its bytes are read as.
use Rattle.std.proofs.Common.{◌≡◌, ◌≢◌, ◌≤◌, ◌<◌, ℕ, Bool, true, false, IsTrue, nat_lt, cond, List, ◌∷◌, ◌++◌, Result, Ok, Err, refl, sym, ap, subst, ◌∙◌, append_assoc, inl, inr, arith}
use Rattle.std.proofs.lemmas.Bool.Decides.{nat_tests}
use Rattle.pk_outside.specs.Causes.{Rose}
use Rattle.pk_outside.specs.Streams.{Gave}
use Rattle.pk_outside.proofs.Written.{Gave-more}
use Rattle.authority_model.specs.declared.journal.History.{History}
use Rattle.audit_text.specs.declared.fault.LineKind.{LineKind}
use Rattle.audit_text.specs.declared.fault.LineKind.TheVariants as kind
use Rattle.audit_text.specs.declared.fault.Stop.{Stop}
use Rattle.audit_text.specs.declared.fault.Stop.TheVariants as stops
use Rattle.audit_text.specs.declared.fault.AuditReadRefused.{AuditReadRefused}
use Rattle.audit_text.specs.declared.fault.AuditReadRefused.TheVariants as refused
use Rattle.audit_text.specs.declared.heads.TextHead.{TextHead}
use Rattle.audit_text.specs.declared.reading.TheConstants.{MAX_ENTRIES}
use Rattle.audit_text.specs.Lines.{Place, Reading, take_parts}
use Rattle.audit_text.specs.Audit.{history_headed, all_lines, of_lines, unless_many}
use Rattle.audit_text.specs.Reads.{GivesHistory}
use Rattle.audit_text.specs.Takes.{Stand, place_at, Takes, IsLeft, Closes, IsClosed, Refuses, HasReadCause, Ends}
use Rattle.audit_text.proofs.Readings.{on_judged}
use Rattle.audit_text.proofs.Taking.{rose_later, rose_before}

abbrev Outcome : Type 0
Outcome = Result History AuditReadRefused

abbrev refusal : AuditReadRefused → Outcome
refusal r = Err r

-- an answer that the bytes themselves ask for
abbrev IsOfBytes : AuditReadRefused → Type 0
IsOfBytes r = r ≢ refused.ReadFault

gives_same : (r : AuditReadRefused) (x : Outcome) → x ≡ refusal r → GivesHistory (Err r) x
gives_same refused.ReadFault x e = tt
gives_same (refused.TooMany n) x e = sym e
gives_same (refused.BadLine n k) x e = sym e
gives_same refused.NoMemory x e = tt

cause_of : (r : AuditReadRefused) (a b : Stand) → (r ≡ refused.ReadFault → Rose a.faults b.faults) → HasReadCause {V = History} (Err r) a b
cause_of refused.ReadFault a b h = h refl
cause_of (refused.TooMany n) a b h = tt
cause_of (refused.BadLine n k) a b h = tt
cause_of refused.NoMemory a b h = tt

-- ---- an answer that was given at the end

closed_ends : (answer r : AuditReadRefused) (a b : Stand) (read : List ℕ) (says : Place → Outcome) → IsOfBytes answer → Gave a.left b.left read → a.faults ≤ b.faults
    → says (place_at a read) ≡ refusal answer → IsClosed answer a b r → Ends a b (Err r) says
closed_ends answer r a b read says bytes gave later e (inl p) = record {
  read = read;
  gave = gave;
  gives = gives_same r (says (place_at a read)) (e ∙ ap refusal (sym p.0));
  ended = on_judged _ (Err r) p.1;
  later = later;
  cause = cause_of r a b (λ z. absurd (bytes (sym p.0 ∙ z)));
}
closed_ends answer r a b read says bytes gave later e (inr (inl p)) = subst (λ (q : AuditReadRefused). Ends a b (Err q) says) (sym p.0) (record {
  read = read;
  gave = gave;
  gives = tt;
  ended = tt;
  later = later;
  cause = p.1;
})
closed_ends answer r a b read says bytes gave later e (inr (inr p)) = subst (λ (q : AuditReadRefused). Ends a b (Err q) says) (sym p) (record {
  read = read;
  gave = gave;
  gives = tt;
  ended = tt;
  later = later;
  cause = tt;
})

closed_later : (answer r : AuditReadRefused) (a b c : Stand) → a.faults ≤ b.faults → IsClosed answer b c r → IsClosed answer a c r
closed_later answer r a b c le (inl p) = inl p
closed_later answer r a b c le (inr (inl p)) = inr (inl (p.0, rose_later a.faults b.faults c.faults le p.1))
closed_later answer r a b c le (inr (inr p)) = inr (inr p)

many_of_bytes : (n : ℕ) → IsOfBytes (refused.TooMany n)
many_of_bytes n = λ e. absurd cc

bad_of_bytes : (n : ℕ) (k : LineKind) → IsOfBytes (refused.BadLine n k)
bad_of_bytes n k = λ e. absurd cc

pub close_ends : (answer r : AuditReadRefused) (a b : Stand) (says : Place → Outcome) → IsOfBytes answer → ((p : Place) → says p ≡ refusal answer) → Closes answer a b r → Ends a b (Err r) says
close_ends answer r a b says bytes always t = closed_ends answer r a b t.rest says bytes t.gave t.later (always (place_at a t.rest)) t.is

-- more entries are told than are read
pub many_ends : (head : TextHead) (r : AuditReadRefused) (a b : Stand) → MAX_ENTRIES < head.entries → Closes (refused.TooMany head.entries) a b r → Ends a b (Err r) (λ p. unless_many (head, p))
many_ends head r a b lt t =
    let e : nat_lt MAX_ENTRIES head.entries ≡ true = grind (arith, nat_tests) in
    close_ends (refused.TooMany head.entries) r a b (λ p. unless_many (head, p)) (many_of_bytes head.entries)
    (λ p. ap (λ (b : Bool). cond b (refusal (refused.TooMany head.entries)) (of_lines (take_parts history_headed (head, p)))) e) t

-- ---- a stop

-- what reading stopped at is what all bytes say
pub stop_ends : {A : Type 0} (e : Stop) (r : AuditReadRefused) (a b c : Stand) (f : Place → Reading A) (w : Reading A → Outcome) → ((n : ℕ) (k : LineKind) → w (Err (n, k)) ≡ refusal (refused.BadLine n k))
    → Takes {V = A} a b (Err e) f → Refuses e b c r → Ends a c (Err r) (λ p. w (f p))
stop_ends stops.Memory r a b c f w bad t u = subst (λ (q : AuditReadRefused). Ends a c (Err q) (λ p. w (f p))) (sym u.is) (record {
  read = t.read ++ u.rest;
  gave = Gave-more a.left b.left c.left t.read u.rest t.gave u.gave;
  gives = tt;
  ended = tt;
  later = omega (arith, t.later, u.later);
  cause = tt;
})
stop_ends stops.Failed r a b c f w bad t u = subst (λ (q : AuditReadRefused). Ends a c (Err q) (λ p. w (f p))) (sym u.is) (record {
  read = t.read ++ u.rest;
  gave = Gave-more a.left b.left c.left t.read u.rest t.gave u.gave;
  gives = tt;
  ended = tt;
  later = omega (arith, t.later, u.later);
  cause = rose_before a.faults b.faults c.faults t.cause u.later;
})
stop_ends (stops.Bad n kind.End) r a b c f w bad t u = record {
  read = t.read ++ u.rest;
  gave = Gave-more a.left b.left c.left t.read u.rest t.gave u.gave;
  gives = gives_same r (w (f (place_at a (t.read ++ u.rest)))) (ap w (t.gives u.rest u.is.1) ∙ bad n kind.End ∙ ap refusal (sym u.is.0));
  ended = on_judged _ (Err r) (subst IsTrue (sym u.is.2) t.cause);
  later = omega (arith, t.later, u.later);
  cause = cause_of r a c (λ z. absurd (bad_of_bytes n kind.End (sym u.is.0 ∙ z)));
}
stop_ends (stops.Bad n kind.Word) r a b c f w bad t u = closed_ends (refused.BadLine n kind.Word) r a c (t.read ++ u.rest) (λ p. w (f p)) (bad_of_bytes n kind.Word) (Gave-more a.left b.left c.left t.read u.rest t.gave u.gave) (omega (arith, t.later, u.later))
    (ap w (t.gives u.rest tt) ∙ bad n kind.Word) (closed_later (refused.BadLine n kind.Word) r a b c t.later u.is)
stop_ends (stops.Bad n kind.Count) r a b c f w bad t u = closed_ends (refused.BadLine n kind.Count) r a c (t.read ++ u.rest) (λ p. w (f p)) (bad_of_bytes n kind.Count) (Gave-more a.left b.left c.left t.read u.rest t.gave u.gave) (omega (arith, t.later, u.later))
    (ap w (t.gives u.rest tt) ∙ bad n kind.Count) (closed_later (refused.BadLine n kind.Count) r a b c t.later u.is)
stop_ends (stops.Bad n kind.Number) r a b c f w bad t u = closed_ends (refused.BadLine n kind.Number) r a c (t.read ++ u.rest) (λ p. w (f p)) (bad_of_bytes n kind.Number) (Gave-more a.left b.left c.left t.read u.rest t.gave u.gave) (omega (arith, t.later, u.later))
    (ap w (t.gives u.rest tt) ∙ bad n kind.Number) (closed_later (refused.BadLine n kind.Number) r a b c t.later u.is)
stop_ends (stops.Bad n kind.Value) r a b c f w bad t u = closed_ends (refused.BadLine n kind.Value) r a c (t.read ++ u.rest) (λ p. w (f p)) (bad_of_bytes n kind.Value) (Gave-more a.left b.left c.left t.read u.rest t.gave u.gave) (omega (arith, t.later, u.later))
    (ap w (t.gives u.rest tt) ∙ bad n kind.Value) (closed_later (refused.BadLine n kind.Value) r a b c t.later u.is)

-- ---- what comes behind a value

ends_as : (r : Outcome) (x y : Outcome) → x ≡ y → GivesHistory r y → GivesHistory r x
ends_as r x y e h = subst (GivesHistory r) (sym e) h

cause_later : (r : Outcome) (a b c : Stand) → a.faults ≤ b.faults → HasReadCause r b c → HasReadCause r a c
cause_later (Ok v) a b c le h = tt
cause_later (Err refused.ReadFault) a b c le h = rose_later a.faults b.faults c.faults le h
cause_later (Err (refused.TooMany n)) a b c le h = tt
cause_later (Err (refused.BadLine n k)) a b c le h = tt
cause_later (Err refused.NoMemory) a b c le h = tt

pub then_ends : {A : Type 0} (x : A) (r : Outcome) (a b c : Stand) (f : Place → Reading A) (w : Reading A → Outcome) → Takes a b (Ok x) f → Ends b c r (λ p. w (Ok (x, p))) → Ends a c r (λ p. w (f p))
then_ends x r a b c f w t u = record {
  read = t.read ++ u.read;
  gave = Gave-more a.left b.left c.left t.read u.read t.gave u.gave;
  gives = ends_as r (w (f (place_at a (t.read ++ u.read)))) (w (Ok (x, place_at b u.read))) (ap w (t.gives u.read)) u.gives;
  ended = u.ended;
  later = omega (arith, t.later, u.later);
  cause = cause_later r a b c t.later u.cause;
}

-- the first line tells few entries
pub few_ends : (head : TextHead) (r : Outcome) (a b : Stand) → head.entries ≤ MAX_ENTRIES → Ends a b r (λ p. of_lines (take_parts history_headed (head, p))) → Ends a b r (λ p. unless_many (head, p))
few_ends head r a b le t =
    let e : nat_lt MAX_ENTRIES head.entries ≡ false = grind (arith, nat_tests) in
    record {
      read = t.read;
      gave = t.gave;
      gives = ends_as r (unless_many (head, place_at a t.read)) (of_lines (take_parts history_headed (head, place_at a t.read)))
          (ap (λ (b : Bool). cond b (refusal (refused.TooMany head.entries)) (of_lines (take_parts history_headed (head, place_at a t.read)))) e) t.gives;
      ended = t.ended;
      later = t.later;
      cause = t.cause;
    }

-- ---- nothing is behind the last line, or something is

pub whole_ends : (h : History) (a b : Stand) → IsLeft a b (Ok true) → Ends a b (Ok h) (λ p. all_lines (h, p))
whole_ends h a b t = record {
  read = t.read;
  gave = t.gave;
  gives = sym (ap (λ (bytes : List ℕ). all_lines (h, (a.number, bytes))) t.is.0);
  ended = t.is.1;
  later = t.later;
  cause = tt;
}

pub more_ends : (h : History) (r : AuditReadRefused) (a b c : Stand) → IsLeft a b (Ok false) → Closes (refused.BadLine a.number kind.End) b c r → Ends a c (Err r) (λ p. all_lines (h, p))
more_ends h r a b c t u =
    let x = t.is in
    let whole : a.kept ++ (t.read ++ u.rest) ≡ x.0 ∷ (x.1 ++ u.rest) = sym (append_assoc a.kept t.read u.rest) ∙ ap (λ (s : List ℕ). s ++ u.rest) x.2 in
    closed_ends (refused.BadLine a.number kind.End) r a c (t.read ++ u.rest) (λ p. all_lines (h, p)) (bad_of_bytes a.number kind.End)
    (Gave-more a.left b.left c.left t.read u.rest t.gave u.gave) (omega (arith, t.later, u.later))
    (ap (λ (bytes : List ℕ). all_lines (h, (a.number, bytes))) whole) (closed_later (refused.BadLine a.number kind.End) r a b c t.later u.is)

-- whether something is was not seen
pub unseen_ends : (h : History) (e : Stop) (r : AuditReadRefused) (a b c : Stand) → IsLeft a b (Err e) → Refuses e b c r → Ends a c (Err r) (λ p. all_lines (h, p))
unseen_ends h stops.Memory r a b c t u = subst (λ (q : AuditReadRefused). Ends a c (Err q) (λ p. all_lines (h, p))) (sym u.is) (record {
  read = t.read ++ u.rest;
  gave = Gave-more a.left b.left c.left t.read u.rest t.gave u.gave;
  gives = tt;
  ended = tt;
  later = omega (arith, t.later, u.later);
  cause = tt;
})
unseen_ends h stops.Failed r a b c t u = subst (λ (q : AuditReadRefused). Ends a c (Err q) (λ p. all_lines (h, p))) (sym u.is) (record {
  read = t.read ++ u.rest;
  gave = Gave-more a.left b.left c.left t.read u.rest t.gave u.gave;
  gives = tt;
  ended = tt;
  later = omega (arith, t.later, u.later);
  cause = rose_before a.faults b.faults c.faults t.is u.later;
})
unseen_ends h (stops.Bad n k) r a b c t u = absurd t.is
