-- How an audit ends that is due to end so.
use Rattle.std.proofs.Common.{◌≡◌, inl, inr, ℕ, List, Option, Err, refl, ap, sym, ◌∙◌, subst}
use Rattle.authority_model.specs.declared.journal.History.{History}
use Rattle.authority_model.specs.Legal.{IsLegal}
use Rattle.audit_text.specs.declared.fault.AuditReadRefused.{AuditReadRefused}
use Rattle.audit_text.specs.declared.fault.AuditReadRefused.TheVariants as refused
use Rattle.audit_text.specs.Outcomes.{IsRefusedMany}
use Rattle.journal_audit.specs.declared.auditing.Finding.{Finding}
use Rattle.journal_audit.specs.declared.auditing.Finding.TheVariants.{Accepted, Faulty}
use Rattle.journal_audit.specs.declared.clause.Clause.{Clause}
use Rattle.journal_audit.specs.Fault.{Finds, IsFirstFault}
use Rattle.journal_audit.proofs.Faults.{not_legal, one_broken, one_place}
use Rattle.pkaudit_tool.specs.declared.status.AuditStatus.{AuditStatus}
use Rattle.pkaudit_tool.specs.declared.status.AuditStatus.TheVariants as status
use Rattle.pkaudit_tool.specs.Audits.{AuditsHistory, Unless, status_of_finding, status_of_refused}

module _ (h : History) (held_before held : Option (List ℕ)) where
  -- a finding of a legal journal
  found_legal : (finding : Finding) → Finds h finding → IsLegal h → Unless status.Accepted (status_of_finding finding)
  found_legal (Accepted entries count) found legal = refl
  found_legal (Faulty entry clause) found legal = absurd (not_legal h entry clause legal found)

  -- a finding of a journal with a fault
  found_faulty : (finding : Finding) (k : ℕ) (clause : Clause) → Finds h finding → IsFirstFault h k clause → Unless (status.Faulty k clause) (status_of_finding finding)
  found_faulty (Accepted entries count) k clause found fault = absurd (not_legal h k clause found.legal fault)
  found_faulty (Faulty entry broken) k clause found fault =
      ap (λ n. status.Faulty n broken) (one_place h entry k broken clause found fault) ∙ ap (status.Faulty k) (one_broken h entry k broken clause found fault)

  -- where each finding ends as is due, so does the audit
  ends : (due result : AuditStatus) → ((finding : Finding) → Finds h finding → Unless due (status_of_finding finding)) → AuditsHistory h held_before held result → Unless due result
  ends due result each (inl (finding, found, inl (is, written))) = subst (Unless due) (sym is) (each finding found)
  ends due result each (inl (finding, found, inr (inl (is, written)))) = subst (Unless due) (sym is) tt
  ends due result each (inl (finding, found, inr (inr (is, same)))) = subst (Unless due) (sym is) tt
  ends due result each (inr (is, same)) = subst (Unless due) (sym is) tt

  -- a legal journal is accepted
  pub legal_by : (result : AuditStatus) → AuditsHistory h held_before held result → IsLegal h → Unless status.Accepted result
  legal_by result told legal = ends status.Accepted result (λ finding found. found_legal finding found legal) told

  -- a journal with a fault is faulty by it
  pub faulty_by : (result : AuditStatus) (k : ℕ) (clause : Clause) → AuditsHistory h held_before held result → IsFirstFault h k clause → Unless (status.Faulty k clause) result
  faulty_by result k clause told fault = ends (status.Faulty k clause) result (λ finding found. found_faulty finding k clause found fault) told

-- a text of too many entries
pub refused_many : (entries : ℕ) (r : AuditReadRefused) → IsRefusedMany entries (Err r) → Unless (status.TooMany entries) (status_of_refused r)
refused_many entries refused.ReadFault many = tt
refused_many entries (refused.TooMany told) many = ap (λ n. status.TooMany n) many
refused_many entries (refused.BadLine line kind) many = absurd many
refused_many entries refused.NoMemory many = tt
