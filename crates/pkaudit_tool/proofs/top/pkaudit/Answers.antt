use Rattle.std.proofs.Common.{subst, sym}
use Rattle.authority_model.specs.declared.journal.History.{History}
use Rattle.authority_model.specs.Legal.{IsLegal}
use Rattle.journal_audit.specs.Fault.{IsFirstFault}
use Rattle.pkaudit_tool.specs.declared.status.AuditStatus.TheVariants as status
use Rattle.pkaudit_tool.specs.Audits.{Unless}
use Rattle.pkaudit_tool.proofs.Ending.{faulty_by, legal_by, refused_many}
use Rattle.pkaudit_tool.proofs.top.pkaudit.Goals as goal

pub returns-in-Ok-clause-legal : goal.returns-in-Ok-clause-legal
returns-in-Ok-clause-legal g c = λ h none spelled few told legal.
    legal_by c.in-Ok.history (g.O.Sink.held c.args.output.now) (g.O.Sink.held c.audit_history.new.output) c.audit_history.result c.audit_history.ensures.audited
    (subst IsLegal (sym (c.in-Ok.ensures.only h spelled few told)) legal)

pub returns-in-Ok-clause-faulty : goal.returns-in-Ok-clause-faulty
returns-in-Ok-clause-faulty g c = λ h k clause none spelled few told fault.
    faulty_by c.in-Ok.history (g.O.Sink.held c.args.output.now) (g.O.Sink.held c.audit_history.new.output) c.audit_history.result k clause c.audit_history.ensures.audited
    (subst (λ (x : History). IsFirstFault x k clause) (sym (c.in-Ok.ensures.only h spelled few told)) fault)

pub returns-in-Ok-clause-too_many : goal.returns-in-Ok-clause-too_many
returns-in-Ok-clause-too_many g c = λ bytes entries none told many. absurd (c.in-Ok.ensures.too_many bytes entries told many)

pub returns-in-Err-clause-too_many : goal.returns-in-Err-clause-too_many
returns-in-Err-clause-too_many g c = λ bytes entries none told many.
    subst (Unless (status.TooMany entries)) (sym c.of_refused.ensures.status) (refused_many entries c.in-Err.refused (c.in-Err.ensures.too_many bytes entries told many))
