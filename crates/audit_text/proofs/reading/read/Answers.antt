use Rattle.std.proofs.Common.{◌≡◌, ◌++◌, IsTrue, List, ℕ, Some, Result, subst}
use Rattle.pk_outside.proofs.Written.{Gave-all}
use Rattle.pk_outside.specs.Streams.{Gave}
use Rattle.audit_text.specs.Audit.{audit_text, reading, behind_head, first_line}
use Rattle.authority_model.specs.declared.journal.History.{History}
use Rattle.audit_text.specs.declared.fault.AuditReadRefused.{AuditReadRefused}
use Rattle.audit_text.specs.Lines.{Place}
use Rattle.audit_text.specs.Reads.{GivesHistory}
use Rattle.audit_text.proofs.Readings.{is_reading, is_read_as, is_refused_many, judged_as, read_fault_of}
use Rattle.audit_text.proofs.reading.read.Goals as goal

abbrev says : Place → Result History AuditReadRefused
says p = behind_head (first_line.take p)

pub returns-in-Ok : goal.returns-in-Ok
returns-in-Ok g c =
    let laws = g.met.I.Source g.world.𝓛 g.world.𝓜 g.world.𝓡 ((λ s x. x), (λ x. x), (λ x. x), λ x. x) in
    let t = c.read_lines.ensures.ends in
    let r = c.read_lines.result in
    let bytes : List ℕ = t.read in
    let given : GivesHistory r (reading bytes) =
    subst (λ (n : ℕ). GivesHistory r (says (n, bytes))) c.in-Ok.ensures.first
    (subst (λ (kept : List ℕ). GivesHistory r (says (c.in-Ok.lines.number, kept ++ bytes))) c.in-Ok.ensures.empty t.gives) in
    let all = λ (told : List ℕ) (is : g.I.Source.left c.args.input.now ≡ Some told) (ended : IsTrue (g.I.Source.ended c.read_lines.new.input)).
    Gave-all told (g.I.Source.left c.read_lines.new.input) bytes (subst (λ left. Gave left (g.I.Source.left c.read_lines.new.input) bytes) is t.gave)
    (laws.ended_is_used_up c.read_lines.new.input ended) in
    record {
      reading = (bytes, t.gave, is_reading bytes r given);
      only = λ h fits few told. is_read_as bytes h r fits few (judged_as _ _ (all (audit_text h) told) r t.ended) given;
      too_many = λ told entries is many. is_refused_many bytes told entries r many (judged_as _ _ (all told is) r t.ended) given;
      end = t.ended;
      read_fault = read_fault_of _ _ r t.cause;
    }
