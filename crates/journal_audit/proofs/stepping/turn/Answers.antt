use Rattle.std.proofs.Common.{Some, subst}
use Rattle.std.specs.Option.{option_copied}
use Rattle.journal_view.specs.declared.counts.ViewCounts.{ViewCounts}
use Rattle.journal_audit.specs.Steps.{Judged}
use Rattle.journal_audit.proofs.Judgements.{turn_broken}
use Rattle.journal_audit.proofs.stepping.turn.Goals as goal

pub returns-in-Some : goal.returns-in-Some
returns-in-Some c = record {
  turn = λ past i due.
      turn_broken past i c.args.lists.now c.args.in_force.now c.args.entry.now (option_copied c.args.loaded) due c.in-Some.clause
      (subst (λ (n : ViewCounts). Judged n.loads n.last_moment c.args.entry.now (option_copied c.args.loaded) (Some c.in-Some.clause)) c.counts.ensures.counts c.in-Some.ensures.judged);
}
