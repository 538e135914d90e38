use Rattle.std.proofs.Common.{ap, ◌∙◌}
use Rattle.authority_desk.specs.Counts.{counts_seen}
use Rattle.authority_desk.proofs.Bounds.{counts_are}
use Rattle.authority_desk.proofs.desk.Desk.counts.Goals as goal

pub returns-clause-counts : goal.returns-clause-counts
returns-clause-counts c = λ past is few. c.desk_counts.ensures.seen ∙ ap counts_seen c.self.view_is ∙ counts_are past c.args.self.now is few
