use Rattle.std.specs.Option.{option_copied}
use Rattle.plain_view.specs.Plain.{plain_seen}
use Rattle.journal_audit.proofs.Judgements.{compared_answers, seen_by}
use Rattle.journal_audit.proofs.stepping.changed.Goals as goal

pub returns : goal.returns
returns c = record {
  changed = λ past i due.
      let seen = seen_by past i c.args.lists.now c.args.in_force.now c.args.entry.now (option_copied c.args.loaded) due (plain_seen c.in_ok-view.view) c.in_ok-view.ensures.seen in
      compared_answers past i c.args.lists.now c.args.in_force.now c.args.entry.now (option_copied c.args.loaded) due c.in_ok-answered.answered c.compared.result
      (c.in_ok-answered.ensures.outputs past seen) (c.in_ok-answered.ensures.change past seen) c.compared.ensures.same;
}
