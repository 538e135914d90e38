use Rattle.journal_scan.proofs.Collecting.{collect_more}
use Rattle.std.proofs.Common.{refl}
use Rattle.journal_scan.proofs.collects.Collection.after.Goals as goal

pub returns : goal.returns
returns c = record {
  after = (λ past i event sent_is old. collect_more past i c.args.of c.in_ok-count.count c.args.outputs c.args.self.now _ event sent_is old (c.in_ok-count.ensures.only refl) c.in_ok-count.ensures.collected c.if-empty-self.false refl);
}
