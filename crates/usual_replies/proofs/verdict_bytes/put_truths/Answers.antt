use Rattle.usual_replies.proofs.Straight.{truths_put, on_ok}
use Rattle.usual_replies.proofs.verdict_bytes.put_truths.Goals as goal

pub returns : goal.returns
returns c = record {
  exact = on_ok c.put_u32-2.result (λ e. truths_put _ _ _ _ _ c.args.yes c.args.challenge c.args.size c.in_ok-put_truth.ensures.exact c.in_ok-put_truth-2.ensures.exact c.in_ok-put_u32.ensures.exact e) c.put_u32-2.ensures.exact;
}
