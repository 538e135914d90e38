use Rattle.usual_replies.proofs.Straight.{first_put, on_ok}
use Rattle.usual_replies.proofs.verdict_bytes.put_first.Goals as goal

pub returns : goal.returns
returns c = record {
  exact = on_ok c.put_bytes-3.result (λ e. first_put _ _ _ _ _ _ _ c.args.serial c.args.answered c.args.body c.in_ok-put_bytes.ensures.exact c.in_ok-put_u32.ensures.exact c.in_ok-put_u32-2.ensures.exact c.in_ok-put_bytes-2.ensures.exact c.in_ok-put_u32-3.ensures.exact e) c.put_bytes-3.ensures.exact;
}
