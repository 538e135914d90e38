use Rattle.std.proofs.Common.{arith}
use Rattle.usual_replies.proofs.Straight.{verdict_told, on_ok}
use Rattle.usual_replies.proofs.verdict_bytes.put_verdict.Goals as goal

pub returns : goal.returns
returns c = record {
  exact = on_ok c.put_keep.result (λ e loads. verdict_told loads _ _ _ _ _ _ c.args.serial c.args.answered c.detail_end-middle.result c.keep_end-end.result c.args.verdict.now c.args.reason.now c.detail_end-middle.ensures.exact c.keep_end-end.ensures.exact c.requires.details c.requires.spoken
      (omega (arith, c.requires.short, c.detail_end-middle.ensures.few, c.keep_end-end.ensures.few)) c.in_ok-make_room.ensures.same c.in_ok-put_first.ensures.exact c.in_ok-put_truths.ensures.exact c.in_ok-put_detail.ensures.exact e) c.put_keep.ensures.exact;
}
