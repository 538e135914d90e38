-- One more line stands behind those before.
use Rattle.std.proofs.Common.{string_bytes}
use Rattle.std.proofs.lemmas.List.{get_or_default}
use Rattle.authority_service.proofs.Joining.{lines_more}
use Rattle.authority_service.proofs.lines.push_lines.Goals as goal

pub loop-line-preserved : goal.loop-line-preserved
loop-line-preserved c past are =
    lines_more past c.args.lines.now c.loop-line.line-index _ (string_bytes c.args.text.now) (string_bytes c.loop-line.text) (string_bytes c.push_line.new.text) c.loop-line-test.true (get_or_default c.args.lines.now c.loop-line.line-index _ _ c.loop-line-test.true) (c.loop-line.invariant past are) (c.in_ok-push_line.ensures.ok past are)
