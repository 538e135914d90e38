use Rattle.audit_words.proofs.Putting.{byte_put}
use Rattle.audit_words.proofs.writing.put_escaped.Goals as goal

pub loop-b-preserved : goal.loop-b-preserved
loop-b-preserved c = byte_put _ _ _ c.args.bytes.now c.loop-b.b-index _ c.loop-b-test.true c.put_byte.ensures.byte c.loop-b.invariant
