use Rattle.std.proofs.Common.{arith}
use Rattle.audit_text.proofs.Measures.{count_put}
use Rattle.audit_text.proofs.measuring.longer.Goals as goal

pub returns : goal.returns
returns g c = record {
  within = count_put _ c.max.result c.clear.new.self c.put_line.new.buffer _ c.clear.ensures.empty c.put_line.ensures.line (omega (arith, c.count.ensures.count));
  more = omega arith;
}
