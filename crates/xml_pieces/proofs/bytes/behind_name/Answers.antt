use Rattle.std.proofs.Common.{sym, ◌∙◌}
use Rattle.xml_pieces.specs.Bytes.{is_name_byte}
use Rattle.xml_pieces.proofs.Loops.{skip_more}
use Rattle.xml_pieces.proofs.bytes.behind_name.Goals as goal

pub loop-b-preserved : goal.loop-b-preserved
loop-b-preserved c = sym (skip_more is_name_byte _ _ _ c.in-Some.ensures.cases.0 (sym c.if-not-is_name_byte.ensures.class)) ∙ c.loop-b.invariant
