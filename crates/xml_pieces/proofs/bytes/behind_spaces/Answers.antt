use Rattle.std.proofs.Common.{sym, ◌∙◌}
use Rattle.xml_pieces.specs.Bytes.{is_space}
use Rattle.xml_pieces.proofs.Loops.{skip_more}
use Rattle.xml_pieces.proofs.bytes.behind_spaces.Goals as goal

pub loop-b-preserved : goal.loop-b-preserved
loop-b-preserved c = sym (skip_more is_space _ _ _ c.in-Some.ensures.cases.0 (sym c.if-not-is_space.ensures.class)) ∙ c.loop-b.invariant
