use Rattle.std.proofs.Common.{sym, ◌∙◌}
use Rattle.xml_pieces.specs.References.{is_body}
use Rattle.xml_pieces.proofs.Loops.{skip_more}
use Rattle.xml_pieces.proofs.references.behind_body.Goals as goal

pub loop-b-preserved : goal.loop-b-preserved
loop-b-preserved c = sym (skip_more is_body _ _ _ c.in-Some.ensures.cases.0 (sym c.if-not-is_body.ensures.class)) ∙ c.loop-b.invariant
