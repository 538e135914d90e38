use Rattle.pk_types.proofs.Cuts.{pieces_more, pieces_end}
use Rattle.pk_types.proofs.cutting.pieces.Goals as goal

pub cuts-preserved : goal.cuts-preserved
cuts-preserved c = pieces_more c.args.separator c.cuts.pieces.items _ _ c.args.bytes.now _ _ c.in_ok-push.ensures.items c.in-Some.ensures.found c.cuts.invariant

pub returns : goal.returns
returns c = record { pieces = pieces_end c.args.separator c.cuts.pieces.items _ _ c.args.bytes.now c.in_ok-push-2.ensures.items c.in_default.ensures.none c.cuts.invariant }
