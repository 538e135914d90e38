use Rattle.pk_types.proofs.Cuts.{lines_more, lines_end, lines_none, some_bytes, no_bytes}
use Rattle.pk_types.proofs.cutting.lines.Goals as goal

pub cuts-preserved : goal.cuts-preserved
cuts-preserved c = lines_more c.cuts.lines.items _ _ c.args.bytes.now _ _ c.in_ok-push.ensures.items c.in-Some.ensures.found c.cuts.invariant

pub returns-then-is_empty : goal.returns-then-is_empty
returns-then-is_empty c = record { lines = lines_none c.cuts.lines.items c.cuts.rest.now c.args.bytes.now (no_bytes c.cuts.rest.now c.if-is_empty.ensures) c.cuts.invariant }

pub returns : goal.returns
returns c = record { lines = lines_end c.cuts.lines.items _ _ c.args.bytes.now c.in_ok-push-2.ensures.items c.in_default.ensures.none (some_bytes c.cuts.rest.now c.if-is_empty.ensures) c.cuts.invariant }
