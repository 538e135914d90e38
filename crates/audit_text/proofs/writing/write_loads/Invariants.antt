use Rattle.std.proofs.Common.{take}
use Rattle.std.specs.List.{flat_map}
use Rattle.audit_text.specs.Writes.{Grew, desk, load_lines}
use Rattle.audit_text.proofs.writing.write_loads.Given as goal

abbrev pub invariant-loop-load : goal.invariant-loop-load
invariant-loop-load g l =
    Grew g.O.Sink.held g.O.Sink.faults (desk l.fn.buffer l.fn.output) (desk l.buffer l.output) (flat_map load_lines (take l.load-index l.items))
