use Rattle.std.proofs.Common.{take}
use Rattle.audit_text.specs.Lines.{line}
use Rattle.audit_text.specs.Writes.{Grew, desk, item_lines}
use Rattle.audit_text.proofs.writing.write_lines.Given as goal

abbrev pub invariant-loop-value : goal.invariant-loop-value
invariant-loop-value g l =
    Grew g.O.Sink.held g.O.Sink.faults (desk l.fn.buffer l.fn.output) (desk l.buffer l.output) (item_lines (line l.word g.T.Spell.codec) (take l.value-index l.items))
