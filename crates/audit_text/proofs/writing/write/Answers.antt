use Rattle.std.proofs.Common.{◌+◌, ap}
use Rattle.audit_words.specs.Buffers.{Buffered}
use Rattle.audit_text.specs.declared.writing.TheConstants.{PIECE}
use Rattle.audit_text.specs.Writes.{history_lines}
use Rattle.audit_text.proofs.Measures.{all_room, history_text}
use Rattle.audit_text.proofs.Written.{may_start}
use Rattle.audit_text.proofs.writing.write.Goals as goal

pub write_text-requires-clause-empty : goal.write_text-requires-clause-empty
write_text-requires-clause-empty g c κs within = ap (λ (b : Buffered). b.kept) c.in-Ok.ensures.empty

pub write_text-requires-clause-may : goal.write_text-requires-clause-may
write_text-requires-clause-may g c κs within =
    may_start g.O.Sink.allowed g.O.Sink.held _ c.args.output.now (PIECE + c.longest_line-most.result) (history_lines c.args.history.now) _ c.in-Ok.ensures.empty c.in-Ok.ensures.small
    (history_text c.args.history.now) (all_room _ (history_lines c.args.history.now) c.in-Ok.ensures.small c.longest_line-most.ensures.within) c.requires.may
