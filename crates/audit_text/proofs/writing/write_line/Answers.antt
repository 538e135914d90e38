use Rattle.audit_text.proofs.Written.{line_is_put, line_may, put_small, put_writes}
use Rattle.audit_text.proofs.writing.write_line.Goals as goal

pub write_piece-requires-clause-whole : goal.write_piece-requires-clause-whole
write_piece-requires-clause-whole g c κs within =
    let p = line_is_put c.args.buffer.now c.put_line.new.buffer c.args.output.now _ c.requires.may c.put_line.ensures.line in
    p.whole

pub write_piece-requires-clause-small : goal.write_piece-requires-clause-small
write_piece-requires-clause-small g c κs within =
    put_small _ _ _ (line_is_put c.args.buffer.now c.put_line.new.buffer c.args.output.now _ c.requires.may c.put_line.ensures.line) c.requires.may.opened.small

pub write_piece-requires-clause-may : goal.write_piece-requires-clause-may
write_piece-requires-clause-may g c κs within =
    line_may g.O.Sink.allowed g.O.Sink.held _ _ _ _ (line_is_put c.args.buffer.now c.put_line.new.buffer c.args.output.now _ c.requires.may c.put_line.ensures.line) c.requires.may

pub returns : goal.returns
returns g c =
    let p = line_is_put c.args.buffer.now c.put_line.new.buffer c.args.output.now _ c.requires.may c.put_line.ensures.line in
    record { writes = put_writes _ _ c.write_piece.result _ _ _ _ _ p c.write_piece.ensures.writes }
