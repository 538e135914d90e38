use Rattle.connection_writer.proofs.writer.write_next.Goals as goal

pub write_collected-requires-clause-collects : goal.write_collected-requires-clause-collects
write_collected-requires-clause-collects g c κs within = (c.args.pass.now, c.args.of, c.requires.connection, c.collect_if_ready-now.ensures.collects, c.requires.began)

pub returns-clause-stands : goal.returns-clause-stands
returns-clause-stands g c = λ v held faults so. c.write_collected.ensures.stands c.args.pass.now v c.args.of held faults c.collect_if_ready-now.ensures.collects so
