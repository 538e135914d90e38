-- A write of a prefix is one of all.
use Rattle.journal_segments.specs.declared.pieces.TheConstants.{MAX_WRITE}
use Rattle.journal_segments.proofs.Writing.{write_bound, write_got}
use Rattle.journal_segments.proofs.pieces.write_first.Goals as goal

pub returns-clause-bound : goal.returns-clause-bound
returns-clause-bound g c = write_bound c.write.result MAX_WRITE c.args.bytes.now c.piece_of.result.now c.piece_of.ensures.piece c.write.ensures.bound

pub returns-clause-bytes : goal.returns-clause-bytes
returns-clause-bytes g c = write_got _ _ c.write.result MAX_WRITE c.args.bytes.now c.piece_of.result.now c.piece_of.ensures.piece c.write.ensures.bound c.write.ensures.bytes
