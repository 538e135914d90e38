-- Fewer bytes are their own prefix.
use Rattle.journal_segments.specs.declared.pieces.TheConstants.{MAX_WRITE}
use Rattle.journal_segments.proofs.Writing.{short_front}
use Rattle.journal_segments.proofs.pieces.piece_of.Goals as goal

pub returns-else-bytes-gt-MAX_WRITE : goal.returns-else-bytes-gt-MAX_WRITE
returns-else-bytes-gt-MAX_WRITE c = record { piece = short_front MAX_WRITE c.args.bytes.now c.if-bytes-gt-MAX_WRITE.false }
