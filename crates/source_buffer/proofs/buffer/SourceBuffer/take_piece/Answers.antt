use Rattle.std.proofs.Common.{arith}
use Rattle.source_buffer.proofs.Takings.{piece_ended, cut_shorter}
use Rattle.source_buffer.proofs.buffer.SourceBuffer.take_piece.Goals as goal

pub returns-in_ok-extend_from_slice-in-Some-clause-taken : goal.returns-in_ok-extend_from_slice-in-Some-clause-taken
returns-in_ok-extend_from_slice-in-Some-clause-taken c =
    let grown = c.in_ok-extend_from_slice-in-Some.ensures in
    let shorter = cut_shorter _ _ _ c.in-Some.ensures.found in (
      rw (c.take.ensures.taken) (piece_ended _ _ _ _ _ _ _ _ c.bytes-pending.ensures.bytes c.split_at.ensures.front c.in-Some.ensures.found grown.items),
      omega (arith, shorter, c.split_at.ensures.front_len, c.min.ensures, c.saturating_add-room.ensures, c.len.ensures, c.requires, grown.len),
    )
