use Rattle.std.proofs.Common.{◌≡◌, ◌++◌, ◌+◌, ◌≤◌, ◌∙◌, ap, arith, drop, take, length}
use Rattle.std.proofs.lemmas.List.{length-take-le, length-drop}
use Rattle.source_buffer.proofs.Rooms.{front_of_buffer, read_behind}
use Rattle.source_buffer.proofs.buffer.SourceBuffer.read_once.Goals as goal

pub returns-in-Ok-read_piece-clause-brings : goal.returns-in-Ok-read_piece-clause-brings
returns-in-Ok-read_piece-clause-brings g c =
    let start = c.self.inside.start in
    let end = c.self.inside.end in
    let n = c.in-Ok-read_piece.count in
    let now = c.read_piece.new.bytes in
    let room = c.make_room.new.bytes in
    let fits : end + n ≤ length now = c.in-Ok-read_piece.ensures.bound in
    let front = front_of_buffer (end + n) room.len now room.items fits (omega (arith, fits, c.in-Ok-read_piece.ensures.length, c.deref_mut.ensures.len)) in
    let kept : take end now ≡ take end room.items = c.in-Ok-read_piece.ensures.kept ∙ ap (λ b. take end b) c.deref_mut.ensures.value in
    let read = read_behind _ now room.items start end n front kept c.self.invariant.0 (omega (arith, fits)) in (
      take n (drop end now),
      c.in-Ok-read_piece.ensures.bytes,
      (
        read ∙ ap (λ t. drop start t ++ take n (drop end now)) c.in-Ok.ensures.same ∙ ap (λ v. v ++ take n (drop end now)) (c.self.view_is ∙ c.forget_taken.ensures.same),
        length-take-le n (drop end now) (omega (arith, fits, length-drop end now)),
      ),
    )
