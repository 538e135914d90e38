use Rattle.std.proofs.Common.{sym}
use Rattle.peer_book.proofs.Widening.{kept_through}
use Rattle.peer_book.proofs.places.widen_row.Goals as goal

pub returns-clause-kept : goal.returns-clause-kept
returns-clause-kept c =
    kept_through c.args.rows.now (c.get_mut.follows.lender c.take_room.new.row) c.args.receiver c.in-Some.row.now c.take_room.new.row (sym c.in-Some.ensures.value) (c.get_mut.follows.holds c.take_room.new.row)
    c.take_room.ensures.items c.take_room.ensures.room
