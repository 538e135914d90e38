use Rattle.std.proofs.Common.{sym}
use Rattle.peer_book.specs.Places.{places_in, room_in}
use Rattle.peer_book.proofs.Placing.{placed_more, room_more}
use Rattle.peer_book.proofs.places.fill_all.Goals as goal

pub loop-i-preserved : goal.loop-i-preserved
loop-i-preserved c = record {
  put = λ q.
      placed_more q c.loop-i.i c.args.entry c.args.outputs.now c.index-outputs-i.result (places_in c.args.rows.now.entries q) (places_in c.loop-i.rows.entries q) (places_in c.fill_one.new.rows.entries q)
      c.loop-i-test.true (sym c.index-outputs-i.is) (c.loop-i.invariant.put q) (c.fill_one.ensures.put q);
  room = λ q.
      room_more q c.loop-i.i c.args.outputs.now c.index-outputs-i.result (room_in c.loop-i.rows.entries q) (room_in c.fill_one.new.rows.entries q)
      c.loop-i-test.true (sym c.index-outputs-i.is) (c.loop-i.invariant.room q) (c.fill_one.ensures.room q);
}
