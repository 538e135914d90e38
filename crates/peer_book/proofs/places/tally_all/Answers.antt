use Rattle.peer_book.specs.Places.{tally_in}
use Rattle.peer_book.proofs.Widening.{counted_more}
use Rattle.peer_book.proofs.places.tally_all.Goals as goal

pub loop-receiver-preserved : goal.loop-receiver-preserved
loop-receiver-preserved c = λ q.
    counted_more q c.loop-receiver.receiver-index c.args.receivers.now (tally_in c.loop-receiver.tally.entries q) (tally_in c.tally_one.new.tally.entries q)
    c.loop-receiver-test.true (c.loop-receiver.invariant q) (c.in_ok-tally_one.ensures.counted q)
