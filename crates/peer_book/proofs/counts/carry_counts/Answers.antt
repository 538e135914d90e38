use Rattle.std.proofs.Common.{◌∙◌, ap, sym, length}
use Rattle.peer_book.specs.Counts.{collected_in, collects}
use Rattle.peer_book.specs.Places.{places_of, shown}
use Rattle.peer_book.proofs.Collecting.{noted}
use Rattle.peer_book.proofs.counts.carry_counts.Goals as goal

pub returns : goal.returns
returns c = record {
  carried = λ by q.
      noted c.args.entry.now.caller c.in-Some.of by q c.count-sent.result (collected_in c.args.counts.now.entries by q) (collected_in c.note.new.counts.entries by q) (collects c.args.entry.now.event)
      (λ n. length (places_of (shown c.args.places.now.entries) n)) c.in-Some.ensures.of (c.count-sent.ensures.count ∙ ap length (sym (c.count-sent.ensures.shown c.in-Some.of))) (c.note.ensures.noted by q);
}
