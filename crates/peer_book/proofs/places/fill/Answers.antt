use Rattle.peer_book.proofs.Widening.{shown_places}
use Rattle.peer_book.proofs.places.fill.Goals as goal

pub returns : goal.returns
returns c = record {
  put = c.fill_all.ensures.put;
  before = λ q. shown_places c.args.rows.now.entries q c.len-before.ensures.unique;
  after = λ q. shown_places c.fill_all.new.rows.entries q c.len-after.ensures.unique;
}
