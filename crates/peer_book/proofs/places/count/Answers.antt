use Rattle.peer_book.proofs.Widening.{shown_places}
use Rattle.peer_book.proofs.places.count.Goals as goal

pub returns-in-Some-clause-shown : goal.returns-in-Some-clause-shown
returns-in-Some-clause-shown c = λ q. shown_places c.args.rows.now.entries q c.len-len.ensures.unique

pub returns-in-None-clause-shown : goal.returns-in-None-clause-shown
returns-in-None-clause-shown c = λ q. shown_places c.args.rows.now.entries q c.len-len.ensures.unique
