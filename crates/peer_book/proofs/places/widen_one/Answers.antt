use Rattle.peer_book.proofs.Widening.{kept_both}
use Rattle.peer_book.proofs.places.widen_one.Goals as goal

pub returns-clause-kept : goal.returns-clause-kept
returns-clause-kept c = kept_both c.args.rows.now.entries c.add_row.new.rows.entries c.widen_row.new.rows.entries c.add_row.ensures.kept c.widen_row.ensures.kept
