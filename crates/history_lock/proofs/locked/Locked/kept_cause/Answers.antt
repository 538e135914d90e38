use Rattle.std.proofs.Common.{arith}
use Rattle.history_lock.proofs.Growth.{learned_told}
use Rattle.history_lock.proofs.locked.Locked.kept_cause.Goals as goal

pub returns-clause-learned : goal.returns-clause-learned
returns-clause-learned g c =
    let m = g.M.Machine in
    let s = c.settle_receipt.ensures in
    let t = c.take_note_of_book.ensures in
    let knows = s.made in
    learned_told m.caller_of m.legal c.args.pass.now c.settle_receipt.new.pass c.take_note_of_book.new.pass c.self.inside.book.me.0.history c.settle_receipt.new.book.me.0.history c.settle_receipt.new.book.me.0.in_flight
    s.pass s.book_history t.history (s.idle c.self.invariant.1.idle) s.begins t.own t.number (omega (arith, t.made, s.book_made, knows)) t.legal t.known
