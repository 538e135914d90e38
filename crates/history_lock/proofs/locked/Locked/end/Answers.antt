use Rattle.std.proofs.Common.{Option, ap, ◌∙◌, subst, arith}
use Rattle.history_lock.specs.Causes.{KnowsEnd, known_or}
use Rattle.history_lock.specs.declared.view.View.{View}
use Rattle.history_lock.specs.declared.machine.EndCause.{EndCause}
use Rattle.history_lock.proofs.Knowing.{told_end, end_known}
use Rattle.history_lock.proofs.Growth.{learned_told}
use Rattle.history_lock.proofs.locked.Locked.end.Goals as goal

pub returns-clause-learned : goal.returns-clause-learned
returns-clause-learned g c =
    let m = g.M.Machine in
    let s = c.settle_receipt.ensures in
    let k = ap (λ me. me.0) c.keep_cause-kept.ensures.book in
    let t = c.take_note_of_book.ensures in
    let history = ap (λ (v : View g.row.M-Item.Denot). v.history) k ∙ s.book_history in
    let made = ap (λ (v : View g.row.M-Item.Denot). v.made) k ∙ s.book_made in
    let idle = ap (λ (v : View g.row.M-Item.Denot). v.in_flight) k ∙ s.idle c.self.invariant.1.idle in
    let knows = s.made in
    learned_told m.caller_of m.legal c.args.pass.now c.settle_receipt.new.pass c.take_note_of_book.new.pass c.self.inside.book.me.0.history c.keep_cause-kept.new.book.me.0.history c.keep_cause-kept.new.book.me.0.in_flight
    s.pass history t.history idle s.begins t.own t.number (omega (arith, t.made, made, knows)) t.legal t.known

pub returns-clause-knows : goal.returns-clause-knows
returns-clause-knows g c =
    let s = c.settle_receipt.ensures in
    let p = c.args.pass.now in
    let k = ap (λ me. me.0) c.keep_cause-kept.ensures.book in
    let h = c.self.inside.book.me.0.history in
    let knows : KnowsEnd p.ended p.history c.self.inside.cause h = subst (λ (o : Option EndCause). KnowsEnd p.ended p.history o h) c.self.invariant.1.ended s.ended in
    told_end p.ended c.self.inside.cause c.take_note_of_book.new.pass.ended p.history h c.args.cause c.keep_cause-kept.result knows c.keep_cause-kept.ensures.first
    (c.take_note_of_book.ensures.ended ∙ (λ i. known_or (s.pass i).ended (k i).ended))

pub returns-clause-knew : goal.returns-clause-knew
returns-clause-knew g c =
    let s = c.settle_receipt.ensures in
    let p = c.args.pass.now in
    let h = c.self.inside.book.me.0.history in
    let knows : KnowsEnd p.ended p.history c.self.inside.cause h = subst (λ (o : Option EndCause). KnowsEnd p.ended p.history o h) c.self.invariant.1.ended s.ended in
    end_known p.ended c.self.inside.cause p.history h c.args.cause c.keep_cause-kept.result knows c.keep_cause-kept.ensures.first
