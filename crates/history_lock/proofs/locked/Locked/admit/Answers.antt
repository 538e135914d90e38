use Rattle.std.proofs.Common.{◌≡◌, ◌<◌, ℕ, suc, List, sym, ap, ◌∙◌, subst, arith}
use mathlib.Core.Option.{some}
use lib.ListN.{get_elem?}
use Rattle.history_lock.specs.declared.machine.TheConstants.{MOST_PASSES}
use Rattle.history_lock.specs.Entries.{NoneBy}
use Rattle.history_lock.specs.declared.view.View.{View}
use Rattle.history_lock.proofs.Knowing.{told_ended}
use Rattle.history_lock.proofs.Growth.{learned_told, none_above, entries_by-none}
use Rattle.history_lock.proofs.locked.Locked.admit.Goals as goal

pub returns-then-self-ge-MOST_PASSES-clause-full : goal.returns-then-self-ge-MOST_PASSES-clause-full
returns-then-self-ge-MOST_PASSES-clause-full g c =
    let m = g.M.Machine in
    let inv = c.self.invariant in
    let s = c.settle_receipt.ensures in
    let t = c.take_note_of_book.ensures in
    let knows = s.made in
    let all : c.self.inside.made ≡ MOST_PASSES = omega (arith, inv.2) in (
      all,
      t.made ∙ s.book_made ∙ inv.1.made ∙ all,
      learned_told m.caller_of m.legal c.args.pass.now c.settle_receipt.new.pass c.take_note_of_book.new.pass c.self.inside.book.me.0.history c.settle_receipt.new.book.me.0.history c.settle_receipt.new.book.me.0.in_flight
          s.pass s.book_history t.history (s.idle inv.1.idle) s.begins t.own t.number (omega (arith, t.made, s.book_made, knows)) t.legal t.known,
    )

pub returns-clause-ok : goal.returns-clause-ok
returns-clause-ok g c =
    let m = g.M.Machine in
    let inv = c.self.invariant in
    let s = c.settle_receipt.ensures in
    let a = c.admit-seat.ensures in
    let t = c.take_note_of_book-2.ensures in
    let w = c.take_note_of_book-2.new.pass in
    let old = c.self.inside.book.me.0 in
    let new = c.admit-seat.result.me.0 in
    let counted = c.admit-seat.new.book.me.0 in
    let is = ap (λ me. me.0) a.new.1 in
    let book = ap (λ me. me.0) a.same.1 in
    let ended_of = λ (v : View g.row.M-Item.Denot). v.ended in
    let number : c.self.inside.made ≡ old.made = sym inv.1.made in
    let history : new.history ≡ old.history = ap (λ (v : View g.row.M-Item.Denot). v.history) is ∙ s.book_history in
    let made : new.made ≡ suc c.settle_receipt.new.book.me.0.made = ap (λ (v : View g.row.M-Item.Denot). v.made) is in
    let same_history : counted.history ≡ old.history = ap (λ (v : View g.row.M-Item.Denot). v.history) book ∙ s.book_history in
    let same_made : counted.made ≡ suc c.settle_receipt.new.book.me.0.made = ap (λ (v : View g.row.M-Item.Denot). v.made) book in
    let idle = ap (λ (v : View g.row.M-Item.Denot). v.in_flight) book ∙ s.idle inv.1.idle in
    let knows = s.made in
    let none : NoneBy m.caller_of c.self.inside.made new.history = none_above m.caller_of new.history c.self.inside.made
    (subst (λ (x : List g.row.M-Item.Denot × ℕ). (k : ℕ) (e : g.row.M-Item.Denot) → get_elem? x.0 k ≡ some e → m.caller_of e < x.1) (λ i. (sym history i, sym number i)) s.callers) in
    record {
      number = omega (arith, number, knows);
      made = omega (arith, number, made, s.book_made);
      none = none;
      no_entries = entries_by-none m.caller_of c.self.inside.made new.history none;
      legal = subst m.legal (sym history) s.legal;
      same_history = t.history ∙ same_history ∙ sym history;
      same_made = t.made ∙ same_made ∙ sym made;
      same_ended = told_ended c.args.pass.now c.settle_receipt.new.pass w old.ended counted.ended old.history s.pass (ap ended_of book ∙ s.book_ended) s.ended t.ended ∙ sym (ap ended_of is ∙ s.book_ended);
      learned = learned_told m.caller_of m.legal c.args.pass.now c.settle_receipt.new.pass w old.history counted.history counted.in_flight
          s.pass same_history t.history idle s.begins t.own t.number (omega (arith, t.made, same_made, s.book_made, knows)) t.legal t.known;
    }
