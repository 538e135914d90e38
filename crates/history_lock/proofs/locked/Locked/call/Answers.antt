use Rattle.std.proofs.Common.{◌≡◌, ℕ, List, Option, None, refl, sym, ap, ◌∙◌, subst, ⊎_elim, arith}
use Rattle.std.specs.Prelude.{IsSome}
use mathlib.Core.List.{IsPrefix}
use Rattle.history_lock.specs.Known.{Known, Held}
use Rattle.history_lock.specs.declared.view.View.{View}
use Rattle.history_lock.specs.declared.machine.EndCause.{EndCause}
use Rattle.history_lock.specs.Calls.{CauseFits}
use Rattle.history_lock.proofs.Knowing.{told_ended, knew_none}
use Rattle.history_lock.proofs.Growth.{learned_told, learned_own_of, others_told_before}
use Rattle.history_lock.proofs.locked.Locked.call.Goals as goal

pub returns-in-Some-clause-err : goal.returns-in-Some-clause-err
returns-in-Some-clause-err g c =
    let m = g.M.Machine in
    let inv = c.self.invariant in
    let s = c.settle_receipt.ensures in
    let t = c.take_note_of_book.ensures in
    let w = c.take_note_of_book.new.pass in
    let cause = subst (λ (o : Option EndCause). CauseFits m.fits o (m.entries c.self.inside.machine) c.self.inside.made) c.in-Some.is inv.3 in
    let history : w.history ≡ m.entries c.self.inside.machine = t.history ∙ s.book_history ∙ inv.1.history in
    let made : w.made ≡ c.self.inside.made = t.made ∙ s.book_made ∙ inv.1.made in
    let knows = s.made in (
      refl,
      subst (λ (x : List g.row.M-Item.Denot × ℕ). m.fits c.in-Some.cause x.0 x.1) (λ k. (sym history k, sym made k)) cause,
      learned_told m.caller_of m.legal c.args.pass.now c.settle_receipt.new.pass w c.self.inside.book.me.0.history c.settle_receipt.new.book.me.0.history c.settle_receipt.new.book.me.0.in_flight
          s.pass s.book_history t.history (s.idle inv.1.idle) s.begins t.own t.number (omega (arith, t.made, s.book_made, knows)) t.legal t.known,
      told_ended c.args.pass.now c.settle_receipt.new.pass w c.self.inside.book.me.0.ended c.settle_receipt.new.book.me.0.ended c.self.inside.book.me.0.history s.pass s.book_ended s.ended t.ended ∙ inv.1.ended ∙ c.in-Some.is,
    )

pub returns-in-Err-clause-err : goal.returns-in-Err-clause-err
returns-in-Err-clause-err g c =
    let m = g.M.Machine in
    let inv = c.self.invariant in
    let s = c.settle_receipt.ensures in
    let t = c.take_note_of_book-in-Err.ensures in
    let w = c.take_note_of_book-in-Err.new.pass in
    let e = c.in-Err.ensures.err in
    let history : w.history ≡ m.entries c.self.inside.machine = t.history ∙ s.book_history ∙ inv.1.history in
    let number : c.number.result ≡ c.args.pass.now.number = c.number.ensures.number ∙ ap (λ (v : Known g.row.M-Item.Denot). v.number) s.pass in
    let knows = s.made in (
      e.1,
      subst (λ (x : ℕ × List g.row.M-Item.Denot). m.refuses x.0 c.args.op x.1 c.in-Err.refusal) (λ k. (number k, sym history k)) e.2,
      learned_told m.caller_of m.legal c.args.pass.now c.settle_receipt.new.pass w c.self.inside.book.me.0.history c.settle_receipt.new.book.me.0.history c.settle_receipt.new.book.me.0.in_flight
          s.pass s.book_history t.history (s.idle inv.1.idle) s.begins t.own t.number (omega (arith, t.made, s.book_made, knows)) t.legal t.known,
      told_ended c.args.pass.now c.settle_receipt.new.pass w c.self.inside.book.me.0.ended c.settle_receipt.new.book.me.0.ended c.self.inside.book.me.0.history s.pass s.book_ended s.ended t.ended ∙ inv.1.ended ∙ c.in_default.is,
    )

pub returns-in-Ok-clause-ok : goal.returns-in-Ok-clause-ok
returns-in-Ok-clause-ok g c =
    let m = g.M.Machine in
    let inv = c.self.invariant in
    let s = c.settle_receipt.ensures in
    let p = c.append.ensures in
    let t = c.take_note_of_book-in-Ok.ensures in
    let b = c.settle_receipt-in-Ok.ensures in
    let e = c.in-Ok.ensures.ok in
    let before = m.entries c.self.inside.machine in
    let after = m.entries c.apply.new.self in
    let w = c.settle_receipt-in-Ok.new.pass in
    let number_of = λ (v : Known g.row.M-Item.Denot). v.number in
    let history_of = λ (v : Known g.row.M-Item.Denot). v.history in
    let made_of = λ (v : Known g.row.M-Item.Denot). v.made in
    let number : c.number.result ≡ c.args.pass.now.number = c.number.ensures.number ∙ ap number_of s.pass in
    let written : c.append.new.book.me.0.history ≡ after = ap (λ (v : View g.row.M-Item.Denot). v.history) p.entry.2 ∙ sym p.entry.1 in
    let history : w.history ≡ after = ap history_of b.pass ∙ t.history ∙ written in
    let begins : IsPrefix c.args.pass.now.history before = subst (λ (l : List g.row.M-Item.Denot). IsPrefix c.args.pass.now.history l) inv.1.history s.begins in
    let cause : c.self.inside.cause ≡ c.args.self.now.ended = ap (λ (x : Held g.row.M-Item.Denot). x.ended) c.self.view_is in
    let entries : c.args.self.now.entries ≡ before = sym (ap (λ (x : Held g.row.M-Item.Denot). x.entries) c.self.view_is) in
    let ready : m.is_ready c.args.pass.now.number c.args.op before =
    ⊎_elim (λ (ended : IsSome c.args.self.now.ended). absurd (cc (subst (λ (o : Option EndCause). IsSome o) (sym cause ∙ c.in_default.is) ended)))
    (λ (turn : m.legal c.args.self.now.entries → m.is_ready c.args.pass.now.number c.args.op c.args.self.now.entries). subst (λ (l : List g.row.M-Item.Denot). m.legal l → m.is_ready c.args.pass.now.number c.args.op l) entries turn (subst m.legal inv.1.history s.legal))
    c.requires.turn in
    let knows = s.made in
    let counted : w.made ≡ c.self.inside.book.me.0.made = ap made_of b.pass ∙ t.made ∙ ap (λ (v : View g.row.M-Item.Denot). v.made) p.entry.2 ∙ s.book_made in
    let none : c.self.inside.book.me.0.ended ≡ None = inv.1.ended ∙ c.in_default.is in
    let noted = told_ended c.args.pass.now c.settle_receipt.new.pass c.take_note_of_book-in-Ok.new.pass c.self.inside.book.me.0.ended c.append.new.book.me.0.ended c.self.inside.book.me.0.history
    s.pass (ap (λ (v : View g.row.M-Item.Denot). v.ended) p.entry.2 ∙ s.book_ended) s.ended t.ended in
    record {
      entry = e.0;
      learned = learned_own_of m.caller_of m.legal c.args.pass.now e.0 w before (ap number_of b.pass ∙ t.number ∙ ap number_of s.pass) (omega (arith, counted, knows))
          (others_told_before m.caller_of c.args.pass.now c.settle_receipt.new.pass before c.append.new.book.me.0.history e.0 c.append.new.book.me.0.in_flight s.pass (written ∙ e.1) begins t.own)
          (history ∙ e.1) (e.2 ∙ number) (subst m.legal (sym history) e.4)
          (knew_none c.args.pass.now.ended c.self.inside.book.me.0.ended c.args.pass.now.history c.self.inside.book.me.0.history s.ended none)
          (ap (λ (v : Known g.row.M-Item.Denot). v.ended) b.pass ∙ noted ∙ none);
      ready = ready;
      given = subst (λ (x : ℕ). m.gives x c.args.op before e.0 c.in-Ok.reply) number e.3;
    }
