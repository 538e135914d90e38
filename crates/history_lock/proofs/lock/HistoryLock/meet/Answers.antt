use Rattle.std.proofs.Common.{◌≤◌, ℕ, ◌≡◌, refl, sym, ap, ◌∙◌, subst, rules}
use Rattle.std.proofs.Math.Nat.{le-max_left}
use mathlib.Core.List.{IsPrefix}
use Rattle.history_lock.specs.Known.{Known}
use Rattle.history_lock.specs.Calls.{Learned}
use Rattle.history_lock.specs.Causes.{KnowsEnd}
use Rattle.history_lock.proofs.Prefixes.{prefix_whole}
use Rattle.history_lock.proofs.Keeps.{longer_is}
use Rattle.history_lock.proofs.Knowing.{told_kept}
use Rattle.history_lock.proofs.Growth.{others_of, learned_of}
use Rattle.history_lock.proofs.lock.HistoryLock.meet.Goals as goal

pub returns-clause-first : goal.returns-clause-first
returns-clause-first g c =
    let m = g.M.Machine in
    let a = c.take_note_of_pass.ensures in
    let b = c.take_note_of_pass-2.ensures in
    let p = c.take_note_of_pass.new.from in
    let w = c.take_note_of_pass-2.new.to in
    let made : p.made ≤ w.made = subst (λ (k : ℕ). p.made ≤ k) (sym b.made) (le-max_left p.made c.take_note_of_pass.new.to.made) in
    subst (λ (q : Known g.row.M-Item.Denot). Learned m.caller_of m.legal q w) a.from
    (learned_of m.caller_of m.legal p w b.number made (others_of m.caller_of p.number p.history w.history b.begins b.own) b.legal b.known)

pub returns-clause-second : goal.returns-clause-second
returns-clause-second g c =
    let m = g.M.Machine in
    let a = c.take_note_of_pass.ensures in
    let b = c.take_note_of_pass-2.ensures in
    let p = c.args.second.now in
    let w = c.take_note_of_pass.new.to in
    let made : p.made ≤ w.made = subst (λ (k : ℕ). p.made ≤ k) (sym a.made) (le-max_left p.made c.args.first.now.made) in
    subst (λ (q : Known g.row.M-Item.Denot). Learned m.caller_of m.legal p q) (sym b.from)
    (learned_of m.caller_of m.legal p w a.number made (others_of m.caller_of p.number p.history w.history a.begins a.own) a.legal a.known)

pub returns-clause-equal : goal.returns-clause-equal
returns-clause-equal g c =
    let a = c.take_note_of_pass.ensures in
    let b = c.take_note_of_pass-2.ensures in
    let p = c.take_note_of_pass.new.from in
    let q = c.take_note_of_pass.new.to in
    let w = c.take_note_of_pass-2.new.to in
    let told : KnowsEnd p.ended p.history q.ended q.history = subst (λ (x : Known g.row.M-Item.Denot). KnowsEnd x.ended x.history q.ended q.history) (sym a.from) a.told in
    let covers : IsPrefix p.history q.history = subst (λ (x : Known g.row.M-Item.Denot). IsPrefix x.history q.history) (sym a.from) a.covers in
    let longer : w.history ≡ q.history = b.longer ∙ longer_is p.history q.history (λ l. l ≡ q.history) (λ le. prefix_whole p.history q.history covers le) (λ _. refl) in (
      longer ∙ sym (ap (λ (x : Known g.row.M-Item.Denot). x.history) b.from),
      search rules,
      told_kept p.ended q.ended w.ended p.history q.history told b.ended ∙ sym (ap (λ (x : Known g.row.M-Item.Denot). x.ended) b.from),
    )

pub returns-clause-ended : goal.returns-clause-ended
returns-clause-ended g c =
    let a = c.take_note_of_pass.ensures in
    let b = c.take_note_of_pass-2.ensures in
    let p = c.take_note_of_pass.new.from in
    let q = c.take_note_of_pass.new.to in
    let w = c.take_note_of_pass-2.new.to in
    let told : KnowsEnd p.ended p.history q.ended q.history = subst (λ (x : Known g.row.M-Item.Denot). KnowsEnd x.ended x.history q.ended q.history) (sym a.from) a.told in
    told_kept p.ended q.ended w.ended p.history q.history told b.ended ∙ a.ended

pub returns-clause-one_cause : goal.returns-clause-one_cause
returns-clause-one_cause g c cause other first second =
    let a = c.take_note_of_pass.ensures in
    let p = (a.told cause first).0 in
    let q = (a.known other second).0 in cc (p, q)
