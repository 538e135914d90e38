use Rattle.history_lock.proofs.Growth.{learned_trans}
use Rattle.shared_authority.specs.Journals.{IsJournal, caller_of}
use Rattle.connection_lookout.proofs.Lookouts.{meets_again, sighter_met}
use Rattle.connection_lookout.proofs.lookout.meet_three.Goals as goal

pub returns-clause-equal : goal.returns-clause-equal
returns-clause-equal g c =
    let one = c.meet.ensures in
    let two = c.meet-2.ensures in
    let three = c.meet-3.ensures in
    meets_again c.meet.new.first c.meet.new.second c.meet-2.new.first c.meet-3.new.first c.meet-2.new.second one.equal.0 one.equal.1 one.equal.2 two.first two.equal three.longer three.made three.ended

pub returns-clause-first : goal.returns-clause-first
returns-clause-first g c =
    learned_trans caller_of IsJournal c.args.pass.now c.meet.new.first c.meet-3.new.first c.meet.ensures.first
    (learned_trans caller_of IsJournal c.meet.new.first c.meet-2.new.first c.meet-3.new.first c.meet-2.ensures.first c.meet-3.ensures.first)

pub returns-clause-third : goal.returns-clause-third
returns-clause-third g c = λ left gave.
    let three = c.meet-3.ensures in
    sighter_met c.meet-3.new.first c.args.sighter.now c.meet.new.second c.meet-3.new.second left gave c.meet.ensures.second three.second three.equal.0 three.equal.1 three.equal.2
