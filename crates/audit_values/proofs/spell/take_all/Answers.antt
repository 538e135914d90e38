use Rattle.audit_words.specs.Codecs.{take_items}
use Rattle.audit_words.proofs.Loops.{goes_on}
use Rattle.audit_values.proofs.spell.take_all.Goals as goal

pub loop-preserved : goal.loop-preserved
loop-preserved g c =
    rw c.in_ok-try_push.ensures.ok
    (goes_on _ g.T.Spell.codec c.loop.items c.args.count c.loop.counter c.loop.words c.in_ok-item.item c.take_from.new.words
    (take_items g.T.Spell.codec c.args.count c.args.words.now) c.loop-test.true c.in_ok-item.ensures.taken c.loop.invariant)
