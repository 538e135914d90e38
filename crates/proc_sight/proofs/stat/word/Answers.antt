use Rattle.proc_sight.proofs.Words.{word_less, word_cut, word_last, no_word}
use Rattle.proc_sight.proofs.stat.word.Goals as goal

pub returns-in_default : goal.returns-in_default
returns-in_default c = record { word = no_word c.args.words.now c.loop-i.rest.now c.loop-i.i c.args.place c.loop-i-test.true c.loop-i.invariant c.in_default.ensures.none }

pub loop-i-preserved : goal.loop-i-preserved
loop-i-preserved c = word_less c.args.words.now c.loop-i.rest.now _ c.in-Some.after.now c.loop-i.i c.loop-i.invariant c.in-Some.ensures.found

pub returns-in-Some-cut : goal.returns-in-Some-cut
returns-in-Some-cut c =
    record { word = word_cut c.args.words.now c.loop-i.rest.now c.in-Some-cut.word.now _ c.loop-i.i c.args.place c.loop-i-test.false c.loop-i.auto.i-end c.loop-i.invariant c.in-Some-cut.ensures.found }

pub returns-in-None : goal.returns-in-None
returns-in-None c =
    record { word = word_last c.args.words.now c.loop-i.rest.now c.loop-i.i c.args.place c.loop-i-test.false c.loop-i.auto.i-end c.loop-i.invariant c.in-None.ensures.none }
