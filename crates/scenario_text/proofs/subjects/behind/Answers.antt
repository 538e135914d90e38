use Rattle.scenario_text.proofs.Reading.{front_ends}
use Rattle.scenario_text.proofs.subjects.behind.Goals as goal

pub returns-in_default : goal.returns-in_default
returns-in_default c = record {
  rest = front_ends c.args.front.now c.args.word.now c.loop-wanted.rest.now c.loop-wanted.wanted-index c.loop-wanted.invariant c.loop-wanted-test.true c.in_default.len_below;
}
