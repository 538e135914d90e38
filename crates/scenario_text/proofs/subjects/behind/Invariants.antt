use Rattle.std.proofs.Common.{◌≡◌, drop}
use Rattle.authority_model.specs.Words.{after_front}
use Rattle.scenario_text.proofs.subjects.behind.Given as goal

abbrev pub invariant-loop-wanted : goal.invariant-loop-wanted
invariant-loop-wanted l = after_front l.front l.word ≡ after_front (drop l.wanted-index l.front) l.rest
