use Rattle.std.proofs.Common.{ap, ◌∙◌}
use Rattle.script_agent.specs.Lines.{LineNow}
use Rattle.script_agent.proofs.Moves.{shakes_from, faults_from}
use Rattle.script_agent.proofs.line.Line.shake.Goals as goal

pub shake_hands-requires-clause-empty : goal.shake_hands-requires-clause-empty
shake_hands-requires-clause-empty g c κs within = ap (λ (x : LineNow). x.rest) c.self.view_is ∙ c.requires.rest

pub shake_hands-requires-clause-free : goal.shake_hands-requires-clause-free
shake_hands-requires-clause-free g c κs within = c.requires.free

pub returns-clause-shakes : goal.returns-clause-shakes
returns-clause-shakes g c = shakes_from c.args.uid _ _ _ _ _ _ _ c.self.view_is c.shake_hands.ensures.shakes

pub returns-clause-faults : goal.returns-clause-faults
returns-clause-faults g c = faults_from _ _ _ _ _ c.self.view_is c.shake_hands.ensures.faults

pub returns-clause-origin : goal.returns-clause-origin
returns-clause-origin g c = c.shake_hands.ensures.same ∙ ap (λ (x : LineNow). x.origin) c.self.view_is

pub returns-clause-sent : goal.returns-clause-sent
returns-clause-sent g c = ap (λ (x : LineNow). x.sent) c.self.view_is
