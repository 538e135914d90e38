-- The run begins with the first draft, or its refusal ends it.
use Rattle.scenario_run.specs.Room.{whole}
use Rattle.replay_run.proofs.FirstLoads.{began_first, refused_first}
use Rattle.replay_run.proofs.Leading.{goes_on}
use Rattle.replay_run.proofs.replaying.replay.Goals as goal

pub returns-in-Err-clause-run : goal.returns-in-Err-clause-run
returns-in-Err-clause-run g c = refused_first _ _ _ _ _ _ _ c.in-Err.refused _ c.refused_end.ensures.end c.in-Err.ensures.refused

pub returns-in-Ok-clause-run : goal.returns-in-Ok-clause-run
returns-in-Ok-clause-run g c =
    began_first _ _ _ _ _ _ _ (goes_on (whole c.args.limits) _ _ _ _ _) (record { first = c.in-Ok.first; is_first = c.in-Ok.ensures.first; run = c.replay_from.ensures.run })

pub replay_from-requires-clause-may : goal.replay_from-requires-clause-may
replay_from-requires-clause-may g c κs within = c.requires.may c.in-Ok.first c.in-Ok.ensures.first
