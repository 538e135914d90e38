-- The answers may be written, with the counts that are kept.
use Rattle.replay_run.proofs.Promised.{may_answers}
use Rattle.replay_run.proofs.Told.{none_told}
use Rattle.replay_run.proofs.telling.Telling.tell.Goals as goal

pub write_answers-requires-clause-may : goal.write_answers-requires-clause-may
write_answers-requires-clause-may g c κs within = may_answers g.O.Sink.allowed _ c.args.journal.now.past c.args.self.now _ _ c.in-Answers.is c.in-Some.ensures.outputs c.requires.may

pub returns-in-None-clause-told : goal.returns-in-None-clause-told
returns-in-None-clause-told g c counts has = none_told c.args.self.now _ _ _ c.in-Answers.is
