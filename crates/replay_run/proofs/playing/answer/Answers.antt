-- The line made an entry, whose answers were told as far as the result says.
use Rattle.authority_model.specs.Items.{sent}
use Rattle.replay_run.specs.Telling.{HasCounted, tells}
use Rattle.replay_run.proofs.Entered.{draft_done, entry_done, last_counted, kept_past, made_entry, stop_done}
use Rattle.replay_run.proofs.Faults.{stop_writes}
use Rattle.replay_run.proofs.Promised.{may_last}
use Rattle.replay_run.proofs.playing.answer.Goals as goal

pub returns-in-Ok-Entry-clause-counted : goal.returns-in-Ok-Entry-clause-counted
returns-in-Ok-Entry-clause-counted g c =
    last_counted (tells c.args.telling.now) (HasCounted c.tell_last.new.telling) c.args.scenario.now c.take_line.new.self _ _ c.tell_last.result
    (made_entry _ _ _ c.in-Ok-Entry.field-0-is c.in-Ok-Entry.ensures.taken) (c.tell_last.ensures.told (sent c.args.scenario.now.past) c.requires.counted)

pub returns-in-Ok-Entry-clause-done : goal.returns-in-Ok-Entry-clause-done
returns-in-Ok-Entry-clause-done g c =
    entry_done (tells c.args.telling.now) (HasCounted c.tell_last.new.telling) c.args.scenario.now c.take_line.new.self c.args.line.now _ _ c.tell_last.result
    c.in-Ok-Entry.ensures.ok (made_entry _ _ _ c.in-Ok-Entry.field-0-is c.in-Ok-Entry.ensures.taken) c.tell_last.ensures.legal (c.tell_last.ensures.told (sent c.args.scenario.now.past) c.requires.counted)

pub returns-in-Err-clause-faults : goal.returns-in-Err-clause-faults
returns-in-Err-clause-faults g c = rw c.of.ensures.stop (stop_writes g.O.Sink.held g.O.Sink.faults _ c.in-Err.stop)

pub returns-in-Err-clause-done : goal.returns-in-Err-clause-done
returns-in-Err-clause-done g c = rw c.of.ensures.stop (stop_done (tells c.args.telling.now) _ _ _ _ c.in-Err.stop c.in-Err.ensures.stop)

pub returns-in-Ok-Draft-clause-done : goal.returns-in-Ok-Draft-clause-done
returns-in-Ok-Draft-clause-done g c = draft_done (tells c.args.telling.now) _ _ _ _ c.in-Ok-Draft.ensures.ok (kept_past _ _ _ c.in-Ok-Draft.field-0-is c.in-Ok-Draft.ensures.taken) c.requires.legal

pub tell_last-requires-clause-may : goal.tell_last-requires-clause-may
tell_last-requires-clause-may g c κs within = λ legal.
    may_last g.O.Sink.allowed _ c.args.telling.now c.args.scenario.now.past c.take_line.new.self.past (made_entry _ _ _ c.in-Ok-Entry.field-0-is c.in-Ok-Entry.ensures.taken) legal c.requires.counted c.requires.may
