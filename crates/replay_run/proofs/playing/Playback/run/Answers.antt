-- What is known at each turn and at each exit.
use Rattle.std.proofs.Common.{arith, refl, ◌∙◌, ap, length, Err, Ok}
use Rattle.replay_run.specs.Telling.{tells}
use Rattle.replay_run.proofs.Exits.{at_first, go_on, stopped_gives, begins_line, begins_last, done_end, done_last, too_long, cut_off, no_memory, done_line, whole_end, whole_last}
use Rattle.replay_run.proofs.Faults.{fails_later, stopped_reads, stopped_writes}
use Rattle.replay_run.proofs.Promised.{may_line_on}
use Rattle.replay_run.proofs.playing.Playback.run.Goals as goal

pub lines-init : goal.lines-init
lines-init g c =
    let laws = g.met.I.Source g.world.𝓛 g.world.𝓜 g.world.𝓡 ((λ s x. x), (λ x. x), (λ x. x), λ x. x) in record {
      so_far = rw c.requires.number (at_first _ _ _ _ _ c.requires.reader c.requires.none);
      counted = rw c.requires.none c.requires.counted;
      same = refl;
      read = refl;
      wrote = refl;
      may = c.requires.may;
      kept = refl;
      count = omega (arith, laws.budget_bound c.args.input.now, ap length c.requires.reader, c.requires.number);
    }

pub lines-preserved : goal.lines-preserved
lines-preserved g c = record {
  so_far =
      let t = c.in-Line.ensures.takes in
      go_on c.lines.invariant.so_far (g.I.Source.ended c.next_line.new.input) _ _ t.0 _ c.next_line.new.line.items _ t.1 t.2 (done_line _ (tells c.args.self.now.telling) c.lines.self.scenario c.answer.new.scenario _ _ (g.O.Sink.held c.lines.output) (g.O.Sink.held c.answer.new.output) (Ok tt) c.lines.invariant.same c.deref.ensures.value c.in-Ok.ensures.done);
  counted = c.in-Ok.ensures.counted;
  same = c.answer.ensures.same ∙ c.lines.invariant.same;
  read = c.in-Line.ensures.faults ∙ c.lines.invariant.read;
  wrote = c.in-Ok.ensures.faults ∙ c.lines.invariant.wrote;
  may = may_line_on g.O.Sink.allowed (tells c.lines.self.telling) (tells c.answer.new.telling) c.lines.self.scenario c.answer.new.scenario _ _ _ c.answer.ensures.same c.in-Ok.ensures.done c.lines.invariant.may;
  kept = c.answer.ensures.kept ∙ c.lines.invariant.kept;
  count = omega (arith, c.lines.invariant.count, c.in-Line.ensures.fewer refl);
}

pub returns-in-Err-clause-run : goal.returns-in-Err-clause-run
returns-in-Err-clause-run g c =
    let so = c.lines.invariant.so_far in
    let t = c.in-Line.ensures.takes in
    rw c.end.ensures.end
    (stopped_gives c.in-Err.stopped so (g.I.Source.ended c.next_line.new.input) (g.I.Source.left c.next_line.new.input) (g.O.Sink.held c.answer.new.output) t.0 c.next_line.new.line.items c.answer.new.scenario
    t.1 (begins_line so (g.I.Source.ended c.next_line.new.input) t.0 c.next_line.new.self c.next_line.new.line.items t.2)
    (done_line _ (tells c.args.self.now.telling) c.lines.self.scenario c.answer.new.scenario _ _ (g.O.Sink.held c.lines.output) (g.O.Sink.held c.answer.new.output) (Err c.in-Err.stopped) c.lines.invariant.same c.deref.ensures.value c.in-Err.ensures.done))

pub returns-in-End-clause-run : goal.returns-in-End-clause-run
returns-in-End-clause-run g c =
    let t = c.in-End.ensures.takes in
    done_end c.lines.invariant.so_far _ _ t.0 c.next_line.new.self c.next_line.new.line.items t.1 t.2

pub returns-in-TooLong-clause-run : goal.returns-in-TooLong-clause-run
returns-in-TooLong-clause-run g c =
    let t = c.in-TooLong.ensures.takes in
    rw c.end-in-TooLong.ensures.end
    (too_long c.lines.invariant.so_far (g.I.Source.ended c.next_line.new.input) (g.I.Source.left c.next_line.new.input) t.0 c.next_line.new.self c.next_line.new.line.items t.1 t.2)

pub returns-in-ReadFault-clause-run : goal.returns-in-ReadFault-clause-run
returns-in-ReadFault-clause-run g c =
    let t = c.in-ReadFault.ensures.takes in
    cut_off c.lines.invariant.so_far _ _ t.0 c.next_line.new.self c.next_line.new.line.items t.1 t.2

pub returns-in-NoMemory-clause-run : goal.returns-in-NoMemory-clause-run
returns-in-NoMemory-clause-run g c =
    let t = c.in-NoMemory.ensures.takes in
    no_memory c.lines.invariant.so_far _ _ _ t.0 t.1 refl

pub returns-in-Ok-answer-clause-run : goal.returns-in-Ok-answer-clause-run
returns-in-Ok-answer-clause-run g c =
    let t = c.in-Last.ensures.takes in
    done_last c.lines.invariant.so_far _ _ _ t.0 c.next_line.new.self c.next_line.new.line.items _ t.1 t.2
    (done_line _ (tells c.args.self.now.telling) c.lines.self.scenario c.answer-in-Last.new.scenario _ _ (g.O.Sink.held c.lines.output) (g.O.Sink.held c.answer-in-Last.new.output) (Ok tt) c.lines.invariant.same c.deref-in-Last.ensures.value c.in-Ok-answer.ensures.done)

pub returns-in-Err-answer-clause-run : goal.returns-in-Err-answer-clause-run
returns-in-Err-answer-clause-run g c =
    let so = c.lines.invariant.so_far in
    let t = c.in-Last.ensures.takes in
    rw c.end-in-Err-answer.ensures.end
    (stopped_gives c.in-Err-answer.stopped so (g.I.Source.ended c.next_line.new.input) (g.I.Source.left c.next_line.new.input) (g.O.Sink.held c.answer-in-Last.new.output) t.0 c.next_line.new.line.items c.answer-in-Last.new.scenario
    t.1 (begins_last so (g.I.Source.ended c.next_line.new.input) t.0 c.next_line.new.self c.next_line.new.line.items t.2)
    (done_line _ (tells c.args.self.now.telling) c.lines.self.scenario c.answer-in-Last.new.scenario _ _ (g.O.Sink.held c.lines.output) (g.O.Sink.held c.answer-in-Last.new.output) (Err c.in-Err-answer.stopped) c.lines.invariant.same c.deref-in-Last.ensures.value c.in-Err-answer.ensures.done))

pub returns-in-Err-clause-read : goal.returns-in-Err-clause-read
returns-in-Err-clause-read g c = rw c.end.ensures.end (stopped_reads g.I.Source.left g.I.Source.faults _ _ c.in-Err.stopped _ (c.in-Line.ensures.faults ∙ c.lines.invariant.read))

pub returns-in-Err-clause-write : goal.returns-in-Err-clause-write
returns-in-Err-clause-write g c = rw c.end.ensures.end (stopped_writes g.O.Sink.held g.O.Sink.faults _ c.lines.output _ c.in-Err.stopped _ c.lines.invariant.wrote c.in-Err.ensures.faults)

pub returns-in-End-clause-read : goal.returns-in-End-clause-read
returns-in-End-clause-read g c = c.in-End.ensures.faults ∙ c.lines.invariant.read

pub returns-in-End-clause-write : goal.returns-in-End-clause-write
returns-in-End-clause-write g c = c.lines.invariant.wrote

pub returns-in-TooLong-clause-read : goal.returns-in-TooLong-clause-read
returns-in-TooLong-clause-read g c = rw c.end-in-TooLong.ensures.end (c.in-TooLong.ensures.faults ∙ c.lines.invariant.read)

pub returns-in-TooLong-clause-write : goal.returns-in-TooLong-clause-write
returns-in-TooLong-clause-write g c = rw c.end-in-TooLong.ensures.end c.lines.invariant.wrote

pub returns-in-ReadFault-clause-read : goal.returns-in-ReadFault-clause-read
returns-in-ReadFault-clause-read g c = fails_later g.I.Source.left g.I.Source.faults _ c.lines.input _ c.lines.invariant.read c.in-ReadFault.ensures.faults

pub returns-in-ReadFault-clause-write : goal.returns-in-ReadFault-clause-write
returns-in-ReadFault-clause-write g c = c.lines.invariant.wrote

pub returns-in-NoMemory-clause-read : goal.returns-in-NoMemory-clause-read
returns-in-NoMemory-clause-read g c = c.in-NoMemory.ensures.faults ∙ c.lines.invariant.read

pub returns-in-NoMemory-clause-write : goal.returns-in-NoMemory-clause-write
returns-in-NoMemory-clause-write g c = c.lines.invariant.wrote

pub returns-in-Ok-answer-clause-read : goal.returns-in-Ok-answer-clause-read
returns-in-Ok-answer-clause-read g c = c.in-Last.ensures.faults ∙ c.lines.invariant.read

pub returns-in-Ok-answer-clause-write : goal.returns-in-Ok-answer-clause-write
returns-in-Ok-answer-clause-write g c = c.in-Ok-answer.ensures.faults ∙ c.lines.invariant.wrote

pub returns-in-Err-answer-clause-read : goal.returns-in-Err-answer-clause-read
returns-in-Err-answer-clause-read g c = rw c.end-in-Err-answer.ensures.end (stopped_reads g.I.Source.left g.I.Source.faults _ _ c.in-Err-answer.stopped _ (c.in-Last.ensures.faults ∙ c.lines.invariant.read))

pub returns-in-Err-answer-clause-write : goal.returns-in-Err-answer-clause-write
returns-in-Err-answer-clause-write g c = rw c.end-in-Err-answer.ensures.end (stopped_writes g.O.Sink.held g.O.Sink.faults _ c.lines.output _ c.in-Err-answer.stopped _ c.lines.invariant.wrote c.in-Err-answer.ensures.faults)

pub returns-in-End-clause-whole : goal.returns-in-End-clause-whole
returns-in-End-clause-whole g c =
    let t = c.in-End.ensures.takes in
    λ is. whole_end c.lines.invariant.so_far _ _ t.0 c.next_line.new.self c.next_line.new.line.items t.1 t.2

pub returns-in-Ok-answer-clause-whole : goal.returns-in-Ok-answer-clause-whole
returns-in-Ok-answer-clause-whole g c =
    let t = c.in-Last.ensures.takes in
    λ is. whole_last c.lines.invariant.so_far _ _ _ t.0 c.next_line.new.self c.next_line.new.line.items _ t.1 t.2
    (done_line _ (tells c.args.self.now.telling) c.lines.self.scenario c.answer-in-Last.new.scenario _ _ (g.O.Sink.held c.lines.output) (g.O.Sink.held c.answer-in-Last.new.output) (Ok tt) c.lines.invariant.same c.deref-in-Last.ensures.value c.in-Ok-answer.ensures.done)

pub answer-requires-clause-may : goal.answer-requires-clause-may
answer-requires-clause-may g c κs within = c.lines.invariant.may

pub answer-requires-in-Last-clause-may : goal.answer-requires-in-Last-clause-may
answer-requires-in-Last-clause-may g c κs within = c.lines.invariant.may
