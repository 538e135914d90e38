-- The lines ran, and the file went back.
use Rattle.std.proofs.Common.{◌≡◌, ◌∙◌, refl, ap}
use Rattle.authority_model.specs.declared.journal.Item.{Item}
use Rattle.scenario_run.specs.Room.{Keeping, in_segments}
use Rattle.scenario_run.specs.Scene.{Scene, start}
use Rattle.replay_run.specs.Telling.{tells}
use Rattle.replay_run.proofs.Told.{none_counted}
use Rattle.replay_segments.specs.Ends.{start_in}
use Rattle.replay_segments.proofs.Ends.{done_before}
use Rattle.replay_segments.proofs.Filing.{files_so, may_from, reads_so, run_ends, writes_so}
use Rattle.replay_segments.proofs.running.run_in_file.Goals as goal

pub run-end-requires-clause-counted : goal.run-end-requires-clause-counted
run-end-requires-clause-counted g c κs within = none_counted c.over-playback.result.telling c.start-2.result c.over-playback.ensures.telling c.start-2.ensures.none

pub run-end-requires-clause-may : goal.run-end-requires-clause-may
run-end-requires-clause-may g c κs within =
    may_from g.O.Sink.allowed (g.O.Sink.held c.args.output.now) (tells c.over-playback.result.telling) c.over-playback.result.scenario.past (ap (λ (s : Scene). s.past) c.over-playback.ensures.scenario) c.requires.may

pub returns-clause-run : goal.returns-clause-run
returns-clause-run g c =
    let kept : c.in_segments-journal.result.keeping ≡ in_segments (record { per = c.args.segmented.per; file = g.N.File.Sink.path c.args.file }) =
    c.in_segments-journal.ensures.keeping
    ∙ ap (λ n. in_segments (record { per = n; file = g.N.File.Sink.path c.start.result.file })) c.start.ensures.per
    ∙ ap (λ f. in_segments (record { per = c.args.segmented.per; file = g.N.File.Sink.path f })) c.start.ensures.file in
    let begin : c.over-playback.result.scenario ≡ start_in c.args.segmented.per (g.N.File.Sink.path c.args.file) c.args.first = c.over-playback.ensures.scenario ∙ ap (λ (k : Keeping). start k c.args.first) kept in record {
      replays = run_ends _ c.over-playback.result.scenario _ _ _ _ _ _ c.run-end.result c.file_back.result (ap tells c.over-playback.ensures.telling) begin tt c.file_back.ensures.ended c.run-end.ensures.run;
      filed = λ is. files_so _ c.over-playback.result.scenario _ _ _ (record { per = c.args.segmented.per; file = g.N.File.Sink.path c.args.file }) (record { per = c.in-Some.journal.per; file = g.N.File.Sink.path c.in-Some.journal.file })
          c.run-end.new.self.scenario.past c.in-Some.journal.past _ _ begin
          (c.in-Some.ensures.keeping ∙ c.into_journal.ensures.kept ∙ c.run-end.ensures.kept ∙ ap (λ (s : Scene). s.keeping) begin)
          (c.in-Some.ensures.past ∙ c.into_journal.ensures.past) (c.run-end.ensures.whole (done_before c.run-end.result c.file_back.result c.file_back.ensures.ended is)) (c.file_back.ensures.back is);
    }

pub returns-clause-read : goal.returns-clause-read
returns-clause-read g c = reads_so g.I.Source.left g.I.Source.faults _ _ c.run-end.result c.file_back.result c.file_back.ensures.ended c.run-end.ensures.read

pub returns-clause-write : goal.returns-clause-write
returns-clause-write g c = writes_so g.O.Sink.held g.O.Sink.faults _ _ c.run-end.result c.file_back.result c.file_back.ensures.ended c.run-end.ensures.write
