-- The file was made, or the run did not begin.
use Rattle.std.proofs.Common.{ap, subst, ℕ}
use Rattle.replay_segments.specs.Ends.{IsRunInFile}
use Rattle.replay_segments.proofs.Ends.{filed_is}
use Rattle.replay_segments.proofs.Filing.{filed_as, unbegun, unmade}
use Rattle.replay_segments.proofs.running.run_told.Goals as goal

pub returns-in_default-clause-run : goal.returns-in_default-clause-run
returns-in_default-clause-run g c = unbegun c.args.first _ _ _ _ _ _ _

pub returns-in_default-start-clause-run : goal.returns-in_default-start-clause-run
returns-in_default-start-clause-run g c = unbegun c.args.first _ _ _ _ _ _ _

pub returns-in-Err-Failed-clause-run : goal.returns-in-Err-Failed-clause-run
returns-in-Err-Failed-clause-run g c = unmade c.args.first _ _ _ _ _ _ _

pub returns-clause-run : goal.returns-clause-run
returns-clause-run g c = unbegun c.args.first _ _ _ _ _ _ _

pub returns-in-Ok-file-clause-run : goal.returns-in-Ok-file-clause-run
returns-in-Ok-file-clause-run g c =
    let r = c.run_in_file.ensures.run in
    let again = subst (λ (n : ℕ). IsRunInFile c.args.first (g.N.File.Sink.path c.in-Ok-file.file) n (g.I.Source.left c.args.input.now) (g.I.Source.left c.run_in_file.new.input) (g.I.Source.ended c.run_in_file.new.input) (g.O.Sink.held c.args.output.now) (g.O.Sink.held c.run_in_file.new.output) (g.N.Station.told c.file.new.self) (g.N.Station.told c.run_in_file.new.station) c.run_in_file.result) c.in-Ok-start.ensures.per r in record {
      file = g.N.File.Sink.path c.in-Ok-file.file;
      replays = again.replays;
      filed = λ is. filed_as _ _ _ _ c.args.per _ _ (λ bytes back. filed_is _ _ _ c.args.path.now bytes _ _ c.in-Ok-file.ensures.file back) (again.filed is);
    }
