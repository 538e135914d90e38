-- The messages so far were answered, and nothing failed.
use Rattle.std.proofs.Common.{◌≡◌, ◌+◌, ◌*◌, [], length, true}
use Rattle.authority_model.specs.Items.{sent}
use Rattle.pipe_run.specs.declared.served.TheConstants.{CONNECTION}
use Rattle.pipe_run.specs.Handed.{awaits_message}
use Rattle.pipe_run.specs.Promises.{MayGoOn}
use Rattle.pipe_run.specs.Stages.{Running, Stage, Start, standing}
use Rattle.pipe_run.specs.Supplies.{supply}
use Rattle.pipe_run.proofs.running.serve.Given as goal

abbrev pub invariant-messages : goal.invariant-messages
invariant-messages g l = record {
  running : (s : Start) → s.opening.told ≡ g.T.Tree.told l.fn.tree → s.opening.root ≡ l.root
      → Stage s (standing l.fn.served (g.T.Tree.faults l.fn.tree) (supply (g.C.Clock.left l.fn.clock) (g.C.Clock.gave l.fn.clock)) (supply (g.S.Salt.left l.fn.salt) (g.S.Salt.gave l.fn.salt)) (g.O.Sink.held l.fn.output)) []
      → Running s (standing l.served (g.T.Tree.faults l.tree) (supply (g.C.Clock.left l.clock) (g.C.Clock.gave l.clock)) (supply (g.S.Salt.left l.salt) (g.S.Salt.gave l.salt)) (g.O.Sink.held l.output)) (g.I.Source.left l.fn.input) (g.I.Source.left l.input) l.buffer;
  counted : l.served.sent ≡ sent l.served.past CONNECTION;
  waits : awaits_message l.served.past ≡ true;
  told : g.T.Tree.told l.tree ≡ g.T.Tree.told l.fn.tree;
  read : g.I.Source.faults l.input ≡ g.I.Source.faults l.fn.input;
  wrote : g.O.Sink.faults l.output ≡ g.O.Sink.faults l.fn.output;
  may : MayGoOn g.O.Sink.allowed (g.O.Sink.held l.output) l.served;
}

abbrev pub decreases-messages : goal.decreases-messages
decreases-messages g l = 2 * g.I.Source.budget l.input + length l.buffer
