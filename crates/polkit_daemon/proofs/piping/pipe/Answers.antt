use Rattle.std.proofs.Common.{sym}
use Rattle.polkit_daemon.proofs.PipeEnds.{piped_from}
use Rattle.polkit_daemon.proofs.piping.pipe.Goals as goal

pub returns-in-Ok-clause-run : goal.returns-in-Ok-clause-run
returns-in-Ok-clause-run g c =
    rw c.status_of.ensures.status (piped_from _ _ _ _ c.run_pipe.result (record {
      first = c.in-Ok.first;
      is_first = c.in-Ok.ensures.load;
      start = g.T.Tree.faults c.load.new.tree;
      later = c.in-Ok.ensures.later;
      run = rw (sym c.in-Ok.ensures.same) c.run_pipe.ensures.run;
    }))
