-- The end of the run of a connection gives the status of its command.
use Rattle.std.proofs.Common.{ℕ, inr}
use Rattle.pipe_run.specs.declared.ends.PipeEnd.{PipeEnd}
use Rattle.pipe_run.specs.declared.ends.PipeEnd.TheVariants as end
use Rattle.pipe_run.specs.Ends.{Traffic}
use Rattle.polkit_daemon.specs.Piped.{PipesFirst, PipesFrom, Plan, status_of}

-- a run that began with the first load and ended so pipes as its status says
pub piped_from : (p : Plan) (before now : ℕ) (t : Traffic) (stop : PipeEnd) → PipesFirst p before now t stop → PipesFrom p before now t (status_of stop)
piped_from p before now t end.Done is = is
piped_from p before now t end.ReadFault is = is
piped_from p before now t end.WriteFault is = is
piped_from p before now t (end.Full full) is = is
piped_from p before now t (end.BadBytes kind at) is = is
piped_from p before now t (end.Truncated rest) is = is
piped_from p before now t end.NoMemory is = inr is
