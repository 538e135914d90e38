-- What stops a run, and how this ends it.
use Rattle.authority_core.specs.declared.halt.Halt.{Halt}
use Rattle.authority_core.specs.declared.halt.Halt.TheVariants as halt
use Rattle.pipe_run.specs.declared.ends.PipeEnd.{PipeEnd}
use Rattle.pipe_run.specs.declared.ends.PipeEnd.TheVariants as end
use Rattle.pipe_run.specs.declared.ends.Stopped.{Stopped}
use Rattle.pipe_run.specs.declared.ends.Stopped.TheVariants as stopped

-- what stops it where nothing was added to the journal
abbrev pub stopped_by : Halt → Stopped
stopped_by (halt.Full full) = stopped.Full full
stopped_by halt.NoMemory = stopped.NoMemory

-- how this ends it
abbrev pub end_of : Stopped → PipeEnd
end_of (stopped.Full full) = end.Full full
end_of stopped.WriteFault = end.WriteFault
end_of stopped.NoMemory = end.NoMemory
