-- Where no plan could be made for want of memory, this is the status.
use Rattle.std.proofs.Common.{refl}
use Rattle.authority_service.specs.declared.ends.ServiceEnd.TheVariants as end
use Rattle.polkit_daemon.proofs.serving.serve_named.Goals as goal

pub returns-in-Err-clause-status : goal.returns-in-Err-clause-status
returns-in-Err-clause-status g c = (end.NoMemory, refl)
