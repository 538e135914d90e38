use Rattle.connection_laws.proofs.Refused.{collect_learned, load_learned, submit_learned}
use Rattle.connection_laws.proofs.passes.refusals_tell_of_others.Goals as goal

pub returns : goal.returns
returns c = record { event = submit_learned; load = load_learned; collect = collect_learned }
