use Rattle.serve_loader.proofs.Going.{unconnected_learned, unconnected_load}
use Rattle.serve_loader.proofs.fresh.loaders_stay_unconnected.Goals as goal

pub returns : goal.returns
returns c = record { others = unconnected_learned; load = unconnected_load }
