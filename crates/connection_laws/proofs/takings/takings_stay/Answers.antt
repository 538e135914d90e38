use Rattle.connection_laws.proofs.Taking.{taken_learned, taken_named, taken_none}
use Rattle.connection_laws.proofs.takings.takings_stay.Goals as goal

pub returns : goal.returns
returns c = record { none = taken_none; others = taken_learned; named = taken_named }
