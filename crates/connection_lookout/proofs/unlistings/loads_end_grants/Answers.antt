use Rattle.connection_lookout.proofs.Resting.{process_unlisted, yes_rests}
use Rattle.connection_lookout.proofs.unlistings.loads_end_grants.Goals as goal

pub returns : goal.returns
returns c = record { ended = yes_rests; sighters = process_unlisted }
