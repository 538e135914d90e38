use Rattle.client_messages.proofs.Others.{other_exactly}
use Rattle.client_messages.proofs.laws.other_is_nothing_else.Goals as goal

pub returns : goal.returns
returns c = record { exact = other_exactly }
