use Rattle.connection_laws.proofs.Finding.{finds_entered, finds_learned, finds_none}
use Rattle.connection_laws.proofs.takings.collects_find.Goals as goal

pub returns : goal.returns
returns c = record { none = finds_none; others = finds_learned; own = finds_entered }
