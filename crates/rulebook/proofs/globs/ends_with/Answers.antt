use Rattle.rulebook.proofs.Places.{ends-last}
use Rattle.rulebook.proofs.globs.ends_with.Goals as goal

pub returns-in-Some : goal.returns-in-Some
returns-in-Some c = record { ends = ends-last c.args.places.now c.args.place c.in-Some.last.now c.in-Some.ensures.value }
