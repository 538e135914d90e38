use Rattle.std.proofs.Common.{Option, Some, sym, subst}
use Rattle.authority_model.specs.declared.journal.Item.{Item}
use Rattle.connection_lookout.specs.Watching.{HasMet, watch_of}
use Rattle.history_lock.specs.Known.{Known}
use Rattle.connection_lookout.proofs.lookout.meet.Goals as goal

pub returns-in-Some-clause-third : goal.returns-in-Some-clause-third
returns-in-Some-clause-third g c = λ left gave.
    subst (λ (o : Option (Known Item)). HasMet c.meet_three.new.pass (watch_of o left gave) (watch_of (Some c.meet_three.new.sighter) left gave)) (sym c.in-Some.is) (c.meet_three.ensures.third left gave)
