use Rattle.std.proofs.Common.{◌%◌}
use Rattle.history_lock.proofs.Waking.{stays_set, is_set_by_second}
use Rattle.history_lock.proofs.woken.Woken.and.Goals as goal

pub returns-clause-first : goal.returns-clause-first
returns-clause-first c = λ number wakes. stays_set c.args.self.places c.args.others.places (number % 128) wakes

pub returns-clause-second : goal.returns-clause-second
returns-clause-second c = λ number wakes. is_set_by_second c.args.self.places c.args.others.places (number % 128) wakes
