use Rattle.std.proofs.Common.{◌+◌, Some, arith}
use Rattle.challenge_book.proofs.Counting.{have_some, not_none}
use Rattle.challenge_book.proofs.user_counts.UserCounts.count_up.Goals as goal

pub invariant_of-self : goal.invariant_of-self
invariant_of-self c = have_some c.args.uid (Some (c.unwrap_or-count.result + 1)) c.self.inside.counts.entries c.insert.new.self.entries (not_none (c.unwrap_or-count.result + 1) (omega arith)) c.self.invariant c.in-Ok.ensures.updates.0
