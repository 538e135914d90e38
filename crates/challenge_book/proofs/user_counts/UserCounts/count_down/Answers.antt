use Rattle.std.proofs.Common.{◌≡◌, ◌<◌, ◌-◌, sym, ap, ◌∙◌, subst, Some, None, arith}
use Rattle.std.specs.Option.{unwrap_or}
use Rattle.challenge_book.specs.Users.{Counts, count_at}
use Rattle.challenge_book.proofs.Counting.{have_some, not_none}
use Rattle.challenge_book.proofs.user_counts.UserCounts.count_down.Goals as goal

pub invariant_of-self : goal.invariant_of-self
invariant_of-self c = have_some c.args.uid None c.self.inside.counts.entries c.swap_remove.new.self.entries (λ e. cc) c.self.invariant c.swap_remove.ensures.updates.0

pub invariant_of-self-2 : goal.invariant_of-self-2
invariant_of-self-2 c =
    let found : c.unwrap_or-count.result ≡ count_at c.self.inside.counts.entries c.args.uid = c.unwrap_or-count.ensures ∙ ap (λ o. unwrap_or o 0) (c.copied.ensures ∙ c.get.ensures.value) in
    let some : 0 < count_at c.self.inside.counts.entries c.args.uid = subst (λ (x : Counts). 0 < count_at x.entries c.args.uid) (sym c.self.view_is) c.requires.some in
    have_some c.args.uid (Some (c.unwrap_or-count.result - 1)) c.self.inside.counts.entries c.insert.new.self.entries (not_none (c.unwrap_or-count.result - 1) (omega (arith, found, some, c.if-count-eq1.false))) c.self.invariant c.in-Ok.ensures.updates.0
