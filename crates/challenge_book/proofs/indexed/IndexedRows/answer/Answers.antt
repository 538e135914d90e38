use Rattle.std.proofs.Common.{sym, subst, List}
use Rattle.authority_model.specs.declared.pending.Pending.{Pending}
use Rattle.challenge_book.specs.Keys.{AreIndexed}
use Rattle.challenge_book.proofs.Keying.{noted}
use Rattle.challenge_book.proofs.indexed.IndexedRows.answer.Goals as goal

pub invariant_of-self : goal.invariant_of-self
invariant_of-self c = subst (λ (xs : List Pending). AreIndexed xs c.self.inside.by_cookie.entries c.self.inside.by_agent.entries c.self.inside.by_cancel.entries c.self.inside.by_user.entries) (sym c.answer.ensures.items) (noted c.self.inside.rows.items c.args.entry c.args.identity c.self.inside.by_cookie.entries c.self.inside.by_agent.entries c.self.inside.by_cancel.entries c.self.inside.by_user.entries c.self.invariant)
