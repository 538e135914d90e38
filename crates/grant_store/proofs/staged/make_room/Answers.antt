use Rattle.std.proofs.Common.{subst, sym}
use Rattle.std.proofs.lemmas.Result.{IfOk-weaker}
use Rattle.grant_store.specs.Listed.{AreListed}
use Rattle.grant_store.proofs.Listing.{listed_along}
use Rattle.grant_store.proofs.staged.make_room.Goals as goal

pub returns-in_err-reserve-clause-listed : goal.returns-in_err-reserve-clause-listed
returns-in_err-reserve-clause-listed c = subst (λ xs. AreListed xs c.args.lists.now.entries) (sym c.reserve.ensures.items) c.requires.listed

pub returns-in_err-claim-clause-listed : goal.returns-in_err-claim-clause-listed
returns-in_err-claim-clause-listed c = listed_along c.args.rows.now.items c.reserve.new.self.items c.args.lists.now.entries c.claim.new.lists.entries c.reserve.ensures.items c.claim.ensures.numbers c.requires.listed

pub returns-clause-listed : goal.returns-clause-listed
returns-clause-listed c = listed_along c.args.rows.now.items c.reserve.new.self.items c.args.lists.now.entries c.claim.new.lists.entries c.reserve.ensures.items c.claim.ensures.numbers c.requires.listed

pub returns-clause-ok : goal.returns-clause-ok
returns-clause-ok c = IfOk-weaker c.try_own.result _ _ (λ key is. (c.in_ok-reserve.ensures.ok, c.in_ok-claim.ensures.ok key is, is)) c.try_own.ensures.key
