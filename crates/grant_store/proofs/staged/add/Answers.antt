use Rattle.std.proofs.Common.{sym, subst}
use Rattle.grant_store.specs.Listed.{AreListed}
use Rattle.grant_store.proofs.Listing.{listed_push}
use Rattle.grant_store.proofs.staged.add.Goals as goal

pub returns-clause-listed : goal.returns-clause-listed
returns-clause-listed c =
    subst (λ xs. AreListed xs c.put.new.lists.entries) (sym c.push.ensures.items)
    (listed_push c.args.row c.args.key.now c.args.rows.now.items c.args.lists.now.entries c.put.new.lists.entries c.requires.key c.requires.fresh c.put.ensures.put c.requires.listed)
