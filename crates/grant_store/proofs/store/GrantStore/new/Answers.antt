use Rattle.grant_store.proofs.Listing.{listed_none}
use Rattle.grant_store.proofs.store.GrantStore.new.Goals as goal

pub invariant_of-store : goal.invariant_of-store
invariant_of-store c = (tt, listed_none _ _ c.new-rows.ensures.empty c.new-by_key.ensures.empty)
