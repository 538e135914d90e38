use Rattle.std.proofs.Common.{sym, subst}
use Rattle.authority_model.specs.declared.key.Key.{Key}
use Rattle.authority_model.specs.Keys.{key_seen}
use Rattle.grant_store.specs.Listed.{LeadTo, numbers_at}
use Rattle.grant_store.proofs.store.GrantStore.live_row.Goals as goal

pub serving-requires : goal.serving-requires
serving-requires c =
    let lead = c.self.invariant.1.lead c.borrowed.result in
    let seen = subst (λ (k : Key). LeadTo c.self.inside.rows.items k (numbers_at c.self.inside.by_key.entries c.borrowed.result)) c.borrowed.ensures.key lead in
    record { numbers = subst (LeadTo c.self.inside.rows.items (key_seen c.args.key)) (sym c.numbers_of-numbers.ensures.numbers) seen }
