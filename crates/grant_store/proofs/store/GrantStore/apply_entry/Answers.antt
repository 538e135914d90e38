use Rattle.std.proofs.Common.{◌≡◌, ◌<◌, Some, sym, ap, ◌∙◌, subst}
use Rattle.std.specs.Option.{option_map}
use Rattle.authority_model.specs.declared.verdict.GrantRow.{GrantRow}
use Rattle.authority_model.specs.Lists.{Each}
use Rattle.entry_changes.specs.declared.change.GrantChange.TheVariants.{Add}
use Rattle.grant_store.specs.Store.{Grants, change_of}
use Rattle.grant_store.proofs.store.GrantStore.apply_entry.Goals as goal

pub carry-requires-clause-fresh : goal.carry-requires-clause-fresh
carry-requires-clause-fresh c g is =
    subst (λ (x : Grants). (g : GrantRow) → x.staged ≡ Some (Add g) → Each (λ (r : GrantRow). r.id < g.id) x.items) (sym c.self.view_is) c.requires.fresh g (ap (option_map change_of) (sym c.in-Some.ensures.value) ∙ ap Some is)
