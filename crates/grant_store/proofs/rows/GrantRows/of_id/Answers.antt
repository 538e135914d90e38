use Rattle.std.proofs.Common.{◌==◌, ap, ◌∙◌}
use Rattle.std.specs.Prelude.{find}
use Rattle.authority_model.specs.declared.verdict.GrantRow.{GrantRow}
use Rattle.key_index.proofs.Keyed.{found_numbered}
use Rattle.grant_store.specs.Rows.{Rows}
use Rattle.grant_store.proofs.rows.GrantRows.of_id.Goals as goal

pub returns : goal.returns
returns c = record { row = c.get.ensures.value ∙ found_numbered (λ (g : GrantRow). g.id) c.args.id c.self.inside.rows.entries c.self.invariant.0 ∙ ap (λ (x : Rows). find (λ (g : GrantRow). g.id == c.args.id) x.items) c.self.view_is }
