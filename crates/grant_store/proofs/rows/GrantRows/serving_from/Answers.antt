use Rattle.std.proofs.Common.{ℕ, Bool, List, ap, ◌∙◌}
use Rattle.std.specs.Prelude.{find, drop}
use Rattle.std.specs.Map.{values_of}
use Rattle.authority_model.specs.declared.verdict.GrantRow.{GrantRow}
use Rattle.authority_model.specs.Keys.{key_seen}
use Rattle.authority_model.specs.Deciding.{serves}
use Rattle.grant_store.specs.Rows.{Rows}
use Rattle.grant_store.proofs.Turns.{values_behind}
use Rattle.grant_store.proofs.rows.GrantRows.serving_from.Goals as goal

pub returns : goal.returns
returns c =
    let test : GrantRow → Bool = serves (key_seen c.args.key) c.args.action.now c.args.moment in
    record { row = c.serving_in.ensures.row ∙ ap (λ (xs : List (ℕ × GrantRow)). find test (values_of xs)) c.in-Some.ensures.entries ∙ ap (find test) (values_behind c.self.inside.rows.entries c.args.first) ∙ ap (λ (x : Rows). find test (drop c.args.first x.items)) c.self.view_is }
