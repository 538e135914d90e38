-- One more name is in the set.
use Rattle.std.proofs.Common.{◌<◌, ◌||◌, length, take, ap, sym, ◌∙◌, arith}
use Rattle.std.specs.Prelude.{bytes_eq}
use Rattle.std.specs.List.{list_any}
use Rattle.std.proofs.lemmas.List.Folds.{list_any_more}
use Rattle.table_files.proofs.Keys.{has-insert}
use Rattle.table_files.proofs.names.names_of.Goals as goal

pub loop-row-preserved : goal.loop-row-preserved
loop-row-preserved g c =
    λ name.
    let less : c.loop-row.row-index < length c.args.rows.now = omega arith in
    ap (list_any (λ n. bytes_eq name n.now)) c.in_ok-insert.ensures.keys
    ∙ has-insert c.loop-row.names.keys c.name_bytes.result name
    ∙ ap (λ t. t || bytes_eq name c.name_bytes.result.now) (c.loop-row.invariant name)
    ∙ ap (λ k. list_any (λ row. bytes_eq name (g.T.Named.name row)) (take c.loop-row.row-index c.args.rows.now) || bytes_eq name k) c.name_bytes.ensures.name
    ∙ ap (λ r. list_any (λ row. bytes_eq name (g.T.Named.name row)) (take c.loop-row.row-index c.args.rows.now) || bytes_eq name (g.T.Named.name r)) c.row-item.is
    ∙ sym (list_any_more (λ row. bytes_eq name (g.T.Named.name row)) c.args.rows.now c.loop-row.row-index c.row-item.result less)
