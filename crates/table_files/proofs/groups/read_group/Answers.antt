-- The groups are those of the rows.
use Rattle.std.proofs.Common.{Ok, map, ap, sym, ◌∙◌}
use Rattle.table_files.specs.Faults.{◌>>=◌}
use Rattle.table_files.specs.Tables.{table_of}
use Rattle.table_files.specs.Groups.{with_group_line}
use Rattle.table_files.specs.Kept.{listing_in}
use Rattle.table_files.proofs.GroupRows.{groups_of_rows}
use Rattle.table_files.proofs.groups.read_group.Goals as goal

pub returns-clause-groups : goal.returns-clause-groups
returns-clause-groups c =
    let rows = c.in_ok-table.table.rows.items in
    ap (λ start. table_of with_group_line c.args.bytes.now start >>= λ rows. Ok (map (λ r. r.group) rows)) (sym (ap (map listing_in) c.new.ensures.empty))
    ∙ ap (λ due. due >>= λ rows. Ok (map (λ r. r.group) rows)) c.in_ok-table.ensures.rows
    ∙ ap Ok (groups_of_rows rows ∙ ap (map (λ row. (listing_in row).group)) (sym c.deref.ensures.value) ∙ sym c.in_ok-groups.ensures.groups)
