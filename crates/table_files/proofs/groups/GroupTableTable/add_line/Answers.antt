-- The row is that of the line's fields.
use Rattle.std.proofs.Common.{◌≡◌, List, map, Result, Ok, ap, sym, subst, ◌∙◌}
use Rattle.pk_types.specs.Pieces.{pieces_of}
use Rattle.table_files.specs.declared.fault.TableFault.{TableFault}
use Rattle.table_files.specs.declared.kept.GroupTable.{GroupTable}
use Rattle.table_files.specs.Faults.{◌>>=◌, Reads}
use Rattle.table_files.specs.Groups.{Listing, listing_of_fields, with_listing}
use Rattle.table_files.specs.Kept.{listing_in}
use Rattle.table_files.proofs.Keys.{now_of}
use Rattle.table_files.proofs.groups.GroupTableTable.add_line.Goals as goal

pub returns-clause-rows : goal.returns-clause-rows
returns-clause-rows c =
    let rows = map listing_in c.args.self.rows.items in
    let P : Result (List Listing) TableFault → Type 0 = λ due. Reads (λ (table : GroupTable). map listing_in table.rows.items) c.with_row.result due in
    let row : listing_of_fields c.args.number (pieces_of 58 c.args.line.now) ≡ Ok (listing_in c.in_ok-row.row) =
    ap (listing_of_fields c.args.number) (sym (ap (map now_of) c.as_slice.ensures.value ∙ c.in_ok-fields.ensures.pieces)) ∙ c.in_ok-row.ensures.row in
    subst P (ap (λ r. r >>= λ row. with_listing row rows) (sym row)) c.with_row.ensures.rows
