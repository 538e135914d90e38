-- The row is added where neither key stands and there is room.
use Rattle.std.proofs.Common.{Ok, map, sym, ◌∙◌}
use Rattle.std.proofs.lemmas.List.{length-map}
use Rattle.table_files.specs.Tables.{with_row as with_row_of}
use Rattle.table_files.specs.Groups.{group_stands}
use Rattle.table_files.specs.Kept.{listing_in}
use Rattle.table_files.proofs.Rows.{otherwise, row_added}
use Rattle.table_files.proofs.kept.GroupTable.with_row.Goals as goal

pub returns : goal.returns
returns c =
    let rows = map listing_in c.args.self.rows.items in
    record {
      rows = otherwise (group_stands (listing_in c.args.row.now).group rows) (Ok rows) (with_row_of (listing_in c.args.row.now) rows) (Ok (map listing_in c.in_ok-table.table.rows.items))
          (sym c.stands.ensures.stands ∙ c.if-stands.false)
          (row_added (listing_in c.args.row.now) rows (map listing_in c.in_ok-table.table.rows.items) c.len.result (c.len.ensures ∙ c.args.self.rows.ok.0 ∙ sym (length-map c.args.self.rows.items listing_in)) c.if-len-ge-MAX_ROWS.false c.in_ok-table.ensures.rows);
    }
