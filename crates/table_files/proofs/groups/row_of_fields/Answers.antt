-- Four fields, of which three count.
use Rattle.std.proofs.Common.{◌≡◌, ℕ, ◌<◌, ◌≤◌, List, [], ◌∷◌, length, map, get_or, Bor, Result, refl, subst, arith}
use Rattle.table_files.specs.declared.fault.TableFault.{TableFault}
use Rattle.table_files.specs.Faults.{Reads}
use Rattle.table_files.specs.Groups.{Listing, listing_of_row, listing_of_fields}
use Rattle.table_files.specs.Kept.{listing_in}
use Rattle.table_files.proofs.Keys.{now_of}
use Rattle.table_files.proofs.groups.row_of_fields.Goals as goal

four : (line : ℕ) (fields : List (Bor (List ℕ))) (d : Bor (List ℕ)) → 4 ≤ length fields → length fields < 5
    → listing_of_row line (get_or fields 0 d).now (get_or fields 2 d).now (get_or fields 3 d).now ≡ listing_of_fields line (map now_of fields)
four line (a ∷ b ∷ p ∷ q ∷ []) d low high = refl
four line other d low high = absurd (omega arith)

pub returns-in-len4 : goal.returns-in-len4
returns-in-len4 c = record {
  row =
      let P : Result Listing TableFault → Type 0 = λ due. Reads listing_in c.row.result due in
      subst P (four c.args.line c.args.fields.now (record { ref_ptr = (0, 0); now = [] }) c.in-len4.len_at_least c.in-len4.len_below) c.row.ensures.row;
}
