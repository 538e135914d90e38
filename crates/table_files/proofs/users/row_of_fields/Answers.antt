-- Seven fields, of which three count.
use Rattle.std.proofs.Common.{◌≡◌, ℕ, ◌<◌, ◌≤◌, List, [], ◌∷◌, length, map, get_or, Bor, Result, refl, subst, arith}
use Rattle.authority_model.specs.declared.world.User.{User}
use Rattle.table_files.specs.declared.fault.TableFault.{TableFault}
use Rattle.table_files.specs.Faults.{Reads}
use Rattle.table_files.specs.Users.{user_of_row, user_of_fields}
use Rattle.table_files.specs.Kept.{user_in}
use Rattle.table_files.proofs.Keys.{now_of}
use Rattle.table_files.proofs.users.row_of_fields.Goals as goal

seven : (line : ℕ) (fields : List (Bor (List ℕ))) (d : Bor (List ℕ)) → 7 ≤ length fields → length fields < 8
    → user_of_row line (get_or fields 0 d).now (get_or fields 2 d).now (get_or fields 3 d).now ≡ user_of_fields line (map now_of fields)
seven line (a ∷ b ∷ p ∷ q ∷ r ∷ s ∷ t ∷ []) d low high = refl
seven line other d low high = absurd (omega arith)

pub returns-in-len7-clause-row : goal.returns-in-len7-clause-row
returns-in-len7-clause-row c =
    let P : Result User TableFault → Type 0 = λ due. Reads user_in c.row.result due in
    subst P (seven c.args.line c.args.fields.now (record { ref_ptr = (0, 0); now = [] }) c.in-len7.len_at_least c.in-len7.len_below) c.row.ensures.row
