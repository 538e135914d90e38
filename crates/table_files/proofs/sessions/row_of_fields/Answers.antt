-- Another number of fields.
use Rattle.std.proofs.Common.{◌≡◌, ℕ, List, [], ◌∷◌, length, map, Bor, Err, ◌≢◌, refl, arith, rules}
use Rattle.std.proofs.lemmas.Grind.{common_steps}
use Rattle.table_files.specs.declared.fault.TableFault.TheVariants.{Fields}
use Rattle.table_files.specs.Sessions.{session_of_fields}
use Rattle.table_files.proofs.Keys.{now_of}
use Rattle.table_files.proofs.sessions.row_of_fields.Goals as goal

not_four : (line : ℕ) (fields : List (Bor (List ℕ))) → length fields ≢ 4 → session_of_fields line (map now_of fields) ≡ Err (Fields line)
not_four line [] other = refl
not_four line (a ∷ []) other = refl
not_four line (a ∷ b ∷ []) other = refl
not_four line (a ∷ b ∷ c ∷ []) other = refl
not_four line (a ∷ b ∷ c ∷ d ∷ []) other = absurd (other (omega arith))
not_four line (a ∷ b ∷ c ∷ d ∷ e ∷ fields) other = refl

pub returns-in_default-clause-row : goal.returns-in_default-clause-row
returns-in_default-clause-row c = first_of (grind (arith, not_four), search (rules, not_four), grind (arith, common_steps, not_four))
