-- One more row.
use Rattle.std.proofs.Common.{◌≡◌, ℕ, ◌<◌, nat_lt, Bool, true, false, cond, List, [], ◌∷◌, ◌++◌, length, Ok, Err, ap, sym, ◌∙◌, arith}
use Rattle.std.proofs.lemmas.Bool.Decides.{nat_tests}
use Rattle.table_files.specs.declared.fault.TableFault.TheVariants.{TooMany}
use Rattle.table_files.specs.Tables.{with_row}

-- the second of two values, where the test fails
pub otherwise : {A : Type 0} (test : Bool) (first second value : A) → test ≡ false → second ≡ value → cond test first second ≡ value
otherwise test first second value fails is = ap (λ t. cond t first second) fails ∙ is

less_than : (n : ℕ) → n < 65536 → nat_lt n 65536 ≡ true
less_than n less = grind (arith, nat_tests)

-- a row that has room
pub row_added : {R : Type 0} (row : R) (rows more : List R) (len : ℕ) → len ≡ length rows → len < 65536 → more ≡ rows ++ row ∷ [] → with_row row rows ≡ Ok more
row_added row rows more len e less is =
    ap (λ t. cond t (Ok (rows ++ row ∷ [])) (Err (TooMany 65537))) (ap (λ n. nat_lt n 65536) (sym e) ∙ less_than len less) ∙ ap Ok (sym is)
