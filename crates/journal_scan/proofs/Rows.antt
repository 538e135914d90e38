-- Rows of processes that a walk has compared.
use Rattle.std.proofs.Common.{◌≡◌, ℕ, ◌+◌, ◌<◌, zero, suc, Bool, true, false, List, [], ◌∷◌, ◌++◌, Option, Some, refl, ap, sym, ◌∙◌, take, drop, get_or, append_assoc, length, is_some, arith}
use Rattle.std.specs.Prelude.{◌==◌, ◌&&◌, if◌then◌else◌, find, not, slice_get}
use Rattle.std.proofs.lemmas.Bool.{eq-eqb}
use Rattle.std.proofs.lemmas.List.{drop_more, take_more}
use Rattle.std.proofs.lemmas.Option.{get_or_from_slice_get, slice_get_within}
use Rattle.authority_model.specs.declared.world.Process.{Process as ProcessRow}
use Rattle.journal_scan.specs.Sightings.{is_process, other_rows}

both : (b c : Bool) → b ≡ true → c ≡ true → (b && c) ≡ true
both true c p q = q
both false c p q = absurd (cc (p))

found_later : (b : Bool) (x : ProcessRow) (o : Option ProcessRow) → is_some o ≡ true → is_some (if b then Some x else o) ≡ true
found_later true x o found = refl
found_later false x o found = found

-- a row is found by its own process
pub row_found : (rows : List ProcessRow) (k : ℕ) (r : ProcessRow) → k < length rows → r ≡ get_or rows k r → is_some (find (λ p. (p.pid == r.pid) && (p.start == r.start)) rows) ≡ true
row_found [] k r within is = absurd (omega (arith, within))
row_found (x ∷ rows) zero r within is =
    let pid : (x.pid == r.pid) ≡ true = eq-eqb x.pid r.pid (ap (λ (p : ProcessRow). p.pid) (sym is)) in
    let start : (x.start == r.start) ≡ true = eq-eqb x.start r.start (ap (λ (p : ProcessRow). p.start) (sym is)) in
    ap (λ (b : Bool). is_some (if b then Some x else find (λ p. (p.pid == r.pid) && (p.start == r.start)) rows)) (both (x.pid == r.pid) (x.start == r.start) pid start)
row_found (x ∷ rows) (suc k) r within is = found_later ((x.pid == r.pid) && (x.start == r.start)) x (find (λ p. (p.pid == r.pid) && (p.start == r.start)) rows) (row_found rows k r (omega (arith, within)) is)

rows_left : (rows : List ProcessRow) (k : ℕ) (r : ProcessRow) → k < length rows → r ≡ get_or rows k r → drop k rows ≡ r ∷ drop (k + 1) rows
rows_left rows k r within is = drop_more rows k r within ∙ ap (λ (x : ProcessRow). x ∷ drop (k + 1) rows) (sym is)

-- one more row that is of another process, and stands in its place
pub rows_more : (pid start : ℕ) (rows others : List ProcessRow) (k at : ℕ) (r : ProcessRow) → k < length rows → r ≡ get_or rows k r
    → take at others ++ other_rows pid start (drop k rows) ≡ other_rows pid start rows → is_process pid start r ≡ false → slice_get others at ≡ Some r
    → take (at + 1) others ++ other_rows pid start (drop (k + 1) rows) ≡ other_rows pid start rows
rows_more pid start rows others k at r within is old other stands =
    let rest : List ProcessRow = other_rows pid start (drop (k + 1) rows) in
    let kept : other_rows pid start (drop k rows) ≡ r ∷ rest = ap (other_rows pid start) (rows_left rows k r within is) ∙ ap (λ (b : Bool). if not b then r ∷ rest else rest) other in
    let taken : take (at + 1) others ≡ take at others ++ r ∷ [] = take_more others at r (slice_get_within others at r stands) ∙ ap (λ (x : ProcessRow). take at others ++ x ∷ []) (get_or_from_slice_get others at r r stands) in
    ap (λ (l : List ProcessRow). l ++ rest) taken ∙ (append_assoc (take at others) (r ∷ []) rest ∙ (ap (λ (l : List ProcessRow). take at others ++ l) (sym kept) ∙ old))

-- one more row of the process itself
pub rows_skip : (pid start : ℕ) (rows others : List ProcessRow) (k at : ℕ) (r : ProcessRow) → k < length rows → r ≡ get_or rows k r
    → take at others ++ other_rows pid start (drop k rows) ≡ other_rows pid start rows → is_process pid start r ≡ true
    → take at others ++ other_rows pid start (drop (k + 1) rows) ≡ other_rows pid start rows
rows_skip pid start rows others k at r within is old this =
    let rest : List ProcessRow = other_rows pid start (drop (k + 1) rows) in
    let left : other_rows pid start (drop k rows) ≡ rest = ap (other_rows pid start) (rows_left rows k r within is) ∙ ap (λ (b : Bool). if not b then r ∷ rest else rest) this in
    ap (λ (l : List ProcessRow). take at others ++ l) (sym left) ∙ old
