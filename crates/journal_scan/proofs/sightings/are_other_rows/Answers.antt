use Rattle.std.proofs.Common.{◌≡◌, ◌++◌, ◌+◌, ℕ, refl, sym, ◌∙◌, subst, take, drop}
use Rattle.journal_scan.specs.Sightings.{other_rows}
use Rattle.journal_scan.proofs.Rows.{rows_more, rows_skip}
use Rattle.journal_scan.proofs.sightings.are_other_rows.Goals.{then-not-is_process+else-not-stands_at, else-not-is_process}
use Rattle.journal_scan.proofs.sightings.are_other_rows.Goals as goal

pub loop-row-preserved : goal.loop-row-preserved
loop-row-preserved c =
    let pid = c.args.pid in
    let start = c.args.start in
    let rows = c.args.rows.now in
    let others = c.args.others.now in
    let k = c.loop-row.row-index in
    let at = c.loop-row.at in
    let r = c.row-item.result in
    let holds : ℕ → Type 0 = λ (n : ℕ). take n others ++ other_rows pid start (drop (k + 1) rows) ≡ other_rows pid start rows in
    elim c.if-not-is_process.branch [
      | then-not-is_process+else-not-stands_at w ↦ subst holds (sym w.at-is) (rows_more pid start rows others k at r c.loop-row-test.true c.row-item.is c.loop-row.invariant (sym c.is_process.ensures.is ∙ w.if-not-is_process.true) (w.if-not-stands_at.ensures.stands refl))
      | else-not-is_process w ↦ subst holds (sym w.at-is) (rows_skip pid start rows others k at r c.loop-row-test.true c.row-item.is c.loop-row.invariant (sym c.is_process.ensures.is ∙ w.if-not-is_process.false))
    ]
