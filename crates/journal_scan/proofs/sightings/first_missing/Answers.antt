use Rattle.std.proofs.Common.{◌≡◌, List, sym, subst, is_some, true}
use Rattle.std.specs.Prelude.{◌==◌, ◌&&◌, find}
use Rattle.authority_model.specs.declared.world.Process.{Process as ProcessRow}
use Rattle.journal_scan.proofs.Rows.{row_found}
use Rattle.journal_scan.proofs.sightings.first_missing.Goals as goal

pub returns-then-not-stands_at : goal.returns-then-not-stands_at
returns-then-not-stands_at c = record {
  row = (λ world same.
      let r = c.index-rows-at-then-not-stands_at.result in
      subst (λ (rows : List ProcessRow). is_some (find (λ p. (p.pid == r.pid) && (p.start == r.start)) rows) ≡ true) (sym same) (row_found c.args.rows.now c.loop-at.at r c.loop-at-test.true c.index-rows-at-then-not-stands_at.is));
}
