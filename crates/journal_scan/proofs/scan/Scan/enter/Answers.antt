use Rattle.std.proofs.Common.{refl, ◌∷◌, ap, ◌∙◌, arith}
use Rattle.authority_model.specs.declared.journal.Entry.{Entry}
use Rattle.authority_model.specs.Items.{count_to}
use Rattle.journal_scan.proofs.Counting.{nothing_more}
use Rattle.journal_scan.proofs.scan.Scan.enter.Goals as goal

pub returns : goal.returns
returns c = record {
  stands = (λ yes size lines past i same pairs old.
      let placed = c.if-not-enter.ensures.belongs refl size lines past i same (λ sights. c.is_sighting-sighting.ensures.sighting sights past i same old.loading pairs) old.callers in
      let lined = c.has_line-lined.ensures.line size lines (i ∷ past) placed.0 placed.2 in
      let due = c.if-not-enter-2.ensures.due refl lines past i same old.loading lined in
      let only = c.if-not-enter-3.ensures.only refl size past i same old.tallies old.collects in
      let below = placed.0 in
      let caller = ap (λ (e : Entry). e.caller) same in
      let rows = old.tallies.sized in
      record {
        callers = placed.2;
        loading = due.1;
        collects = only.1;
        tallies = c.enter-4.ensures.counted yes size past i same old.tallies;
        others = nothing_more size past i (omega (arith, below, caller)) (λ n beyond. ap (λ (e : Entry). count_to n e.outputs) same ∙ c.enter-4.ensures.within yes n (omega (arith, rows, beyond))) old.others;
        belong = (placed.1, old.belong);
        due = (due.0, old.due);
        empty = (only.0, old.empty);
      });
}
