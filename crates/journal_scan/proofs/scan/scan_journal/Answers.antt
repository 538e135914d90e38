use Rattle.std.proofs.Common.{◌≡◌, ℕ, [], refl, ap, ◌∙◌, subst, length, arith}
use Rattle.journal_scan.specs.declared.counts.TheConstants.{PLACES}
use Rattle.journal_scan.specs.Standing.{place_of, totals_in}
use Rattle.journal_scan.specs.Tables.{IsTable}
use Rattle.journal_scan.proofs.Lining.{each_below}
use Rattle.journal_scan.proofs.Tables.{table_sized}
use Rattle.journal_scan.proofs.scan.scan_journal.Goals as goal

pub mark_all-requires : goal.mark_all-requires
mark_all-requires c = record { empty = table_sized c.in_ok-callers.ensures.empty }

pub returns : goal.returns
returns c = record {
  found = (
      let lines = c.args.lines.now in
      let size = c.size_for-size.result in
      let places = c.in_ok-callers.callers.places.items in
      let sized = c.in_ok-callers.ensures.empty.sized in
      let few = c.if-not-mark_all.ensures.few refl in
      let at_most = c.size_for-size.ensures.few in
      let told = c.if-not-walk.ensures.stands refl size lines (record {
        callers = subst (λ (n : ℕ). IsTable n (λ c place. place ≡ place_of lines [] c) c.mark_all.new.self.places.items) sized (c.if-not-mark_all.ensures.marked refl);
        loading = refl;
        collects = c.in_ok-collects.ensures.empty;
        tallies = c.in_ok-tallies.ensures.empty;
        others = (λ n beyond. refl);
        belong = tt;
        due = tt;
        empty = tt;
      }) in
      let rows = told.tallies.sized in (
        record { differ = c.if-not-mark_all.ensures.differ refl; few = each_below (length places) PLACES lines (omega (arith, sized, at_most)) few; belong = told.belong; due = told.due; empty = told.empty },
        record { tallies = table_sized told.tallies; others = (λ n beyond. told.others n (omega (arith, rows, beyond))); totals = c.totals-totals.ensures.totals ∙ ap totals_in told.loading },
        each_below (length places) _ lines (omega (arith, sized, rows)) few,
      ));
}
