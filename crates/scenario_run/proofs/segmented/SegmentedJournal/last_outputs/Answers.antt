-- The last entry of the segment is the newest of all.
use Rattle.std.proofs.Common.{refl, sym, ◌∙◌, ap}
use Rattle.journal_segments.specs.Segments.{last_of}
use Rattle.scenario_run.specs.Text.{last_outputs}
use Rattle.scenario_run.proofs.Newest.{newest_outputs}
use Rattle.scenario_run.proofs.Recorded.{past_seen}
use Rattle.scenario_run.proofs.segmented.SegmentedJournal.last_outputs.Goals as goal

pub returns : goal.returns
returns g c = let r = c.self.invariant.1 in record {
  outputs = c.as_slice.ensures.items
      ∙ newest_outputs r.done c.self.inside.segmented.items _ (last_of c.self.inside.segmented.items) c.in_ok-entry.entry.now refl (sym c.in_ok-entry.ensures.last) r.whole
      ∙ ap last_outputs (past_seen _ _ c.self.view_is);
}
