-- One more item was entered, or it was refused.
use Rattle.std.proofs.Common.{sym, ◌∙◌, ap, ◌∷◌, List, subst}
use Rattle.std.specs.Prelude.{map, reverse}
use Rattle.authority_model.specs.declared.journal.Item.{Item}
use Rattle.authority_model.specs.Given.{event_given, load_given, next}
use Rattle.scenario_run.specs.Text.{loads_of}
use Rattle.scenario_run.proofs.Counting.{counted_more, counted_same}
use Rattle.scenario_run.proofs.Newest.{pushed}
use Rattle.scenario_run.proofs.Recorded.{past_seen, recorded_legal, recorded_more, recorded_refused}
use Rattle.scenario_run.proofs.segmented.SegmentedJournal.enter.Goals as goal

pub invariant_of-self-in-Ok : goal.invariant_of-self-in-Ok
invariant_of-self-in-Ok g c = (
  c.self.invariant.0,
  (recorded_more (event_given c.args.caller c.args.moment 0 c.args.event) c.self.inside.segmented c.step.new.self _ _ c.newest.result.value _ _ _ _ c.self.inside.actions c.self.inside.actions c.self.inside.standing
      c.self.invariant.1 c.in-Ok.ensures.entered c.in-Ok.ensures.wrote c.in-Ok.ensures.faults
      (pushed (λ s. s.value) c.self.inside.items.items c.try_reserve.new.self.items c.push_reserved.new.self.items c.newest.result c.try_reserve.ensures.items c.push_reserved.ensures.items)
      c.newest.ensures.item (counted_same c.self.inside.actions.items _ c.self.invariant.1.counted)).0,
)

pub invariant_of-self-in-Err : goal.invariant_of-self-in-Err
invariant_of-self-in-Err g c = (
  c.self.invariant.0,
  rw (c.standing_after-self-inside.ensures.standing, c.try_reserve.ensures.items)
      (recorded_refused g.F.Sink.held g.F.Sink.faults c.in-Err.refused c.self.inside.segmented c.step.new.self _ _ c.step.new.file c.self.inside.actions c.self.inside.standing c.self.invariant.1 c.in-Err.ensures.wrote c.in-Err.ensures.faults),
)

pub returns-in-Ok-clause-item : goal.returns-in-Ok-clause-item
returns-in-Ok-clause-item g c =
    (recorded_more (event_given c.args.caller c.args.moment 0 c.args.event) c.self.inside.segmented c.step.new.self _ _ c.newest.result.value _ _ _ _ c.self.inside.actions c.self.inside.actions c.self.inside.standing
    c.self.invariant.1 c.in-Ok.ensures.entered c.in-Ok.ensures.wrote c.in-Ok.ensures.faults
    (pushed (λ s. s.value) c.self.inside.items.items c.try_reserve.new.self.items c.push_reserved.new.self.items c.newest.result c.try_reserve.ensures.items c.push_reserved.ensures.items)
    c.newest.ensures.item (counted_same c.self.inside.actions.items _ c.self.invariant.1.counted)).1
    ∙ ap (λ (past : List Item). next past (event_given c.args.caller c.args.moment 0 c.args.event) ∷ past) (past_seen _ _ c.self.view_is)

pub returns-in-Ok-clause-legal : goal.returns-in-Ok-clause-legal
returns-in-Ok-clause-legal g c =
    recorded_legal c.step.new.self _ _ c.self.inside.actions _ c.self.inside.standing
    (recorded_more (event_given c.args.caller c.args.moment 0 c.args.event) c.self.inside.segmented c.step.new.self _ _ c.newest.result.value _ _ _ _ c.self.inside.actions c.self.inside.actions c.self.inside.standing
    c.self.invariant.1 c.in-Ok.ensures.entered c.in-Ok.ensures.wrote c.in-Ok.ensures.faults
    (pushed (λ s. s.value) c.self.inside.items.items c.try_reserve.new.self.items c.push_reserved.new.self.items c.newest.result c.try_reserve.ensures.items c.push_reserved.ensures.items)
    c.newest.ensures.item (counted_same c.self.inside.actions.items _ c.self.invariant.1.counted)).0
