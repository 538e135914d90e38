-- One more item was entered, or it was refused.
use Rattle.std.proofs.Common.{sym, ◌∙◌, ap, ◌++◌, [], ◌∷◌, List, subst}
use Rattle.std.specs.Prelude.{map, reverse}
use Rattle.authority_model.specs.declared.journal.Item.{Item}
use Rattle.authority_model.specs.Given.{event_given, load_given, next}
use Rattle.scenario_run.specs.Text.{loads_of}
use Rattle.scenario_run.proofs.Counting.{counted_more, counted_same}
use Rattle.scenario_run.proofs.Newest.{pushed}
use Rattle.scenario_run.proofs.Recorded.{past_seen, recorded_legal, recorded_more, recounted, recorded_refused}
use Rattle.scenario_run.proofs.segmented.SegmentedJournal.enter_load.Goals as goal

pub invariant_of-self-in-Ok : goal.invariant_of-self-in-Ok
invariant_of-self-in-Ok g c = (
  c.self.invariant.0,
  (recorded_more (load_given 0 c.args.moment c.args.loaded) c.self.inside.segmented c.load.new.self _ _ c.newest.result.value _ _ _ _ c.self.inside.actions c.push.new.self c.self.inside.standing
      c.self.invariant.1 c.in-Ok.ensures.entered c.in-Ok.ensures.wrote c.in-Ok.ensures.faults
      (pushed (λ s. s.value) c.self.inside.items.items c.try_reserve.new.self.items c.push_reserved.new.self.items c.newest.result c.try_reserve.ensures.items c.push_reserved.ensures.items)
      c.newest.ensures.item (c.push.ensures.items ∙ ap (λ xs. xs ++ c.in_ok-actions.actions ∷ []) c.of.ensures.same ∙ counted_more c.self.inside.actions.items _ c.args.loaded _ c.self.invariant.1.counted c.in_ok-actions.ensures.count)).0,
)

pub invariant_of-self-in-Err : goal.invariant_of-self-in-Err
invariant_of-self-in-Err g c = (
  c.self.invariant.0,
  rw (c.standing_after-self-inside.ensures.standing, c.try_reserve.ensures.items)
      (recorded_refused g.F.Sink.held g.F.Sink.faults c.in-Err.refused c.self.inside.segmented c.load.new.self _ _ c.load.new.file c.of.new.self c.self.inside.standing (recounted _ _ c.self.inside.segmented c.self.inside.actions c.of.new.self _ c.self.inside.standing c.of.ensures.same c.self.invariant.1) c.in-Err.ensures.wrote c.in-Err.ensures.faults),
)

pub returns-in-Ok-clause-item : goal.returns-in-Ok-clause-item
returns-in-Ok-clause-item g c =
    (recorded_more (load_given 0 c.args.moment c.args.loaded) c.self.inside.segmented c.load.new.self _ _ c.newest.result.value _ _ _ _ c.self.inside.actions c.push.new.self c.self.inside.standing
    c.self.invariant.1 c.in-Ok.ensures.entered c.in-Ok.ensures.wrote c.in-Ok.ensures.faults
    (pushed (λ s. s.value) c.self.inside.items.items c.try_reserve.new.self.items c.push_reserved.new.self.items c.newest.result c.try_reserve.ensures.items c.push_reserved.ensures.items)
    c.newest.ensures.item (c.push.ensures.items ∙ ap (λ xs. xs ++ c.in_ok-actions.actions ∷ []) c.of.ensures.same ∙ counted_more c.self.inside.actions.items _ c.args.loaded _ c.self.invariant.1.counted c.in_ok-actions.ensures.count)).1
    ∙ ap (λ (past : List Item). next past (load_given 0 c.args.moment c.args.loaded) ∷ past) (past_seen _ _ c.self.view_is)

pub returns-in-Ok-clause-legal : goal.returns-in-Ok-clause-legal
returns-in-Ok-clause-legal g c =
    recorded_legal c.load.new.self _ _ c.push.new.self _ c.self.inside.standing
    (recorded_more (load_given 0 c.args.moment c.args.loaded) c.self.inside.segmented c.load.new.self _ _ c.newest.result.value _ _ _ _ c.self.inside.actions c.push.new.self c.self.inside.standing
    c.self.invariant.1 c.in-Ok.ensures.entered c.in-Ok.ensures.wrote c.in-Ok.ensures.faults
    (pushed (λ s. s.value) c.self.inside.items.items c.try_reserve.new.self.items c.push_reserved.new.self.items c.newest.result c.try_reserve.ensures.items c.push_reserved.ensures.items)
    c.newest.ensures.item (c.push.ensures.items ∙ ap (λ xs. xs ++ c.in_ok-actions.actions ∷ []) c.of.ensures.same ∙ counted_more c.self.inside.actions.items _ c.args.loaded _ c.self.invariant.1.counted c.in_ok-actions.ensures.count)).0
