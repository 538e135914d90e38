use Rattle.std.proofs.Common.{◌≡◌, ◌<◌, ◌≤◌, ◌∙◌, List, ap, length, slice_index_or, subst, sym, arith}
use Rattle.authority_model.specs.declared.journal.Entry.{Entry}
use Rattle.journal_audit.specs.Fault.{Finds}
use Rattle.journal_audit.specs.Steps.{StepsOver, finding_of, item_with, loads_behind}
use Rattle.journal_audit.proofs.Going.{reached_end, reached_fault, reached_next}
use Rattle.journal_audit.proofs.auditing.audit.Goals as goal

pub returns-in-Some : goal.returns-in-Some
returns-in-Some c = record {
  finds =
      let same = ap length c.as_slice-entries.ensures.items in
      let test = c.loop-place-test.true in
      let within : c.loop-place.place < length c.args.history.now.entries = omega (arith, same, test) in
      reached_fault c.args.history.now c.loop-place.place c.loop-place.audit c.step.new.self c.index-entries-place.result c.in-Some.clause c.loop-place.invariant within
      (subst (λ (es : List Entry). c.index-entries-place.result ≡ slice_index_or es c.loop-place.place c.index-entries-place.result) c.as_slice-entries.ensures.items c.index-entries-place.is)
      (subst (StepsOver c.loop-place.invariant.past (item_with c.index-entries-place.result c.loop-place.audit.left.now) (loads_behind c.index-entries-place.result.event c.loop-place.audit.left.now) c.step.new.self) c.in-Some.is
      (c.in_ok-clause.ensures.step c.loop-place.invariant.past c.loop-place.invariant.at));
}

pub loop-place-preserved : goal.loop-place-preserved
loop-place-preserved c =
    let same = ap length c.as_slice-entries.ensures.items in
    let test = c.loop-place-test.true in
    let within : c.loop-place.place < length c.args.history.now.entries = omega (arith, same, test) in
    reached_next c.args.history.now c.loop-place.place c.loop-place.audit c.step.new.self c.index-entries-place.result c.loop-place.invariant within
    (subst (λ (es : List Entry). c.index-entries-place.result ≡ slice_index_or es c.loop-place.place c.index-entries-place.result) c.as_slice-entries.ensures.items c.index-entries-place.is)
    (subst (StepsOver c.loop-place.invariant.past (item_with c.index-entries-place.result c.loop-place.audit.left.now) (loads_behind c.index-entries-place.result.event c.loop-place.audit.left.now) c.step.new.self) c.in_default.is
    (c.in_ok-clause.ensures.step c.loop-place.invariant.past c.loop-place.invariant.at))

pub returns : goal.returns
returns c = record {
  finds =
      let same = ap length c.as_slice-entries.ensures.items in
      let test = c.loop-place-test.false in
      let end : length c.args.history.now.entries ≤ c.loop-place.place = omega (arith, same, test) in
      subst (Finds c.args.history.now) (ap (finding_of c.loop-place.audit) (sym same) ∙ sym c.end.ensures.finding) (reached_end c.args.history.now c.loop-place.place c.loop-place.audit c.loop-place.invariant end);
}
