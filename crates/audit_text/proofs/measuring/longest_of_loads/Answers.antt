use Rattle.std.proofs.Common.{arith, subst, All, List}
use Rattle.std.specs.List.{flat_map}
use Rattle.authority_model.specs.declared.load.Loaded.{Loaded}
use Rattle.audit_text.specs.Writes.{IsWithin, load_lines}
use Rattle.audit_text.proofs.Measures.{more_within, all_within}
use Rattle.audit_text.proofs.measuring.longest_of_loads.Goals as goal

pub loop-load-preserved : goal.loop-load-preserved
loop-load-preserved c = record {
  within = more_within load_lines c.loop-load.most c.longest_of_load-most.result _ c.loop-load.load-index c.load-item.result
      c.loop-load-test.true c.load-item.is c.longest_of_load-most.ensures.more c.loop-load.invariant.within c.longest_of_load-most.ensures.within;
  more = omega arith;
}

pub returns : goal.returns
returns c = record {
  within = subst (λ (vs : List Loaded). All (IsWithin c.loop-load.most) (flat_map load_lines vs)) c.as_slice-items.ensures.items
      (all_within load_lines c.loop-load.most _ c.loop-load.load-index c.loop-load-test.false c.loop-load.invariant.within);
  more = c.loop-load.invariant.more;
}
