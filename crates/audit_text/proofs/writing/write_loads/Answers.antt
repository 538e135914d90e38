use Rattle.std.proofs.Common.{List, subst, sym}
use Rattle.std.specs.List.{flat_map}
use Rattle.authority_model.specs.declared.load.Loaded.{Loaded}
use Rattle.audit_text.specs.Writes.{Broke, Grew, MayWrite, desk, load_lines}
use Rattle.audit_text.proofs.Written.{nothing, broke_on, item_may, item_grew, item_broke, all_grew}
use Rattle.audit_text.proofs.writing.write_loads.Goals as goal

pub loop-load-init : goal.loop-load-init
loop-load-init g c = nothing _ _ _ c.requires.may.opened

pub write_load-requires-clause-may : goal.write_load-requires-clause-may
write_load-requires-clause-may g c κs within =
    item_may g.O.Sink.allowed g.O.Sink.held g.O.Sink.faults (desk c.args.buffer.now c.args.output.now) _ load_lines _ c.loop-load.load-index
    c.load-item.result c.loop-load-test.true c.load-item.is c.loop-load.invariant
    (subst (λ (vs : List Loaded). MayWrite g.O.Sink.allowed g.O.Sink.held (desk c.args.buffer.now c.args.output.now) (flat_map load_lines vs))
    (sym c.as_slice-items.ensures.items) c.requires.may)

pub loop-load-preserved : goal.loop-load-preserved
loop-load-preserved g c =
    item_grew _ _ _ _ _ load_lines _ c.loop-load.load-index c.load-item.result c.loop-load-test.true c.load-item.is
    c.loop-load.invariant c.in_ok-write_load.ensures.writes

pub returns-in_err-write_load : goal.returns-in_err-write_load
returns-in_err-write_load g c = record {
  writes = broke_on _ _ _ _ c.from_residual.result _ _ c.from_residual.ensures.1
      (subst (λ (vs : List Loaded). Broke g.O.Sink.held g.O.Sink.faults (desk c.args.buffer.now c.args.output.now) (desk c.write_load.new.buffer c.write_load.new.output)
      (flat_map load_lines vs))
      c.as_slice-items.ensures.items
      (item_broke _ _ _ _ _ load_lines _ c.loop-load.load-index c.load-item.result c.loop-load-test.true c.load-item.is
      c.loop-load.invariant c.in_err-write_load.ensures.writes));
}

pub returns : goal.returns
returns g c = record {
  writes = subst (λ (vs : List Loaded). Grew g.O.Sink.held g.O.Sink.faults (desk c.args.buffer.now c.args.output.now) (desk c.loop-load.buffer c.loop-load.output)
      (flat_map load_lines vs))
      c.as_slice-items.ensures.items
      (all_grew _ _ _ _ load_lines _ c.loop-load.load-index c.loop-load-test.false c.loop-load.invariant);
}
