use Rattle.std.proofs.Common.{◌-◌, ap}
use Rattle.authority_core.proofs.Held.{set_last}
use Rattle.authority_core.proofs.entering.fill.Goals as goal

pub returns : goal.returns
returns c = record {
  entered = λ before e was. record {
    entries = set_last before c.args.entries.now c.set.new.self e c.args.entry _ was (ap (λ n. n - 1) c.len.ensures.length) c.set.ensures.item;
    cost_is = c.cost_of_entry-cost.ensures.cost;
    capped = c.cost_of_entry-cost.ensures.capped;
  };
}
