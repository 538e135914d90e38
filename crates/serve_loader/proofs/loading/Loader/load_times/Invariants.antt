use Rattle.std.proofs.Common.{◌≡◌, ◌≤◌, ℕ, Bool}
use Rattle.history_lock.specs.Known.{Known}
use Rattle.authority_model.specs.declared.journal.Item.{Item}
use Rattle.serve_loader.specs.Loads.{IsLoad, LoadsTo}
use Rattle.serve_loader.proofs.loading.Loader.load_times.Given as goal

abbrev pub invariant-loop-left : goal.invariant-loop-left
invariant-loop-left g l = record {
  loads : (v : Known Item) (from : ℕ) (stop : Bool) → from ≤ g.F.Tree.faults l.fn.tree
      → LoadsTo (IsLoad (g.F.Tree.told l.fn.tree) l.self.root.now from (g.F.Tree.faults l.fn.tree)) v l.fn.pass (record { owed = l.count; stop = stop })
      → LoadsTo (IsLoad (g.F.Tree.told l.fn.tree) l.self.root.now from (g.F.Tree.faults l.tree)) v l.pass (record { owed = l.left; stop = stop });
  same : g.F.Tree.told l.tree ≡ g.F.Tree.told l.fn.tree;
  later : g.F.Tree.faults l.fn.tree ≤ g.F.Tree.faults l.tree;
  number : l.pass.number ≡ l.fn.pass.number;
}

abbrev pub decreases-loop-left : goal.decreases-loop-left
decreases-loop-left g l = l.left
