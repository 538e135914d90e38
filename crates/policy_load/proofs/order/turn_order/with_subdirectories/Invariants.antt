use Rattle.std.proofs.Common.{◌≡◌, ◌≤◌, drop, Some}
use Rattle.pk_outside.specs.Trees.{TreeTold}
use Rattle.policy_load.specs.Turns.{with_subdirectories}
use Rattle.policy_load.proofs.order.turn_order.with_subdirectories.Given as goal

-- the directories so far, and those to come
abbrev pub invariant-loop-name : goal.invariant-loop-name
invariant-loop-name g l = record {
  listing : (told : TreeTold) → g.T.Tree.told l.tree ≡ Some told
      → with_subdirectories told l.root l.base (drop l.name-index l.names) l.listing ≡ with_subdirectories told l.root l.base l.names l.initial.listing;
  same : g.T.Tree.told l.tree ≡ g.T.Tree.told l.initial.tree;
  later : g.T.Tree.faults l.initial.tree ≤ g.T.Tree.faults l.tree;
}
