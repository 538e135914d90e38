use Rattle.std.proofs.Common.{◌≡◌, ◌+◌, ◌≤◌, ◌++◌, map, Some}
use Rattle.pk_outside.specs.Trees.{TreeTold}
use Rattle.policy_load.specs.Joins.{byte_count, file_count}
use Rattle.policy_load.specs.Kept.{turn_file}
use Rattle.policy_load.specs.declared.files.reading.TheConstants.{MAX_POLICY_BYTES}
use Rattle.policy_load.proofs.files.reading.read_files.Given as goal

-- the bytes and files so far, and those to come
abbrev pub invariant-loop-turn : goal.invariant-loop-turn
invariant-loop-turn g l = record {
  bytes : (told : TreeTold) → g.T.Tree.told l.tree ≡ Some told
      → l.total + byte_count told l.turn-iterator.rest.items ≡ byte_count told l.initial.turn-iterator.rest.items;
  files : (told : TreeTold) → g.T.Tree.told l.tree ≡ Some told → l.total ≤ MAX_POLICY_BYTES
      → l.files.items ++ map (turn_file told) l.turn-iterator.rest.items ≡ map (turn_file told) l.initial.turn-iterator.rest.items;
  few : file_count l.initial.turn-iterator.rest.items ≤ 4096;
  same : g.T.Tree.told l.tree ≡ g.T.Tree.told l.initial.tree;
  later : g.T.Tree.faults l.initial.tree ≤ g.T.Tree.faults l.tree;
}
