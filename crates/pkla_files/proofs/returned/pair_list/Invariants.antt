use Rattle.std.proofs.Common.{◌≡◌, ◌++◌, drop}
use Rattle.std.specs.List.{list_any, filter_map}
use Rattle.pkla_files.specs.Returned.{is_no_pair, pair_of}
use Rattle.pkla_files.proofs.returned.pair_list.Given as goal

-- the pairs so far, and those to come
abbrev pub invariant-loop-item : goal.invariant-loop-item
invariant-loop-item l = record {
  pairs : l.pairs ++ filter_map pair_of (drop l.item-index l.items) ≡ filter_map pair_of l.items;
  fault : list_any is_no_pair (drop l.item-index l.items) ≡ list_any is_no_pair l.items;
}
