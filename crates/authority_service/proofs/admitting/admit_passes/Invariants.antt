-- So many passes were made.
use Rattle.std.proofs.Common.{◌≡◌, ◌≤◌, vec_len}
use Rattle.std.specs.Vec.{vec_capacity}
use mathlib.Core.List.{IsPrefix}
use Rattle.authority_service.specs.Beginning.{HasBegun}
use Rattle.authority_service.proofs.admitting.admit_passes.Given as goal

abbrev pub invariant-loop-index : goal.invariant-loop-index
invariant-loop-index g l = record {
  made : vec_len l.passes ≡ l._index;
  room : l.count ≤ vec_capacity l.passes;
  begun : HasBegun l.zero;
  grows : IsPrefix l.fn.zero.history l.zero.history;
}
