use Rattle.std.proofs.Common.{◌≡◌, ◌≤◌, length}
use Rattle.keyfile_text.specs.Bytes.{trim_front, IsClean}
use Rattle.keyfile_text.proofs.slices.trim_start.Given as goal

abbrev pub invariant-loop-first : goal.invariant-loop-first
invariant-loop-first l = record {
  same : trim_front l.rest ≡ trim_front l.bytes;
  clean : IsClean l.bytes → IsClean l.rest;
  shorter : length l.rest ≤ length l.bytes;
}

abbrev pub decreases-loop-first : goal.decreases-loop-first
decreases-loop-first l = length l.rest
