use Rattle.std.proofs.Common.{◌≡◌, ◌≤◌, length}
use Rattle.keyfile_text.specs.Bytes.{trim_back, IsClean}
use Rattle.keyfile_text.proofs.slices.trim_end.Given as goal

abbrev pub invariant-loop-last : goal.invariant-loop-last
invariant-loop-last l = record {
  same : trim_back l.rest ≡ trim_back l.bytes;
  clean : IsClean l.bytes → IsClean l.rest;
  shorter : length l.rest ≤ length l.bytes;
}

abbrev pub decreases-loop-last : goal.decreases-loop-last
decreases-loop-last l = length l.rest
