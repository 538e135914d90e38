use Rattle.std.proofs.Common.{◌≡◌, ◌-◌, ◌≤◌, length}
use Rattle.keyfile_text.specs.Bytes.{IsClean}
use Rattle.keyfile_text.specs.Lines.{raw_lines}
use Rattle.keyfile_text.specs.KeyFiles.{add_lines, no_groups}
use Rattle.keyfile_text.specs.Maps.{grouped, GroupsAreTexts}
use Rattle.keyfile_text.proofs.reading.read_lines.Given as goal

abbrev pub invariant-loop-line : goal.invariant-loop-line
invariant-loop-line l = record {
  so_far : add_lines (length l.bytes - length l.rest) (raw_lines l.rest) (grouped l.grouping) ≡ add_lines 0 (raw_lines l.bytes) no_groups;
  clean : IsClean l.rest;
  texts : GroupsAreTexts (grouped l.grouping).groups;
  within : length l.rest ≤ length l.bytes;
}

abbrev pub decreases-loop-line : goal.decreases-loop-line
decreases-loop-line l = length l.rest
