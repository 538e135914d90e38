use Rattle.std.proofs.Common.{◌+◌, ◌≤◌, length}
use Rattle.keyfile_text.specs.Bytes.{IsClean}
use Rattle.keyfile_text.proofs.Decodes.{ItemsSo}
use Rattle.keyfile_text.proofs.listing.items.Given as goal

abbrev pub invariant-loop-plain : goal.invariant-loop-plain
invariant-loop-plain l = record {
  so : ItemsSo l.items l.item.items l.rest l.value;
  item_clean : IsClean l.item.items;
  clean : IsClean l.rest;
  short : length l.item.items + length l.rest ≤ 65535;
}

abbrev pub decreases-loop-plain : goal.decreases-loop-plain
decreases-loop-plain l = length l.rest
