use Rattle.std.proofs.Common.{take}
use Rattle.keyfile_text.specs.Runs.{IsPlain}
use Rattle.keyfile_text.proofs.listing.next_special.Given as goal

abbrev pub invariant-loop-i : goal.invariant-loop-i
invariant-loop-i l = IsPlain (take l.i l.bytes)
