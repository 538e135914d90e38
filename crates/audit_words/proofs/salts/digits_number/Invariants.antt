use Rattle.std.proofs.Common.{◌≡◌, ◌<◌, ◌≤◌, ◌-◌, ◌^◌, length}
use Rattle.audit_words.specs.Salts.{hex_after}
use Rattle.audit_words.proofs.salts.digits_number.Given as goal

abbrev pub invariant-loop-c : goal.invariant-loop-c
invariant-loop-c l = record {
  same : hex_after l.value l.rest ≡ hex_after 0 l.word;
  left : length l.rest ≤ 32;
  small : l.value < 16 ^ (32 - length l.rest);
}

abbrev pub decreases-loop-c : goal.decreases-loop-c
decreases-loop-c l = length l.rest
