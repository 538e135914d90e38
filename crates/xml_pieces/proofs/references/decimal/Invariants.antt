use Rattle.std.proofs.Common.{◌≡◌, ◌≤◌, length}
use Rattle.xml_pieces.specs.References.{number_on, decimal_digit}
use Rattle.xml_pieces.proofs.references.decimal.Given as goal

abbrev pub invariant-loop-b : goal.invariant-loop-b
invariant-loop-b l = record {
  so_far : number_on decimal_digit 10 l.n l.rest ≡ number_on decimal_digit 10 0 l.digits;
  within : l.n ≤ 1114112;
}

abbrev pub decreases-loop-b : goal.decreases-loop-b
decreases-loop-b l = length l.rest
