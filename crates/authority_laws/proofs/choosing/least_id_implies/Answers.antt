use Rattle.authority_laws.proofs.LeastId.{before_less, less_before, implying_back, implying_forth, implied_back, implied_forth}
use Rattle.authority_laws.proofs.choosing.least_id_implies.Goals as goal

pub returns : goal.returns
returns c = record {
  by_bytes = λ a b. (before_less a b, less_before a b);
  found = λ past grants f t a b. (implying_back past grants f t a b, implying_forth past grants f t a b);
  decides = λ past grants f t a b value source. (implied_back past grants f t a b value source, implied_forth past grants f t a b value source);
}
