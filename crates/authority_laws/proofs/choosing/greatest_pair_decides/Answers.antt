use Rattle.authority_model.specs.Rules.{places}
use Rattle.authority_laws.proofs.GreatestPair.{greatest_none, greatest_some, greatest_is, none_greatest}
use Rattle.authority_laws.proofs.choosing.greatest_pair_decides.Goals as goal

pub returns : goal.returns
returns c = record {
  found = λ policy world uid category action y rule. (greatest_some policy action category (places world uid) y rule, greatest_is policy action category (places world uid) y rule);
  none = λ policy world uid category action. (greatest_none policy action category (places world uid), none_greatest policy action category (places world uid));
}
