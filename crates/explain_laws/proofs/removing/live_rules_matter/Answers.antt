use Rattle.std.proofs.Common.{◌==◌, not}
use Rattle.authority_model.proofs.Cases.{both, find_has}
use Rattle.authority_model.specs.Rules.{implicit}
use Rattle.pkexplain_tool.specs.Cases.{cases_of, decides, is_from}
use Rattle.pkexplain_tool.proofs.Deadness.{from_rule}
use Rattle.explain_laws.proofs.Taken.{other_without}
use Rattle.explain_laws.proofs.removing.live_rules_matter.Goals as goal

pub returns : goal.returns
returns c = record {
  other = λ loaded place first is.
      let found = find_has (decides loaded place) (cases_of loaded) first is in
      let parts = both (not (first.uid == 0)) (is_from place (implicit loaded.policy loaded.world first.uid first.category first.action)) found.1 in
      let by = from_rule place (implicit loaded.policy loaded.world first.uid first.category first.action) parts.1 in
      other_without loaded.policy loaded.world place first.uid first.category first.action by.0 by.1;
}
