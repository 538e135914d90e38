use Rattle.std.proofs.Common.{rules}
use Rattle.authority_service.proofs.running.Ran.found.Goals as goal

pub returns-clause-sound : goal.returns-clause-sound
returns-clause-sound c = record {
  orderly = search rules;
  loads = search rules;
  passes = search rules;
  looks = search rules;
  unlisted = search rules;
}
