use Rattle.std.proofs.Common.{refl, arith}
use Rattle.std.specs.Prelude.{codes}
use Rattle.pk_types.proofs.Texts.{plain_text}
use Rattle.policy_load.proofs.files.finding.find.Goals as goal

pub skipped-requires : goal.skipped-requires
skipped-requires c = plain_text (codes "Name") refl (omega arith)
