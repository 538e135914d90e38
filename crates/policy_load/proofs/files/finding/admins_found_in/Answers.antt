use Rattle.std.proofs.Common.{refl, arith}
use Rattle.std.specs.Prelude.{codes}
use Rattle.pk_types.proofs.Texts.{plain_text}
use Rattle.policy_load.proofs.files.finding.admins_found_in.Goals as goal

pub skipped-requires : goal.skipped-requires
skipped-requires c = plain_text (codes "BadIdentity") refl (omega arith)
