use Rattle.std.proofs.Common.{refl, arith}
use Rattle.std.specs.Prelude.{codes}
use Rattle.pk_types.proofs.Texts.{plain_text}
use Rattle.policy_load.proofs.files.joining.Joining.with_action.Goals as goal

pub report-requires : goal.report-requires
report-requires c = plain_text (codes "Again") refl (omega arith)
