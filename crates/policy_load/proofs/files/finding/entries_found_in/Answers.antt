use Rattle.std.proofs.Common.{subst, sym, ◌∙◌}
use Rattle.pk_types.specs.Text.{IsText}
use Rattle.policy_load.proofs.Texts.{pkla_text}
use Rattle.policy_load.proofs.files.finding.entries_found_in.Goals as goal

pub skipped-requires : goal.skipped-requires
skipped-requires c = subst IsText (sym (c.as_bytes.ensures.value ∙ c.name.ensures.name)) (pkla_text _)
