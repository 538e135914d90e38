use Rattle.std.proofs.Common.{subst, sym, ◌∙◌}
use Rattle.pk_types.specs.Text.{IsText}
use Rattle.policy_load.proofs.Texts.{key_text}
use Rattle.policy_load.proofs.files.finding.admins_found.Goals as goal

pub skipped-requires : goal.skipped-requires
skipped-requires c = subst IsText (sym (c.as_bytes.ensures.value ∙ c.name.ensures.text)) (key_text _)
