use Rattle.std.proofs.Common.{subst, sym, ◌∙◌}
use Rattle.pk_types.specs.Text.{IsText}
use Rattle.policy_load.proofs.Texts.{xml_text}
use Rattle.policy_load.proofs.files.finding.actions_found.Goals as goal

pub skipped-requires : goal.skipped-requires
skipped-requires c = subst IsText (sym (c.as_bytes.ensures.value ∙ c.name.ensures.text)) (xml_text _)
