use Rattle.std.proofs.Common.{refl, lit≤, codes}
use Rattle.pk_types.proofs.Texts.{plain_text}
use Rattle.scenario_run.proofs.annotations.imply_key.Goals as goal

pub of_known-requires : goal.of_known-requires
of_known-requires c = record { text = rw c.as_slice.ensures (plain_text (codes "org.freedesktop.policykit.imply") refl (lit≤ tt)) }

pub returns : goal.returns
returns c = record { key = rw c.as_slice.ensures at c.of_known.ensures.text }
