-- `unix-user:0` is a text.
use Rattle.std.proofs.Common.{refl, arith}
use Rattle.std.specs.Prelude.{codes}
use Rattle.pk_types.specs.Text.{IsText}
use Rattle.pk_types.proofs.Texts.{plain_text}

pub root_text : IsText (codes "unix-user:0")
root_text = plain_text (codes "unix-user:0") refl (omega arith)
