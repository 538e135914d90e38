use Rattle.authority_messages.proofs.Plain.{plain_text}
use Rattle.authority_messages.proofs.texts.plain.Goals as goal

pub of_known-requires : goal.of_known-requires
of_known-requires c = record { text = rw c.as_bytes.ensures.value (plain_text c.args.text.now c.requires.plain) }
