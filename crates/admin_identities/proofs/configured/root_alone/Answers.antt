use Rattle.admin_identities.proofs.RootText.{root_text}
use Rattle.admin_identities.proofs.configured.root_alone.Goals as goal

pub of_known-requires : goal.of_known-requires
of_known-requires c = record { text = root_text }
