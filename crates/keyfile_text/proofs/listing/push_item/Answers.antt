-- What is left of a clean item is a text.
use Rattle.std.proofs.Common.{arith}
use Rattle.keyfile_text.proofs.Cleans.{text_of_clean}
use Rattle.keyfile_text.proofs.listing.push_item.Goals as goal

pub of_known-requires : goal.of_known-requires
of_known-requires c = record { text = text_of_clean _ (c.trimmed-item.ensures.clean c.requires.clean) (omega (arith, c.trimmed-item.ensures.shorter, c.requires.short)) }
