-- Bytes without a bad one are clean.
use Rattle.std.proofs.Common.{sym}
use Rattle.keyfile_text.proofs.Cleans.{clean_of_bad}
use Rattle.keyfile_text.proofs.reading.read.Goals as goal

pub read_lines-requires : goal.read_lines-requires
read_lines-requires c = clean_of_bad _ (sym c.in_default.ensures.first)
