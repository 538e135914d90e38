-- An escape stands for an ASCII byte that is not 0.
use Rattle.keyfile_text.proofs.Decodes.{escape_takes}
use Rattle.keyfile_text.proofs.listing.take_escape.Goals as goal

pub returns : goal.returns
returns c = record {
  takes = escape_takes _ _ _ _ _ _ c.in-Some.ensures.cases.0 c.in-Some-unescaped.ensures.byte c.in_ok-push-3.ensures.items;
}
