use Rattle.std.proofs.Common.{◌∙◌, ◌==◌, ◌&&◌, ap}
use Rattle.std.specs.Prelude.{unwrap_or}
use Rattle.peer_book.specs.Counts.{count_found}
use Rattle.peer_book.proofs.Collecting.{put_in}
use Rattle.peer_book.proofs.counts.note.Goals as goal

pub returns : goal.returns
returns c = record {
  noted = λ b q. ap (λ o. unwrap_or o 0) (c.in-Ok.ensures.updates.0 (b, q)) ∙ put_in ((c.args.by == b) && (c.args.of == q)) c.args.count (count_found c.args.counts.now.entries b q);
}
