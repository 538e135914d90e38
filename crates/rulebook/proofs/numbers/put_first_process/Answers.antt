use Rattle.std.proofs.Common.{sym, ◌∙◌}
use Rattle.rulebook.proofs.Keys.{put-process_none}
use Rattle.rulebook.proofs.numbers.put_first_process.Goals as goal

pub returns : goal.returns
returns c =
    record {
      first = λ p s.
          c.in_ok-insert.ensures.updates.0 (p, s)
          ∙ put-process_none c.args.places.now.entries c.args.pid c.args.start p s c.args.place c.process_place.result c.process_place.ensures.place (sym c.is_some.ensures ∙ c.if-is_some.false);
    }
