use Rattle.std.proofs.Common.{ap, sym, ◌∙◌, cond, Some, bytes_eq}
use Rattle.rulebook.specs.Indexes.{at_text}
use Rattle.rulebook.proofs.Keys.{put-text, put-where_none}
use Rattle.rulebook.proofs.texts.put_first.Goals as goal

pub returns : goal.returns
returns c =
    record {
      first = λ q.
          ap (λ es. at_text es q) c.in_ok-insert.ensures.entries
          ∙ put-text c.args.places.now.entries c.in_ok-key.key c.args.place q
          ∙ ap (λ x. cond (bytes_eq x q) (Some c.args.place) (at_text c.args.places.now.entries q)) c.in_ok-key.ensures.key
          ∙ put-where_none c.args.places.now.entries c.args.text.now q c.args.place c.text_place.result c.text_place.ensures.place (sym c.is_some.ensures ∙ c.if-is_some.false);
    }
