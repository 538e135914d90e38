use Rattle.std.proofs.Common.{ap, ◌∙◌, cond, Some, bytes_eq}
use Rattle.rulebook.specs.Indexes.{at_text}
use Rattle.rulebook.proofs.Keys.{put-text}
use Rattle.rulebook.proofs.globs.put_new.Goals as goal

pub returns : goal.returns
returns c =
    record {
      put = λ q.
          ap (λ es. at_text es q) c.in_ok-insert.ensures.entries
          ∙ put-text c.args.exact.now.entries c.in_ok-key.key c.in_ok-places.places q
          ∙ ap (λ x. cond (bytes_eq x q) (Some c.in_ok-places.places) (at_text c.args.exact.now.entries q)) c.in_ok-key.ensures.key
          ∙ ap (λ v. cond (bytes_eq c.args.glob.now q) (Some v) (at_text c.args.exact.now.entries q)) c.in_ok-places.ensures.one;
    }
