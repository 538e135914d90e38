use Rattle.std.proofs.Common.{rules, ◌≡◌, ◌==◌, ◌++◌, ◌∷◌, [], List, ap, not, ◌∙◌}
use Rattle.std.specs.Prelude.{filter}
use Rattle.std.proofs.lemmas.Fn.{filter_same}
use Rattle.plain_view.specs.declared.rows.SentRow.{SentRow}
use Rattle.plain_view.specs.Plain.{count_among}
use Rattle.plain_lists.proofs.Rows.{count_put}
use Rattle.plain_lists.proofs.sent.put_count.Goals as goal

pub returns : goal.returns
returns c = record {
  put = λ q.
      let others : c.retain.new.self.items ≡ filter (λ r. not (r.caller == c.args.caller)) c.args.rows.now.items = filter_same _ _ _ (λ x b f' k. search rules) _ _ c.retain.ensures.filtered in
      ap (λ (rows : List SentRow). count_among rows q) (c.in_ok-push.ensures.items ∙ ap (λ (rows : List SentRow). rows ++ record { caller = c.args.caller; count = c.args.count } ∷ []) others)
      ∙ count_put c.args.caller c.args.count c.args.rows.now.items q;
}
