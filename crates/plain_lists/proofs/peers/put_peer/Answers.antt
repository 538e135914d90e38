use Rattle.std.proofs.Common.{rules, ◌≡◌, ◌==◌, ◌++◌, ◌∷◌, [], List, ap, not, ◌∙◌}
use Rattle.std.specs.Prelude.{filter}
use Rattle.std.proofs.lemmas.Fn.{filter_same}
use Rattle.plain_view.specs.declared.rows.PeerRow.{PeerRow}
use Rattle.plain_view.specs.Plain.{peer_among}
use Rattle.plain_lists.proofs.Rows.{peer_put}
use Rattle.plain_lists.proofs.peers.put_peer.Goals as goal

pub returns : goal.returns
returns c = record {
  put = λ q.
      let others : c.retain.new.self.items ≡ filter (λ r. not (r.caller == c.args.caller)) c.args.rows.now.items = filter_same _ _ _ (λ x b f' k. search rules) _ _ c.retain.ensures.filtered in
      ap (λ (rows : List PeerRow). peer_among rows q) (c.in_ok-push.ensures.items ∙ ap (λ (rows : List PeerRow). rows ++ record { caller = c.args.caller; peer = c.args.peer } ∷ []) others)
      ∙ peer_put c.args.caller c.args.peer c.args.rows.now.items q;
}
