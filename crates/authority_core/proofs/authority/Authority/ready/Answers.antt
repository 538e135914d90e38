use Rattle.std.proofs.Common.{◌≡◌, sym, subst}
use Rattle.authority_core.specs.Journal.{Journal}
use Rattle.authority_model.specs.Items.{items_of}
use Rattle.authority_model.specs.Sent.{is_ready}
use Rattle.authority_desk.specs.Seen.{DeskSeen}
use Rattle.peer_book.specs.Book.{IsPeersOf, Peers}
use Rattle.authority_core.proofs.Readiness.{ready_else}
use Rattle.authority_core.proofs.authority.Authority.ready.Goals as goal

pub returns-else-collected-sent_count : goal.returns-else-collected-sent_count
returns-else-collected-sent_count c =
    let peers = c.peers-peers.result.now in
    let held = subst (λ (d : DeskSeen). IsPeersOf (items_of c.self.inside.history) d.peers) (sym c.as_ref.ensures) c.self.invariant.desk_is.peers_are in
    let stands = subst (λ (t : Peers). IsPeersOf (items_of c.self.inside.history) t) (sym c.peers-peers.ensures.peers) held in
    record {
      ready = subst (λ (j : Journal). c.departed.result ≡ is_ready (items_of j.history) c.args.caller c.args.of) c.self.view_is
          (ready_else (items_of c.self.inside.history) peers stands c.args.caller c.args.of c.collected.result c.sent_count.result c.departed.result c.collected.ensures.count c.sent_count.ensures.count c.if-collected-sent_count.false c.departed.ensures.departed);
    }
