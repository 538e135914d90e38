use Rattle.std.proofs.Common.{◌≡◌, ◌≤◌, ◌∙◌, ◌+◌, ◌++◌, ap, sym, refl, subst, List, Some, None}
use Rattle.indexmap.specs.IndexMap.{spare}
use Rattle.authority_model.specs.declared.message.Output.{Output}
use Rattle.authority_model.specs.Items.{count_to}
use Rattle.peer_book.specs.Book.{IsPeersOf, Peers, receivers}
use Rattle.peer_book.specs.Places.{places_in, places_of, places_to, room_in, shown}
use Rattle.peer_book.proofs.Booking.{few_next, peers_next, ready_for, room_for}
use Rattle.peer_book.proofs.book.PeerBook.apply_entry.Goals as goal

pub fill-requires-clause-room : goal.fill-requires-clause-room
fill-requires-clause-room c = λ q.
    let here = c.self.inside in
    let outputs = c.args.entry.now.outputs in
    let staged : here.staged ≡ Some (receivers outputs) = ap (λ (t : Peers). t.staged) c.self.view_is ∙ c.requires.staged in
    let ready = ready_for here.peers.room here.places.entries (spare here.counts) here.entries here.staged outputs staged c.self.invariant.ready in
    subst (λ (os : List Output). count_to q os ≤ room_in here.places.entries q) (sym c.as_slice.ensures.items) (room_for here.peers.room here.places.entries (spare here.counts) here.entries outputs ready q)

pub invariant_of-self : goal.invariant_of-self
invariant_of-self c =
    let here = c.self.inside in
    let outputs = c.args.entry.now.outputs in
    let staged : here.staged ≡ Some (receivers outputs) = ap (λ (t : Peers). t.staged) c.self.view_is ∙ c.requires.staged in
    let ready = ready_for here.peers.room here.places.entries (spare here.counts) here.entries here.staged outputs staged c.self.invariant.ready in
    record {
      few = few_next here.peers.room here.places.entries c.fill.new.rows.entries (spare here.counts) here.entries outputs ready
          (λ q. c.fill.ensures.put q ∙ ap (λ (os : List Output). places_in here.places.entries q ++ places_to q here.entries 0 os) c.as_slice.ensures.items);
      ready = tt;
    }

pub returns-clause-stands : goal.returns-clause-stands
returns-clause-stands c = λ past i is world legal was.
    let here = c.self.inside in
    let before : Peers = record { rows = here.peers.rows; live = here.peers.live; places = shown here.places.entries; counts = here.counts.entries; entries = here.entries; staged = here.staged } in
    let after : Peers = record { rows = c.carry.new.self.rows; live = c.carry.new.self.live; places = shown c.fill.new.rows.entries; counts = c.carry_counts.new.counts.entries; entries = here.entries + 1; staged = None } in
    peers_next before after past i c.args.entry.now c.args.world.now is world legal (subst (λ (t : Peers). IsPeersOf past t) (sym c.self.view_is) was) c.carry.ensures.rows c.carry.ensures.live
    (λ q.
    c.fill.ensures.after q
    ∙ c.fill.ensures.put q
    ∙ ap (λ ps. ps ++ places_to q here.entries 0 c.as_slice.result.now) (sym (c.fill.ensures.before q))
    ∙ ap (λ (os : List Output). places_of before.places q ++ places_to q here.entries 0 os) c.as_slice.ensures.items)
    c.carry_counts.ensures.carried refl
