use Rattle.std.proofs.Common.{◌∙◌, ap, sym}
use Rattle.std.specs.Prelude.{option_map}
use Rattle.peer_book.specs.Book.{Peers}
use Rattle.peer_book.specs.Places.{pair_of, place_at, places_of}
use Rattle.peer_book.proofs.Placing.{numbered_output}
use Rattle.peer_book.proofs.book.PeerBook.place.Goals as goal

pub returns-clause-output : goal.returns-clause-output
returns-clause-output c = λ past is positive.
    let at = c.args.number in
    numbered_output (places_of c.args.self.now.places c.args.caller) past c.args.caller at c.place.result (is.places_are c.args.caller)
    (c.place.ensures.place ∙ ap (λ ps. option_map pair_of (place_at ps at)) (sym (c.place.ensures.shown c.args.caller)) ∙ ap (λ (t : Peers). option_map pair_of (place_at (places_of t.places c.args.caller) at)) c.self.view_is) positive
