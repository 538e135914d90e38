use Rattle.std.proofs.Common.{◌∙◌, ◌<◌, ◌-◌, ap, arith}
use Rattle.std.proofs.lemmas.Bool.Decides.{nat_tests}
use Rattle.std.specs.Prelude.{option_map, slice_get}
use Rattle.peer_book.specs.Places.{pair_of, places_in}
use Rattle.peer_book.proofs.Widening.{shown_places, placed_at, items_of}
use Rattle.peer_book.proofs.places.place.Goals as goal

pub returns-then-number-eq0-clause-shown : goal.returns-then-number-eq0-clause-shown
returns-then-number-eq0-clause-shown c = λ q. shown_places c.args.rows.now.entries q c.len-len.ensures.unique

pub returns-in-Some-clause-place : goal.returns-in-Some-clause-place
returns-in-Some-clause-place c =
    let positive : 0 < c.args.number = grind (arith, nat_tests, c.if-number-eq0.false) in
    placed_at (places_in c.args.rows.now.entries c.args.caller) c.args.number c.nth.result positive
    (c.nth.ensures.place ∙ ap (λ o. option_map pair_of (slice_get (items_of o) (c.args.number - 1))) c.in-Some.ensures.value)

pub returns-in-Some-clause-shown : goal.returns-in-Some-clause-shown
returns-in-Some-clause-shown c = λ q. shown_places c.args.rows.now.entries q c.len-len.ensures.unique

pub returns-in-None-clause-shown : goal.returns-in-None-clause-shown
returns-in-None-clause-shown c = λ q. shown_places c.args.rows.now.entries q c.len-len.ensures.unique
