-- All places of the order were looked at.
use Rattle.std.proofs.Common.{◌≡◌, ◌++◌, [], drop, ap, sym, ◌∙◌, append-nil}
use Rattle.std.specs.List.{filter_map}
use Rattle.std.proofs.lemmas.List.{drop_all}
use Rattle.policy_load.specs.Turns.{turn_at}
use Rattle.policy_load.proofs.Sorting.{order_is}
use Rattle.policy_load.proofs.order.turn_order.add_turns.Goals as goal

pub returns : goal.returns
returns c =
    let items = c.as_slice-place-items.result.now in
    let end : drop c.loop-place.place-index items ≡ [] = drop_all c.loop-place.place-index items c.loop-place-test.false in
    record {
      added =
          sym (append-nil c.loop-place.turns.items)
          ∙ ap (λ d. c.loop-place.turns.items ++ filter_map (turn_at c.args.kind c.args.listing.now) d) (sym end)
          ∙ c.loop-place.invariant
          ∙ ap (λ ps. c.args.turns.now.items ++ filter_map (turn_at c.args.kind c.args.listing.now) ps)
          (c.as_slice-place-items.ensures.items ∙ order_is c.args.listing.now.dirs c.in_ok-places.places c.in_ok-places.ensures.order);
    }
