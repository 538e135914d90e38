use Rattle.std.proofs.Common.{Some, ap, sym, ◌∙◌}
use Rattle.policy_load.specs.Turns.{with_subdirectories, with_all_below}
use Rattle.policy_load.proofs.Gathered.{is_same}
use Rattle.policy_load.proofs.order.turn_order.with_all_below.Goals as goal

pub returns-in-Listed-clause-listing : goal.returns-in-Listed-clause-listing
returns-in-Listed-clause-listing g c =
    λ told e.
    is_same c.with_subdirectories.result _ _
    (ap (λ names. with_subdirectories told c.args.root c.in-Some.path names c.args.listing) c.as_slice.ensures.items
    ∙ sym (ap (λ found. with_all_below told c.args.root (Some c.in-Some.path) found c.args.listing) c.in-Listed.is)
    ∙ sym (ap (λ path. with_all_below told c.args.root path c.args.parent.now.found c.args.listing) c.in-Some.is))
    (c.with_subdirectories.ensures.listing told e)
