use Rattle.order_tests.proofs.link_opening_tests.handshakes_are_opened.Goals as goal

pub open_link-opening-requires-clause-may : goal.open_link-opening-requires-clause-may
open_link-opening-requires-clause-may c κs within = λ more front is. tt
