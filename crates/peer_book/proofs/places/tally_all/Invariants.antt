use Rattle.std.proofs.Common.{◌≡◌, ℕ, take}
use Rattle.peer_book.specs.Places.{count_in, tally_in}
use Rattle.peer_book.proofs.places.tally_all.Given as goal

abbrev pub invariant-loop-receiver : goal.invariant-loop-receiver
invariant-loop-receiver l = (c : ℕ) → tally_in l.tally.entries c ≡ count_in c (take l.receiver-index l.receivers)
