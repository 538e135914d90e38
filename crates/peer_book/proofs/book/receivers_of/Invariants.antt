use Rattle.std.proofs.Common.{◌≡◌, take}
use Rattle.peer_book.specs.Book.{receivers}
use Rattle.peer_book.proofs.book.receivers_of.Given as goal

abbrev pub invariant-loop-output : goal.invariant-loop-output
invariant-loop-output l = l.receivers ≡ receivers (take l.output-index l.outputs)
