use Rattle.std.proofs.Common.{◌≡◌, ◌++◌, ℕ, List, take}
use Rattle.std.specs.Prelude.{Option}
use Rattle.link_opening.specs.Feeds.{Fed}
use Rattle.link_opening.proofs.feeding.feed_bytes.Given as goal

-- The bytes up to here were fed, and no write failed.
abbrev pub invariant-loop-byte : goal.invariant-loop-byte
invariant-loop-byte g l = record {
  count : l.fed ≡ l.byte-index;
  quiet : g.O.Sink.faults l.sink ≡ g.O.Sink.faults l.fn.sink;
  so : (door : ℕ) (before : List ℕ) (held : Option (List ℕ)) → Fed door l.guid before held (g.O.Sink.held l.fn.sink) l.initial.shake → Fed door l.guid (before ++ take l.byte-index l.bytes) held (g.O.Sink.held l.sink) l.shake;
}
