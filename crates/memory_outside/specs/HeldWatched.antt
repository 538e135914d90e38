-- What a sink with a rule holds.
use Rattle.std.specs.Prelude.{ℕ, List}
use Rattle.memory_outside.specs.Held.{sink_held, sink_calls, sink_piece, sink_room}
use Rattle.memory_outside.specs.Memory.{Counted}
use Rattle.memory_outside.specs.declared.watched.WriteRule.{Ghosts}
use Rattle.memory_outside.specs.declared.watched.WatchedSink.{WatchedSink}

-- The bytes that a sink got.
abbrev pub watched_held : {P : Type 0} {rule : Ghosts P} → WatchedSink P rule → List ℕ
watched_held watched = sink_held watched.sink

-- The calls of a sink.
abbrev pub watched_calls : {P : Type 0} {rule : Ghosts P} → WatchedSink P rule → Counted
watched_calls watched = sink_calls watched.sink

-- The most bytes that a sink takes in a call.
abbrev pub watched_piece : {P : Type 0} {rule : Ghosts P} → WatchedSink P rule → ℕ
watched_piece watched = sink_piece watched.sink

-- How many bytes a sink can hold.
abbrev pub watched_room : {P : Type 0} {rule : Ghosts P} → WatchedSink P rule → ℕ
watched_room watched = sink_room watched.sink
