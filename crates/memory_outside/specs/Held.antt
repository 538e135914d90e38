-- What the sources, sinks and links in memory hold.
use Rattle.std.specs.Prelude.{◌≡◌, ℕ, ◌-◌, List, [], Option, Some, Bool, nat_eq, length, drop}
use Rattle.memory_outside.specs.Memory.{Counted}
use Rattle.pk_outside.specs.Links.{Origin}
use Rattle.memory_outside.specs.declared.bytes.ByteSource.{ByteSource}
use Rattle.memory_outside.specs.declared.bytes.ByteSink.{ByteSink}
use Rattle.memory_outside.specs.declared.sure.SureSource.{SureSource}

-- The bytes that a source has left.
abbrev pub source_left : ByteSource → List ℕ
source_left source = drop source.at source.bytes.items

-- The path that its link was dialled at.
abbrev pub source_path : ByteSource → List ℕ
source_path source = source.path

-- All of its bytes.
abbrev pub source_bytes : ByteSource → List ℕ
source_bytes source = source.bytes.items

-- Where it is from, and all of its bytes.
abbrev pub source_origin : ByteSource → Option Origin
source_origin source = Some (record { path = source.path; bytes = source.bytes.items })

-- How many bytes it can still give.
abbrev pub source_budget : ByteSource → ℕ
source_budget source = length source.bytes.items - source.at

-- It has given all of its bytes.
abbrev pub source_ended : ByteSource → Bool
source_ended source = nat_eq source.at (length source.bytes.items)

-- The most bytes that a source gives in a call.
abbrev pub source_piece : ByteSource → ℕ
source_piece source = source.piece

-- The calls of a source.
abbrev pub source_calls : ByteSource → Counted
source_calls source = source.calls

-- The bytes that a sink got.
abbrev pub sink_held : ByteSink → List ℕ
sink_held sink = sink.bytes.items

-- How many bytes a sink can hold.
abbrev pub sink_room : ByteSink → ℕ
sink_room sink = sink.room

-- The most bytes that a sink takes in a call.
abbrev pub sink_piece : ByteSink → ℕ
sink_piece sink = sink.piece

-- The calls of a sink.
abbrev pub sink_calls : ByteSink → Counted
sink_calls sink = sink.calls

-- The bytes that a source which never fails has left.
abbrev pub sure_left : SureSource → List ℕ
sure_left source = drop source.at source.bytes.items

-- All of its bytes.
abbrev pub sure_bytes : SureSource → List ℕ
sure_bytes source = source.bytes.items

-- The most bytes that it gives in a call.
abbrev pub sure_piece : SureSource → ℕ
sure_piece source = source.piece

-- How many bytes it can still give.
abbrev pub sure_budget : SureSource → ℕ
sure_budget source = length source.bytes.items - source.at

-- It has given all of its bytes.
abbrev pub sure_ended : SureSource → Bool
sure_ended source = nat_eq source.at (length source.bytes.items)

-- The two ends of a link of which nothing was read or written.
pub record IsUnused (input : ByteSource) (output : ByteSink) : Type 0 where
  pub unread : source_left input ≡ source_bytes input
  pub unwritten : sink_held output ≡ []
  pub read_faults : (source_calls input).faults ≡ 0
  pub write_faults : (sink_calls output).faults ≡ 0
