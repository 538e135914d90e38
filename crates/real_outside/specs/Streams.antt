-- What a real source reads from, what a real sink writes to, and what both count.
use Rattle.std.specs.Prelude.{ℕ, Bool}
use Rattle.std.specs.declared.io.traits.Read.{Ghosts}
use Rattle.real_outside.specs.declared.streams.ReadSource.{ReadSource}
use Rattle.real_outside.specs.declared.streams.WriteSink.{WriteSink}

-- The reader of a source.
abbrev pub reader_of : {R : Type 0} {read : Ghosts R} → ReadSource R read → R
reader_of source = source.inner

-- The writer of a sink.
abbrev pub writer_of : {W : Type 0} → WriteSink W → W
writer_of sink = sink.inner

-- How many faults a source counted.
abbrev pub source_faults : {R : Type 0} {read : Ghosts R} → ReadSource R read → ℕ
source_faults source = source.faults

-- How many bytes it can still give.
abbrev pub source_budget : {R : Type 0} {read : Ghosts R} → ReadSource R read → ℕ
source_budget source = source.budget

-- Its last read met the end.
abbrev pub source_ended : {R : Type 0} {read : Ghosts R} → ReadSource R read → Bool
source_ended source = source.ended

-- How many faults a sink counted.
abbrev pub sink_faults : {W : Type 0} → WriteSink W → ℕ
sink_faults sink = sink.faults
