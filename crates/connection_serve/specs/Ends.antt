-- How the ends of the two halves make that of the connection.
use Rattle.connection_reader.specs.declared.ends.ReaderEnd.{ReaderEnd}
use Rattle.connection_reader.specs.declared.ends.ReaderEnd.TheVariants as reader
use Rattle.connection_writer.specs.declared.ends.WriterEnd.{WriterEnd}
use Rattle.connection_writer.specs.declared.ends.WriterEnd.TheVariants as writer
use Rattle.connection_serve.specs.declared.ends.End.{End}
use Rattle.connection_serve.specs.declared.ends.End.TheVariants as end
use Rattle.connection_serve.specs.declared.ends.LiveEnd.{LiveEnd}
use Rattle.connection_serve.specs.declared.ends.LiveEnd.TheVariants as live
use Rattle.std.specs.Prelude.{⊤}

-- an end of the writer before it wrote all comes before the reader's
abbrev pub with_writer : End → WriterEnd → End
with_writer e writer.All = e
with_writer e (writer.Ended cause) = end.Ended cause
with_writer e writer.WriteFault = end.WriteFault
with_writer e writer.NoMemory = end.NoMemory

-- the end of the lock comes first
abbrev pub end_of : ReaderEnd → WriterEnd → End
end_of (reader.Ended cause) wrote = end.Ended cause
end_of reader.ReadFault wrote = with_writer end.ReadFault wrote
end_of (reader.BadBytes kind at) wrote = with_writer (end.BadBytes kind at) wrote
end_of (reader.Truncated rest) wrote = with_writer (end.Truncated rest) wrote
end_of reader.Done wrote = with_writer end.Done wrote
end_of reader.SightFault wrote = with_writer end.NoMemory wrote
end_of reader.NoMemory wrote = with_writer end.NoMemory wrote

-- a sight fault is told where the writer wrote all
abbrev pub live_end_of : ReaderEnd → WriterEnd → LiveEnd
live_end_of reader.SightFault writer.All = live.SightFault
live_end_of read wrote = live.Plain (end_of read wrote)

-- The end whose clauses an end keeps. A sight fault keeps those of want of memory, after which all was entered that was handed in; what it says besides has clauses of its own.
abbrev pub plain_of : LiveEnd → End
plain_of live.SightFault = end.NoMemory
plain_of (live.Plain e) = e

-- the fact holds where the end is a sight fault
abbrev pub OnSightFault : LiveEnd → Type 0 → Type 0
OnSightFault live.SightFault fact = fact
OnSightFault (live.Plain e) fact = ⊤
