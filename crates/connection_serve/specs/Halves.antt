-- What the opening and the two halves of a connection say, before it is put together.
use Rattle.std.specs.Prelude.{◌≡◌, ℕ, List, ◌++◌, Option, Bool, Result, Ok, Err}
use Rattle.authority_model.specs.declared.journal.Item.{Item}
use Rattle.authority_model.specs.declared.journal.Limits.{Limits}
use Rattle.connection_reader.specs.declared.ends.ReaderEnd.{ReaderEnd}
use Rattle.connection_reader.specs.declared.ends.ReaderEnd.TheVariants as reader
use Rattle.connection_reader.specs.Reading.{Hand, ReadsTo}
use Rattle.connection_serve.specs.declared.ends.End.{End}
use Rattle.connection_serve.specs.Ends.{end_of}
use Rattle.connection_serve.specs.Headline.{EndFaults, EndsEarly}
use Rattle.connection_writer.specs.declared.ends.WriterEnd.{WriterEnd}
use Rattle.connection_writer.specs.Writing.{WritesTo}
use Rattle.history_lock.specs.Known.{Known}
use Rattle.link_handshake.specs.Shakes.{Begun}
use Rattle.link_opening.specs.Opens.{Settles}
use Rattle.pk_outside.specs.Causes.{Rose}
use Rattle.pk_outside.specs.Streams.{Gave, Got}

-- The messages began: the handshake's bytes are these, and the rest that was read is the first of the messages.
pub record HasBegun (uid guid : ℕ) (left_before left held_before held : Option (List ℕ)) (rest : List ℕ) : Type 0 where
  pub read : List ℕ
  pub gave : Gave left_before left read
  pub settles : Settles uid guid read held_before held (λ more. Begun (rest ++ more))

-- The messages did not begin.
pub record HasEnded (uid guid : ℕ) (left_before left held_before held : Option (List ℕ)) (read_before read_faults write_before write_faults : ℕ) (e : End) : Type 0 where
  pub read : List ℕ
  pub written : List ℕ
  pub gave : Gave left_before left read
  pub got : Got held_before held written
  pub ends : EndsEarly e uid guid read left written read_faults write_faults
  pub faults : EndFaults e read_before read_faults write_before write_faults

-- How an opening ended; the rest is what was read behind it.
abbrev pub Greets : ℕ → ℕ → Option (List ℕ) → Option (List ℕ) → Option (List ℕ) → Option (List ℕ) → ℕ → ℕ → ℕ → ℕ → Result (List ℕ) End → Type 0
Greets uid guid left_before left held_before held read_before read_faults write_before write_faults (Ok rest) =
    HasBegun uid guid left_before left held_before held rest × (read_faults ≡ read_before) × (write_faults ≡ write_before)
Greets uid guid left_before left held_before held read_before read_faults write_before write_faults (Err e) =
    HasEnded uid guid left_before left held_before held read_before read_faults write_before write_faults e

-- a read fault of the reader was counted
abbrev pub ReaderFaults : ReaderEnd → ℕ → ℕ → Type 0
ReaderFaults reader.ReadFault before now = Rose before now
ReaderFaults _ before now = Unit {0}

-- What the two halves did, each by its own pass: those of the reader and of the collector stood for the passes of `s` and for `v`, and stand for those of `t` and for `w`.
pub record Halves (limits : Limits) (uid : ℕ) (s t : Hand) (ended : Bool) (v w : Known Item) (held_before held : Option (List ℕ)) (read_before read_faults write_before write_faults : ℕ) (read : ReaderEnd) (wrote : WriterEnd) : Type 0 where
  pub reads : ReadsTo limits uid s t ended read
  pub read_cause : ReaderFaults read read_before read_faults
  pub writes : WritesTo limits s.pass.number held_before write_before v held write_faults w wrote

-- The same, once the two passes have met and know one history.
pub record Meets (limits : Limits) (uid : ℕ) (s t : Hand) (ended : Bool) (v w : Known Item) (held_before held : Option (List ℕ)) (read_before read_faults write_before write_faults : ℕ) (e : End) : Type 0 where
  pub read : ReaderEnd
  pub wrote : WriterEnd
  pub end_is : e ≡ end_of read wrote
  pub halves : Halves limits uid s t ended v w held_before held read_before read_faults write_before write_faults read wrote
  pub same_history : t.pass.history ≡ w.history
  pub same_made : t.pass.made ≡ w.made
  pub same_ended : t.pass.ended ≡ w.ended
