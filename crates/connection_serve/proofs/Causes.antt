-- Counts of faults, and fronts of bytes.
use Rattle.std.proofs.Common.{◌≡◌, ℕ, ◌<◌, List, [], Option, ap, sym, ◌∙◌, subst, arith}
use Rattle.std.proofs.lemmas.List.{append-nil}
use Rattle.connection_reader.specs.declared.ends.ReaderEnd.{ReaderEnd}
use Rattle.connection_reader.specs.declared.ends.ReaderEnd.TheVariants as reader
use Rattle.connection_reader.specs.Reading.{ReadFaults}
use Rattle.connection_serve.specs.Halves.{ReaderFaults}
use Rattle.pk_outside.specs.Causes.{FailsLast, Rose, one_more}
use Rattle.pk_outside.specs.Streams.{Got, GotFront}
use Rattle.pk_outside.specs.Allowing.{IsFront}

-- a count that rose is above 0
pub rose_above : (before now : ℕ) → Rose before now → 0 < now
rose_above before now rose = omega (arith, rose)

-- a call that failed last made the count rise
pub fails_rose : {S : Type 0} (content : S → Option (List ℕ)) (faults : S → ℕ) (before now : S) → FailsLast content faults before now → Rose (faults before) (faults now)
fails_rose content faults before now failed = let q = failed.quiet in let c = failed.counted ∙ ap one_more q in omega (arith, c)

-- bytes are a front of themselves
pub front_all : (bytes : List ℕ) → IsFront bytes bytes
front_all bytes = ([], sym (append-nil bytes))

-- what was written of some bytes is a front of them
pub front_got : (a b : Option (List ℕ)) (bytes : List ℕ) → GotFront a b bytes → (written : List ℕ) × Got a b written × IsFront written bytes
front_got a b bytes q = (q.1.0, q.1.2, (q.0, q.1.1))

-- what follows is a front where its beginning is all
pub front_of_equal : (front bytes more : List ℕ) → bytes ≡ more → IsFront front bytes → IsFront front more
front_of_equal front bytes more is f = subst (IsFront front) is f

-- a read fault of the reader made the count rise
pub reader_faults : {S : Type 0} (content : S → Option (List ℕ)) (faults : S → ℕ) (before now : S) (end : ReaderEnd) → ReadFaults content faults before now end → ReaderFaults end (faults before) (faults now)
reader_faults content faults before now reader.ReadFault f = fails_rose content faults before now f
reader_faults content faults before now reader.Done f = tt
reader_faults content faults before now (reader.Truncated rest) f = tt
reader_faults content faults before now (reader.BadBytes _ at) f = tt
reader_faults content faults before now reader.SightFault f = tt
reader_faults content faults before now reader.NoMemory f = tt
reader_faults content faults before now (reader.Ended cause) f = tt
