-- How a reader ends, by what stopped its messages.
use Rattle.std.proofs.Common.{◌≡◌, ℕ, ◌<◌, List, ◌++◌, Some, Bool, Result, Ok, Err, refl, ap, sym, ◌∙◌, subst, length, zero, suc, arith}
use Rattle.std.specs.Result.{IsErrAnd}
use Rattle.authority_model.specs.declared.journal.Limits.{Limits}
use Rattle.dbus_values.specs.Awaiting.{awaited}
use Rattle.dbus_values.specs.Next.{Partial, next_of}
use Rattle.dbus_values.proofs.Fewer.{below_awaited}
use Rattle.connection_reader.specs.declared.ends.ReadStop.{ReadStop}
use Rattle.connection_reader.specs.declared.ends.ReadStop.TheVariants as stop
use Rattle.connection_reader.specs.Reading.{Hand, IsThrough, ReadsTo}
use Rattle.connection_reader.specs.Stops.{Stops, end_of}
use Rattle.dbus_values.proofs.Following.{none_bad, none_partial}

-- the end of the connection was handed in behind a stop
pub reads_to : (limits : Limits) (uid : ℕ) (s t : Hand) (ended : Bool) (why : ReadStop) → IsThrough uid s t → Stops ended t.unread (Some why) → ReadsTo limits uid s t ended (end_of (Ok why))
reads_to limits uid s t ended stop.Done r is = ((r, none_partial t.unread is.0), is.1, is.2)
reads_to limits uid s t ended (stop.Truncated rest) r is = ((r, none_partial t.unread is.0), is.0, is.1, is.2, is.3)
reads_to limits uid s t ended (stop.BadBytes fault at) r is = ((r, none_bad t.unread fault at is), is)
reads_to limits uid s t ended stop.ReadFault r is = ((r, none_partial t.unread is), is)
reads_to limits uid s t ended stop.SightFault r is = r
reads_to limits uid s t ended stop.NoMemory r is = r

-- fewer bytes than are awaited are less than a message
pub still_partial : (bytes before now more : List ℕ) (wanted : ℕ) → bytes ≡ before → wanted ≡ awaited bytes → next_of before ≡ Partial → now ≡ before ++ more → length now < wanted → next_of now ≡ Partial
still_partial bytes before now more wanted same is partial behind fewer =
    let all : now ≡ bytes ++ more = behind ∙ ap (λ (b : List ℕ). b ++ more) (sym same) in
    ap next_of all ∙ below_awaited bytes more (ap next_of same ∙ partial) (subst (λ (n : ℕ). length (bytes ++ more) < n) is (subst (λ (b : List ℕ). length b < wanted) all fewer))

-- what is not 0 is above it
pub positive : (n : ℕ) → (n ≡ 0 → ⊥) → 0 < n
positive zero not_zero = absurd (not_zero refl)
positive (suc n) not_zero = omega arith

-- an error is handed on
pub handed_on : {T E : Type 0} (P : Result T E → Type 0) (result : Result T E) (cause : E) → IsErrAnd result (λ (y : E). y ≡ cause) → P (Err cause) → P result
handed_on P (Ok x) cause is p = absurd is
handed_on P (Err y) cause is p = subst (λ e. P (Err e)) (sym is) p
