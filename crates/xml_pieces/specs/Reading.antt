-- Reading from the front, up to the first fault.
use Rattle.std.specs.Prelude.{◌≡◌, ℕ, zero, suc, List, length, Result, Ok, Err}
use Rattle.xml_pieces.specs.declared.fault.Fault.{Fault}
use Rattle.xml_pieces.specs.declared.fault.Stop.{Stop}
use Rattle.xml_pieces.specs.declared.fault.Stop.TheVariants as stop
use Rattle.xml_pieces.specs.declared.fault.XmlFaultKind.{XmlFaultKind}
use Rattle.xml_pieces.specs.declared.fault.XmlFaultKind.TheVariants as kind

infixl 10 ◌>>=◌
abbrev pub ◌>>=◌ : {A B E : Type 0} → Result A E → (A → Result B E) → Result B E
(Ok x) >>= f = f x
(Err e) >>= f = Err e

-- a fault of this kind at the front of these bytes, which reach to the end of the file
abbrev pub fault_at : {A : Type 0} → XmlFaultKind → List ℕ → Result A Fault
fault_at kind here = Err (record { kind = kind; left = length here })

-- these bytes may not stand there
abbrev pub malformed : {A : Type 0} → List ℕ → Result A Fault
malformed here = fault_at kind.Malformed here

-- something is cut off by the end of the file
abbrev pub cut_off : {A : Type 0} → Result A Fault
cut_off = Err (record { kind = kind.Malformed; left = 0 })

-- a step of a loop: it goes on, or it is done
pub data Step (S X : Type 0) : Type 0 where
  On : S → Step S X
  Done : X → Step S X

abbrev pub go_on : {S X : Type 0} → (S → Result X Fault) → Step S X → Result X Fault
go_on next (On s) = next s
go_on next (Done x) = Ok x

-- steps up to the one that is done, at most so many: each takes a byte at least, so the file is at its end behind them
unfoldable pub steps : {S X : Type 0} → (S → Result (Step S X) Fault) → ℕ → S → Result X Fault
steps step zero s = cut_off
steps step (suc n) s = step s >>= go_on (steps step n)

-- What a function returned, seen by view, is what reading gives, unless memory was refused.
abbrev pub Stops : {A : Type 0} → Stop → Result A Fault → Type 0
Stops stop.Memory read = Unit {0}
Stops (stop.Bad fault) read = read ≡ Err fault

abbrev pub Gives : {X Y : Type 0} → (X → Y) → Result X Stop → Result Y Fault → Type 0
Gives view (Ok x) read = read ≡ Ok (view x)
Gives view (Err e) read = Stops e read
