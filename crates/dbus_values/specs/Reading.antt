-- Readings one after the other, up to the first fault.
use Rattle.std.specs.Prelude.{◌≡◌, ℕ, List, Result, Ok, Err}
use Rattle.dbus_values.specs.declared.fault.Fault.{Fault}
use Rattle.dbus_values.specs.declared.fault.FaultKind.{FaultKind}

infixl 10 ◌>>=◌
abbrev pub ◌>>=◌ : {A B E : Type 0} → Result A E → (A → Result B E) → Result B E
(Ok x) >>= f = f x
(Err e) >>= f = Err e

-- a fault of this kind at this place
abbrev pub bad : {A : Type 0} → FaultKind → ℕ → Result A Fault
bad kind at = Err (record { kind = kind; at = at })

-- What a function returned, seen by view, is what reading gives.
abbrev pub Gives : {X Y E : Type 0} → (X → Y) → Result X E → Result Y E → Type 0
Gives view (Ok x) read = read ≡ Ok (view x)
Gives view (Err e) read = read ≡ Err e

-- a place, counted from the first byte of the message, and the bytes from there on
pub record Spot : Type 0 where
  pub at : ℕ
  pub rest : List ℕ

abbrev pub spot_at : ℕ → List ℕ → Spot
spot_at at rest = record { at = at; rest = rest }
