-- Runs of steps of a walk that give the same part.
use Rattle.std.specs.Prelude.{◌≡◌, ℕ, zero, suc, Bool, List, ◌∷◌, Option, Some, None, Result, Ok, Err}
use Rattle.dbus_values.specs.declared.fault.Fault.{Fault}
use Rattle.dbus_values.specs.declared.part.Part.{Part}
use Rattle.dbus_values.specs.declared.walk.Walk.{Walk}
use Rattle.dbus_values.specs.Parts.{Piece, piece}
use Rattle.dbus_values.specs.Walk.{State, step}
use Rattle.dbus_values.specs.Places.{place}

-- so many steps, each of which gives this part, lead from the one place to the other
unfoldable pub Repeats : ℕ → Piece → ℕ → Bool → State → State → Type 0
Repeats zero p limit big s t = s ≡ t
Repeats (suc n) p limit big s t = (u : State) × (step limit big s ≡ Ok (p, u)) × Repeats n p limit big u t

-- What was found in short, or not, which leaves the walk where it stood: a part that is what reading gives, and
-- how often it comes again.
abbrev pub ShortLeads : ℕ → Bool → Option (Part × ℕ) → Walk → Walk → Result (Piece × State) Fault → Type 0
ShortLeads limit big (Some (one, more)) walk before read = (mid : State) × (read ≡ Ok (piece one, mid)) × Repeats more (piece one) limit big mid (place walk)
ShortLeads limit big None walk before read = place walk ≡ place before

-- what some steps returned, the part and how often it comes again, and where they left the walk
abbrev pub RunLeads : ℕ → Bool → Result (Part × ℕ) Fault → Walk → Walk → Type 0
RunLeads limit big (Ok (part, more)) walk before = Repeats (suc more) (piece part) limit big (place before) (place walk)
RunLeads limit big (Err fault) walk before = step limit big (place before) ≡ Err fault

-- the same piece so many times, and then these
abbrev pub again : ℕ → Piece → List Piece → List Piece
again zero p ps = ps
again (suc n) p ps = p ∷ again n p ps
