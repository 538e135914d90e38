-- Where the code's walk stands, and where a step leads it.
use Rattle.std.specs.Prelude.{◌≡◌, Result, Ok, Err}
use Rattle.dbus_values.specs.declared.fault.Fault.{Fault}
use Rattle.dbus_values.specs.declared.part.Part.{Part}
use Rattle.dbus_values.specs.declared.walk.Walk.{Walk}
use Rattle.dbus_values.specs.Parts.{Piece, piece}
use Rattle.dbus_values.specs.Walk.{State, state}

abbrev pub place : Walk → State
place w = state w.frames w.types.now w.here.at w.here.rest.now

-- what a step returned, and where it left the walk, is what reading gives
abbrev pub Leads : Result Part Fault → Walk → Result (Piece × State) Fault → Type 0
Leads (Ok part) walk read = read ≡ Ok (piece part, place walk)
Leads (Err fault) walk read = read ≡ Err fault
