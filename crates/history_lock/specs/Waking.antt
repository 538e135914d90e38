-- Whom an entry wakes. Calls wait at places: one that waits for a number, at the place that is the rest of this number by their count.
use Rattle.std.specs.Prelude.{◌≡◌, ℕ, ◌%◌}
use Rattle.std.specs.Int.{bit_at}
use Rattle.history_lock.specs.declared.woken.TheConstants.{PLACES}
use Rattle.history_lock.specs.declared.woken.Woken.{Woken}

-- A call that waits for this number is among those that are woken: each bit stands for a place.
abbrev pub Wakes : Woken → ℕ → Type 0
Wakes woken number = bit_at woken.places (number % PLACES) ≡ 1
