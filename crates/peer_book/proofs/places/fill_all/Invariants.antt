use Rattle.std.proofs.Common.{◌≡◌, ◌≤◌, ◌++◌, ℕ, drop, take}
use Rattle.authority_model.specs.Items.{count_to}
use Rattle.peer_book.specs.Places.{places_in, places_to, room_in}
use Rattle.peer_book.proofs.places.fill_all.Given as goal

abbrev pub invariant-loop-i : goal.invariant-loop-i
invariant-loop-i l = record {
  put : (c : ℕ) → places_in l.rows.entries c ≡ places_in l.initial.rows.entries c ++ places_to c l.entry 0 (take l.i l.outputs);
  room : (c : ℕ) → count_to c (drop l.i l.outputs) ≤ room_in l.rows.entries c;
}
