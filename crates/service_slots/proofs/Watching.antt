-- What a sighter saw and entered, as its connection tells.
use Rattle.std.proofs.Common.{◌≡◌, List, ℕ, Some, sym}
use Rattle.authority_model.specs.declared.journal.Item.{Item}
use Rattle.connection_lookout.specs.Watching.{Watch}
use Rattle.connection_serve.specs.Live.{HasLooked}
use Rattle.service_slots.specs.Served.{HasWatched}

-- a sighter that looked beside a connection
pub has_watched : (uid number n : ℕ) (H : List Item) (v w : Watch) → HasLooked uid number H (Some v) (Some w) → w.pass.history ≡ H → n ≡ v.pass.number → HasWatched n number uid H
has_watched uid number n H v w looked same is = record { before = v; now = w; sighter = sym is; knows = same; looked = looked }
