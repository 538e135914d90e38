-- What an authority keeps, with how much its journal holds and may hold.
use Rattle.std.specs.Prelude.{ℕ, ◌≡◌, length}
use Rattle.authority_model.specs.declared.journal.History.{History}
use Rattle.authority_model.specs.declared.journal.Limits.{Limits}
use Rattle.authority_model.specs.Entering.{AreAllowed, counted_bytes}
use Rattle.authority_model.specs.Items.{items_of}
use Rattle.authority_model.specs.Legal.{IsLegal}
use Rattle.authority_model.proofs.Pairing.{load_count}
use Rattle.authority_desk.specs.Seen.{DeskSeen, IsDeskFor}

-- The journal is legal and has a load for each entry that names one, the desk stands for it, its bytes are counted, and its limits are at most the greatest.
pub record IsKept (h : History) (limits : Limits) (bytes : ℕ) (desk : DeskSeen) : Type 0 where
  pub legal : IsLegal h
  pub each_loaded : load_count h.entries ≡ length h.loads
  pub desk_is : IsDeskFor (items_of h) desk
  pub counted : bytes ≡ counted_bytes (items_of h)
  pub allowed : AreAllowed limits
