-- What the loader does, item by item.
use Rattle.std.specs.Prelude.{◌≡◌, ◌≢◌, ℕ, zero, suc, Bool, true, false, ◌&&◌, nat_le, List, [], ◌∷◌, Result, Ok, Err, length}
use Rattle.authority_model.specs.declared.event.Event.TheVariants.{LoadFailed}
use Rattle.authority_model.specs.declared.journal.Item.{Item}
use Rattle.authority_model.specs.declared.load.Loaded.{Loaded}
use Rattle.authority_model.specs.declared.message.Output.{Output}
use Rattle.authority_model.specs.Given.{Given, event_given, load_given, next}
use Rattle.authority_model.specs.Peers.{is_by}
use Rattle.authority_model.specs.Sent.{batch}
use Rattle.authority_laws.specs.Batches.{collect_given}
use Rattle.policy_load.specs.declared.refused.LoadRefused.{LoadRefused}
use Rattle.policy_load.specs.Codes.{code_of}
use Rattle.serve_loader.specs.Wanted.{wanted_in, wants_stop}

-- what is handed in for a load, at the moment 0 and with the salt 0: the load, or LoadFailed with the code of its refusal
abbrev pub loading_given : Result Loaded LoadRefused → Given
loading_given (Ok loaded) = load_given 0 0 loaded
loading_given (Err refused) = event_given 0 0 0 (LoadFailed (code_of refused))

-- How the loader stands: so many loads are left to do, and it was told to stop or not.
pub record Standing : Type 0 where
  pub owed : ℕ
  pub stop : Bool

-- nothing is left to do, and it was not told to stop
abbrev pub idle : Standing
idle = record { owed = 0; stop = false }

-- after a Collect of these outputs: one load for each LoadWanted before the first StopWanted is left to do
abbrev pub told_by : List Output → Standing
told_by outputs = record { owed = wanted_in outputs; stop = wants_stop outputs }

-- The loader's next item, where so many loads are left to do. With none left, and not told to stop, it is a Collect of outputs to 0, of which there are some. Else it is what the next load gave, of which P holds.
abbrev pub Turns : (Result Loaded LoadRefused → Type 0) → ℕ → Bool → List Item → Item → Standing → Type 0
Turns P zero stop past i s = (stop ≡ false) × (i ≡ next past (collect_given 0 0)) × (batch past 0 0 ≢ []) × (s ≡ told_by (batch past 0 0))
Turns P (suc left) stop past i s = (gave : Result Loaded LoadRefused) × P gave × (i ≡ next past (loading_given gave)) × (s ≡ record { owed = left; stop = stop })

-- the newest item is the loader's own, or it is another's and says nothing
abbrev pub TurnsLast : (Result Loaded LoadRefused → Type 0) → Bool → List Item → Item → (Standing → Type 0) → Standing → Type 0
TurnsLast P true past i rest s = (t : Standing) × rest t × Turns P t.owed t.stop past i s
TurnsLast P false past i rest s = rest s

-- The loader came so far by a history, the newest first, since there were `start` items: each later item by 0 is its next one.
abbrev pub Loading : (Result Loaded LoadRefused → Type 0) → ℕ → List Item → Standing → Type 0
Loading P start [] s = s ≡ idle
Loading P start (i ∷ past) s = TurnsLast P (is_by 0 i && nat_le start (length past)) past i (Loading P start past) s
