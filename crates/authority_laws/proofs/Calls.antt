-- The call of an event.
use Rattle.std.proofs.Common.{◌≡◌, ℕ, Bool, ap, Some}
use Rattle.authority_model.specs.declared.event.Call.{Call}
use Rattle.authority_model.specs.declared.event.Event.{Event}
use Rattle.authority_model.specs.declared.event.Event.TheVariants.{Call as Called}
use Rattle.authority_model.specs.Peers.{call_in}

-- an event that has a call is one
pub call_is : (e : Event) (call : Call) → call_in e ≡ Some call → (serial : ℕ) × (quiet : Bool) × (e ≡ Called serial quiet call)
call_is (Called serial quiet call') call e = let same : call' ≡ call = cc in (serial, quiet, ap (Called serial quiet) same)
call_is _ call e = absurd (cc)
