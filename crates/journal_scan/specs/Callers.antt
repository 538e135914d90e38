-- Whose entries a journal has: those of the connections with a line, each in its turn, those of their sighters, and those of the server.
use Rattle.std.specs.Prelude.{◌≡◌, ℕ, ⊤, true, false, List, Some, None}
use Rattle.authority_model.specs.declared.event.Event.{Event}
use Rattle.authority_model.specs.declared.event.Event.TheVariants.{Connect, Call as Called, Returned, AgentError, Passed, Depart, Load, LoadFailed, Stop, Collect}
use Rattle.authority_model.specs.declared.journal.Item.{Item}
use Rattle.authority_model.specs.Lists.{any_of}
use Rattle.authority_model.specs.Peers.{is_by, departs}
use Rattle.journal_scan.specs.declared.lines.ConnectionLine.{ConnectionLine}
use Rattle.journal_scan.specs.Lines.{is_sighter, uid_on}
use Rattle.journal_scan.specs.Sightings.{IsSighting}

-- an event that a connection hands in after its Connect
abbrev pub IsOfConnection : Event → Type 0
IsOfConnection (Called serial quiet call) = ⊤
IsOfConnection (Returned serial) = ⊤
IsOfConnection (AgentError serial name) = ⊤
IsOfConnection Passed = ⊤
IsOfConnection Depart = ⊤
IsOfConnection _ = ⊥

-- an event of the server: a Collect, a Load or a LoadFailed by caller 0, or a Stop
abbrev pub IsOfServer : ℕ → Event → Type 0
IsOfServer c (Collect of) = ⊤
IsOfServer c (Load load) = c ≡ 0
IsOfServer c (LoadFailed code) = c ≡ 0
IsOfServer c Stop = ⊤
IsOfServer c _ = ⊥

-- An item is in the turn of its connection: the first is the Connect with this uid, each other one is an event that a connection hands in, and none comes after its Depart.
pub record IsInTurn (past : List Item) (i : Item) (uid : ℕ) : Type 0 where
  pub first : any_of (is_by i.entry.caller) past ≡ false → i.entry.event ≡ Connect uid
  pub later : any_of (is_by i.entry.caller) past ≡ true → IsOfConnection i.entry.event
  pub stays : any_of (departs i.entry.caller) past ≡ false

-- An item belongs to a connection with a line, to the sighter of one, or to the server.
pub record Belongs (lines : List ConnectionLine) (past : List Item) (i : Item) : Type 0 where
  pub lined : (uid : ℕ) → uid_on lines i.entry.caller ≡ Some uid → IsInTurn past i uid
  pub sighting : uid_on lines i.entry.caller ≡ None → is_sighter lines i.entry.caller ≡ true → IsSighting past i
  pub unlined : uid_on lines i.entry.caller ≡ None → is_sighter lines i.entry.caller ≡ false → IsOfServer i.entry.caller i.entry.event
