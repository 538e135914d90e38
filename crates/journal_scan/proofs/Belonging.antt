-- What follows of an item that belongs to a line or to the server.
use Rattle.std.proofs.Common.{◌≡◌, ◌⊎◌, inl, inr, ℕ, Bool, true, false, List, Option, Some, None, refl, ap, sym, ◌∙◌, subst}
use Rattle.authority_model.specs.declared.event.Event.{Event}
use Rattle.authority_model.specs.declared.event.Event.TheVariants.{Connect, Call as Called, Returned, AgentError, Passed, Depart, Load, LoadFailed, Stop, Collect}
use Rattle.authority_model.specs.declared.journal.Item.{Item}
use Rattle.authority_model.specs.Items.{is_load}
use Rattle.authority_model.specs.Lists.{any_of}
use Rattle.authority_model.specs.Peers.{is_by}
use Rattle.journal_scan.specs.declared.lines.ConnectionLine.{ConnectionLine}
use Rattle.journal_scan.specs.Callers.{Belongs, IsInTurn, IsOfConnection, IsOfServer}
use Rattle.journal_scan.specs.Lines.{is_sighter, uid_on}
use Rattle.journal_scan.specs.Loading.{ends_load, is_stop}
use Rattle.journal_scan.specs.Sightings.{IsSighting}

-- an item of a connection with a line is its Connect, or an event that a connection hands in
turn_event : (P : Event → Type 0) (past : List Item) (i : Item) (uid : ℕ) → IsInTurn past i uid → (i.entry.event ≡ Connect uid → P i.entry.event) → (IsOfConnection i.entry.event → P i.entry.event) → P i.entry.event
turn_event P past i uid turn connect other = of (any_of (is_by i.entry.caller) past) refl
  where
    of : (b : Bool) → any_of (is_by i.entry.caller) past ≡ b → P i.entry.event
    of true is = other (turn.later is)
    of false is = connect (turn.first is)

pub connects_belong : (lines : List ConnectionLine) (past : List Item) (i : Item) (uid : ℕ) → Belongs lines past i → i.entry.event ≡ Connect uid → uid_on lines i.entry.caller ≡ Some uid
connects_belong lines past i uid belongs event = of (uid_on lines i.entry.caller) refl
  where
    unlined : uid_on lines i.entry.caller ≡ None → (b : Bool) → is_sighter lines i.entry.caller ≡ b → ⊥
    unlined is true looks = let never : false ≡ true = ap is_load (sym event) ∙ (belongs.sighting is looks).load in absurd (cc (never))
    unlined is false looks = subst (IsOfServer i.entry.caller) event (belongs.unlined is looks)

    same : (u : ℕ) → i.entry.event ≡ Connect u → u ≡ uid
    same u given = cc

    of : (o : Option ℕ) → uid_on lines i.entry.caller ≡ o → uid_on lines i.entry.caller ≡ Some uid
    of None is = absurd (unlined is (is_sighter lines i.entry.caller) refl)
    of (Some u) is = is ∙ ap (λ (n : ℕ). Some n) (turn_event (λ e. u ≡ uid) past i u (belongs.lined u is) (same u) (λ of. let nothing : ⊥ = subst IsOfConnection event of in absurd nothing))

server_load : (c : ℕ) (e : Event) → IsOfServer c e → ends_load e ≡ true → c ≡ 0
server_load c (Load load) of is = of
server_load c (LoadFailed code) of is = of
server_load c (Collect by) of is = absurd (cc (is))
server_load c Stop of is = absurd (cc (is))
server_load c (Connect uid) of is = absurd of
server_load c (Called serial quiet call) of is = absurd of
server_load c (Returned serial) of is = absurd of
server_load c (AgentError serial name) of is = absurd of
server_load c Passed of is = absurd of
server_load c Depart of is = absurd of

no_load : (e : Event) → IsOfConnection e → ends_load e ≡ true → ⊥
no_load (Load load) of is = of
no_load (LoadFailed code) of is = of
no_load (Collect by) of is = of
no_load Stop of is = of
no_load (Connect uid) of is = of
no_load (Called serial quiet call) of is = absurd (cc (is))
no_load (Returned serial) of is = absurd (cc (is))
no_load (AgentError serial name) of is = absurd (cc (is))
no_load Passed of is = absurd (cc (is))
no_load Depart of is = absurd (cc (is))

no_stop : (e : Event) → IsOfConnection e → is_stop e ≡ true → ⊥
no_stop (Load load) of is = of
no_stop (LoadFailed code) of is = of
no_stop (Collect by) of is = of
no_stop Stop of is = of
no_stop (Connect uid) of is = of
no_stop (Called serial quiet call) of is = absurd (cc (is))
no_stop (Returned serial) of is = absurd (cc (is))
no_stop (AgentError serial name) of is = absurd (cc (is))
no_stop Passed of is = absurd (cc (is))
no_stop Depart of is = absurd (cc (is))

connect_no_load : (uid : ℕ) (e : Event) → e ≡ Connect uid → ends_load e ≡ true → ⊥
connect_no_load uid e event is = let never : false ≡ true = ap ends_load (sym event) ∙ is in absurd (cc (never))

connect_no_stop : (uid : ℕ) (e : Event) → e ≡ Connect uid → is_stop e ≡ true → ⊥
connect_no_stop uid e event is = let never : false ≡ true = ap is_stop (sym event) ∙ is in absurd (cc (never))

pub loads_belong : (lines : List ConnectionLine) (past : List Item) (i : Item) → Belongs lines past i → ends_load i.entry.event ≡ true → (i.entry.caller ≡ 0) ⊎ ((is_sighter lines i.entry.caller ≡ true) × IsSighting past i)
loads_belong lines past i belongs ends = of (uid_on lines i.entry.caller) refl
  where
    unlined : uid_on lines i.entry.caller ≡ None → (b : Bool) → is_sighter lines i.entry.caller ≡ b → (i.entry.caller ≡ 0) ⊎ ((is_sighter lines i.entry.caller ≡ true) × IsSighting past i)
    unlined is true looks = inr (looks, belongs.sighting is looks)
    unlined is false looks = inl (server_load i.entry.caller i.entry.event (belongs.unlined is looks) ends)

    of : (o : Option ℕ) → uid_on lines i.entry.caller ≡ o → (i.entry.caller ≡ 0) ⊎ ((is_sighter lines i.entry.caller ≡ true) × IsSighting past i)
    of None is = unlined is (is_sighter lines i.entry.caller) refl
    of (Some u) is = absurd (turn_event (λ e. ⊥) past i u (belongs.lined u is) (λ event. connect_no_load u i.entry.event event ends) (λ of. no_load i.entry.event of ends))

pub stops_belong : (lines : List ConnectionLine) (past : List Item) (i : Item) → Belongs lines past i → is_stop i.entry.event ≡ true → uid_on lines i.entry.caller ≡ None
stops_belong lines past i belongs stop = of (uid_on lines i.entry.caller) refl
  where
    of : (o : Option ℕ) → uid_on lines i.entry.caller ≡ o → uid_on lines i.entry.caller ≡ None
    of None is = is
    of (Some u) is = absurd (turn_event (λ e. ⊥) past i u (belongs.lined u is) (λ event. connect_no_stop u i.entry.event event stop) (λ of. no_stop i.entry.event of stop))
