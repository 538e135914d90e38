-- What the row of a connection says of it: whether it is live, whether it is uid 0, and for whom it may speak.
use Rattle.std.proofs.Common.{◌≡◌, ℕ, ◌==◌, ◌&&◌, ◌||◌, Bool, true, false, not, List, refl, ap, sym, ◌∙◌, Option, Some, None}
use Rattle.std.specs.Prelude.{if◌then◌else◌, is_some, option_map, MatchOption}
use Rattle.std.specs.Option.{option_map_or}
use Rattle.authority_model.specs.declared.journal.Item.{Item}
use Rattle.entry_changes.specs.declared.peer.Peer.{Peer}
use Rattle.entry_changes.specs.Known.{known}
use Rattle.authority_model.specs.Peers.{live, is_root, may_for, uid_of, departed, last_announced}
use Rattle.journal_view.specs.Seen.{Seen, IsSeenOf}
use Rattle.event_answers.specs.Asked.{IsLivePeer, if_present}

known_parts : (past : List Item) (c : ℕ) (p : Peer) → known past c ≡ Some p → (uid_of past c ≡ Some p.uid) × (departed past c ≡ p.departed)
known_parts past c p = of (uid_of past c)
  where
    of : (o : Option ℕ) → option_map (λ uid. record { uid = uid; departed = departed past c; announced = last_announced past c }) o ≡ Some p → (o ≡ Some p.uid) × (departed past c ≡ p.departed)
    of None e = absurd (cc)
    of (Some uid) e =
        let same : record { uid = uid; departed = departed past c; announced = last_announced past c } ≡ p = cc in
        (ap (λ (q : Peer). Some q.uid) same, ap (λ (q : Peer). q.departed) same)

module _ (past : List Item) (c : ℕ) (p : Peer) (is : IsLivePeer past c p) where
  -- it is live
  pub live_is : live past c ≡ true
  live_is = let parts = known_parts past c p is.known in ap (λ o. is_some o && not (departed past c)) parts.0 ∙ ap not (parts.1 ∙ is.present)

  -- whether it is uid 0
  pub root_is : (p.uid == 0) ≡ is_root past c
  root_is = sym (ap (λ o. option_map_or (λ own. own == 0) o false) (known_parts past c p is.known).0)

  -- for whom it may speak
  pub may_is : (uid : ℕ) → ((p.uid == uid) || (p.uid == 0)) ≡ may_for past c uid
  may_is uid = sym (ap (λ o. option_map_or (λ own. (own == uid) || (own == 0)) o false) (known_parts past c p is.known).0)

  -- its uid
  pub uid_is : uid_of past c ≡ Some p.uid
  uid_is = (known_parts past c p is.known).0

-- whether a connection is live, by its row
live_by : (past : List Item) (c : ℕ) → option_map_or (λ p. not p.departed) (known past c) false ≡ live past c
live_by past c = of (uid_of past c)
  where
    of : (o : Option ℕ) → option_map_or (λ (p : Peer). not p.departed) (option_map (λ uid. record { uid = uid; departed = departed past c; announced = last_announced past c }) o) false ≡ (is_some o && not (departed past c))
    of None = refl
    of (Some uid) = refl

pub live_seen : (past : List Item) (s : Seen) (c : ℕ) → IsSeenOf past s → option_map_or (λ p. not p.departed) (s.peer c) false ≡ live past c
live_seen past s c is = ap (λ (o : Option Peer). option_map_or (λ p. not p.departed) o false) (is.peers_are c) ∙ live_by past c

-- the row of a live connection
pub present_is : (past : List Item) (s : Seen) (c : ℕ) → IsSeenOf past s → MatchOption (if_present (s.peer c)) (live past c ≡ false) (IsLivePeer past c)
present_is past s c is = of (s.peer c) refl
  where
    known_is : (o : Option Peer) → s.peer c ≡ o → known past c ≡ o
    known_is o e = sym (is.peers_are c) ∙ e

    live_is_by : (o : Option Peer) → s.peer c ≡ o → option_map_or (λ p. not p.departed) o false ≡ live past c
    live_is_by o e = ap (λ (o : Option Peer). option_map_or (λ p. not p.departed) o false) (sym (known_is o e)) ∙ live_by past c

    of_row : (p : Peer) → s.peer c ≡ Some p → (b : Bool) → p.departed ≡ b → MatchOption (if b then None else Some p) (live past c ≡ false) (IsLivePeer past c)
    of_row p e true gone = sym (live_is_by (Some p) e) ∙ ap not gone
    of_row p e false here = record { known = known_is (Some p) e; present = here }

    of : (o : Option Peer) → s.peer c ≡ o → MatchOption (if_present o) (live past c ≡ false) (IsLivePeer past c)
    of None e = sym (live_is_by None e)
    of (Some p) e = of_row p e p.departed refl
