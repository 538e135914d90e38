-- Who is live after one more item.
use Rattle.std.proofs.Common.{◌≡◌, ℕ, Bool, true, false, ◌&&◌, ◌||◌, not, List, [], ◌∷◌, refl, ap, Option, Some, None, is_some}
use Rattle.authority_model.specs.declared.journal.Item.{Item}
use Rattle.authority_model.specs.Lists.{or_else}
use Rattle.authority_model.specs.Peers.{live, uid_of, departed, connects, departs}

-- who never connected has not departed
pub departed_connected : (past : List Item) (c : ℕ) → uid_of past c ≡ None → departed past c ≡ false
departed_connected [] c e = refl
departed_connected (i ∷ past) c e = go (uid_of past c) refl e (departed_connected past c)
  where
    go : (u : Option ℕ) → uid_of past c ≡ u → or_else u (connects c i) ≡ None → (uid_of past c ≡ None → departed past c ≡ false) → (departed past c || (is_some u && departs c i)) ≡ false
    go None is e ih = ap (λ b. b || false) (ih is)
    go (Some uid) is e ih = absurd (cc)

-- Live after one more item: live before and not departing, or connecting for the first time.
pub live_step : (past : List Item) (i : Item) (c : ℕ) → live (i ∷ past) c ≡ ((live past c && not (departs c i)) || (not (is_some (uid_of past c)) && is_some (connects c i)))
live_step past i c = go (uid_of past c) (departed past c) (connects c i) (departs c i) (departed_connected past c)
  where
    go : (u : Option ℕ) (d : Bool) (n : Option ℕ) (g : Bool) → (u ≡ None → d ≡ false)
        → (is_some (or_else u n) && not (d || (is_some u && g))) ≡ ((is_some u && not d && not g) || (not (is_some u) && is_some n))
    go None false None g h = refl
    go None false (Some m) g h = refl
    go None true n g h = absurd (cc (h refl))
    go (Some u) false n true h = refl
    go (Some u) false n false h = refl
    go (Some u) true n g h = refl
