-- Who registered an agent in force may speak for the user of its key.
use Rattle.std.proofs.Common.{◌≡◌, ℕ, ◌==◌, true, false, ◌||◌, not, List, [], ◌∷◌, refl, ap, ◌∙◌, inl, inr, ◌⊎◌, Option, Some, None}
use Rattle.std.specs.Prelude.{filter, option_to_list}
use Rattle.std.specs.Option.{option_map_or}
use Rattle.authority_model.specs.declared.journal.Item.{Item}
use Rattle.authority_model.specs.declared.pending.Agent.{Agent}
use Rattle.authority_model.specs.Lists.{Has, or_else}
use Rattle.authority_model.specs.Keys.{uid_of_key}
use Rattle.authority_model.specs.Peers.{may_for, uid_of, connects}
use Rattle.authority_model.specs.Agents.{in_force, registers, ends}
use Rattle.authority_model.proofs.Cases.{append_has, filter_has}
use Rattle.authority_laws.proofs.AgentsBack.{registers_is}

-- a connection that may speak for a user goes on to
pub may_stays : (past : List Item) (i : Item) (c uid : ℕ) → may_for past c uid ≡ true → may_for (i ∷ past) c uid ≡ true
may_stays past i c uid may = of (uid_of past c) may
  where
    of : (o : Option ℕ) → option_map_or (λ own. (own == uid) || (own == 0)) o false ≡ true → option_map_or (λ own. (own == uid) || (own == 0)) (or_else o (connects c i)) false ≡ true
    of None e = absurd (cc)
    of (Some own) e = e

-- the connection of an agent in force may speak for the user of its key
pub agents_may : (past : List Item) (a : Agent) → Has (in_force past) a → may_for past a.caller (uid_of_key a.key) ≡ true
agents_may [] a h = absurd h
agents_may (i ∷ past) a h = of (agents_may past a) (append_has (filter (λ a. not (ends past a i)) (in_force past)) (option_to_list (registers past (in_force past) i)) a h)
  where
    made : registers past (in_force past) i ≡ Some a → may_for (i ∷ past) a.caller (uid_of_key a.key) ≡ true
    made e = may_stays past i a.caller (uid_of_key a.key) (registers_is past i a e).may

    new : (o : Option Agent) → registers past (in_force past) i ≡ o → Has (option_to_list o) a → may_for (i ∷ past) a.caller (uid_of_key a.key) ≡ true
    new None e h = absurd h
    new (Some b) e (inl same) = made (e ∙ ap Some same)
    new (Some b) e (inr h) = absurd h

    of : (Has (in_force past) a → may_for past a.caller (uid_of_key a.key) ≡ true) → Has (filter (λ a. not (ends past a i)) (in_force past)) a ⊎ Has (option_to_list (registers past (in_force past) i)) a → may_for (i ∷ past) a.caller (uid_of_key a.key) ≡ true
    of ih (inl h) = may_stays past i a.caller (uid_of_key a.key) (ih (filter_has (λ a. not (ends past a i)) (in_force past) a h).0)
    of ih (inr h) = new (registers past (in_force past) i) refl h
