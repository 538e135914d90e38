-- Who may ask about whom.
use Rattle.std.specs.Prelude.{ℕ, ◌==◌, Bool, false, ◌||◌, List, [], ◌∷◌, codes}
use Rattle.std.specs.Option.{option_map_or}
use Rattle.pk_types.specs.declared.values.Identity.{Identity}
use Rattle.pk_types.specs.declared.values.Pair.{Pair}
use Rattle.authority_model.specs.declared.policy.Action.{Action}
use Rattle.authority_model.specs.declared.world.World.{World}
use Rattle.authority_model.specs.Lists.{any_of}
use Rattle.authority_model.specs.Words.{Bytes, words}
use Rattle.authority_model.specs.Worlds.{identity_of, user_row}
use Rattle.authority_model.specs.Facts.{Facts}
use Rattle.authority_model.specs.Rules.{action_of, annotation}
use Rattle.authority_model.specs.Items.{Item, world_of, policy_of}
use Rattle.authority_model.specs.Peers.{is_root, may_for, uid_of}

-- the annotation that names an action's owners
abbrev pub owner_key : Bytes
owner_key = codes "org.freedesktop.policykit.owner"

-- whether an identity covers a user: a user itself, and a group the users whose row lists it
abbrev pub covers : World → ℕ → Identity → Bool
covers world uid (Identity.User own) = own == uid
covers world uid (Identity.Group gid) = option_map_or (λ u. any_of (λ g. g == gid) u.gids) (user_row world uid) false

-- whether the owners of an action cover a user; a word that names nobody covers nobody
abbrev pub owns : World → ℕ → Action → Bool
owns world uid a = option_map_or (λ text. any_of (λ w. option_map_or (covers world uid) (identity_of world w) false) (words text)) (annotation a owner_key) false

-- whether the owners of the action of an id cover a caller
abbrev pub owner : List Item → ℕ → Bytes → Bool
owner past c action = option_map_or (λ uid. option_map_or (owns (world_of past) uid) (action_of (policy_of past) action) false) (uid_of past c) false

-- Whether a caller may ask about a subject of these facts, with these details: about its own user's subjects without details anyone may, and beyond that only uid 0 and the action's owners.
abbrev pub trusted : List Item → ℕ → Facts → List Pair → Bytes → Bool
trusted past c f [] action = may_for past c f.uid || owner past c action
trusted past c f (d ∷ ds) action = is_root past c || owner past c action
