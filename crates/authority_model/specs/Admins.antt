-- Administrators, and who may answer a challenge (pklocalauthority(8), "Administrator Authentication").
use Rattle.std.specs.Prelude.{ℕ, ◌==◌, not, ◌&&◌, List, [], ◌∷◌, filter, flat_map, map}
use Rattle.std.specs.Option.{option_map_or}
use Rattle.pk_types.specs.declared.values.Identity.{Identity}
use Rattle.pk_types.specs.declared.values.Implicit.{Implicit}
use Rattle.authority_model.specs.declared.world.World.{World}
use Rattle.authority_model.specs.Lists.{any_of, without_repeats}
use Rattle.authority_model.specs.Words.{Bytes}
use Rattle.authority_model.specs.Values.{same_identity}
use Rattle.authority_model.specs.Worlds.{identity_of}

-- the users that an identity stands for: a user for itself, and a group for the users whose row lists it, other than uid 0
abbrev pub members : World → Identity → List Identity
members world (Identity.User uid) = Identity.User uid ∷ []
members world (Identity.Group gid) = map (λ u. Identity.User u.uid) (filter (λ u. not (u.uid == 0) && any_of (λ g. g == gid) u.gids) world.users)

-- the users that a word stands for; an unknown name stands for nobody
abbrev pub members_of_word : World → Bytes → List Identity
members_of_word world text = option_map_or (members world) (identity_of world text) []

-- uid 0 alone where there is nobody
abbrev pub or_root : List Identity → List Identity
or_root [] = Identity.User 0 ∷ []
or_root (i ∷ is) = i ∷ is

-- the administrators, each once and in order
abbrev pub expand : World → List Bytes → List Identity
expand world admins = or_root (without_repeats same_identity (flat_map (members_of_word world) admins))

-- who may answer a challenge of this value for this user: itself, or the administrators
abbrev pub allowed : World → List Bytes → Implicit → ℕ → List Identity
allowed world admins Implicit.AuthSelf uid = Identity.User uid ∷ []
allowed world admins Implicit.AuthSelfKeep uid = Identity.User uid ∷ []
allowed world admins Implicit.AuthAdmin uid = expand world admins
allowed world admins Implicit.AuthAdminKeep uid = expand world admins
allowed world admins Implicit.No uid = []
allowed world admins Implicit.Yes uid = []
