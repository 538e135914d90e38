-- How identities are added, each once.
use Rattle.std.specs.Prelude.{ℕ, ◌==◌, not, ◌&&◌, if◌then◌else◌, List, [], ◌∷◌, ◌++◌}
use Rattle.pk_types.specs.declared.values.Identity.{Identity}
use Rattle.authority_model.specs.declared.world.User.{User as UserRow}
use Rattle.authority_model.specs.Lists.{any_of}
use Rattle.authority_model.specs.Values.{same_identity}

-- the identities with one more at the end, unless it is among them
abbrev pub added : List Identity → Identity → List Identity
added found identity = if any_of (λ i. same_identity i identity) found then found else found ++ identity ∷ []

-- the user of a row for whom a group stands
abbrev pub member_of : ℕ → UserRow → List Identity
member_of gid user = if not (user.uid == 0) && any_of (λ g. g == gid) user.gids then Identity.User user.uid ∷ [] else []
