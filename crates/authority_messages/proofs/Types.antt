-- The types of values with cases.
use Rattle.std.proofs.Common.{◌≡◌, [], ◌∷◌, ◌++◌, refl, ap}
use Rattle.std.specs.Prelude.{codes}
use Rattle.pk_types.specs.declared.values.Identity.{Identity}
use Rattle.dbus_values.specs.Trees.{type_of}
use Rattle.authority_model.specs.declared.key.Key.{Key}
use Rattle.authority_model.specs.declared.verdict.GrantRow.{GrantRow}
use Rattle.authority_model.specs.Words.{Bytes}
use Rattle.authority_messages.specs.Values.{subject, identity, authorization}

subject_type : (k : Key) → type_of (subject k) ≡ codes "(sa{sv})"
subject_type (Key.Process pid start uid) = refl
subject_type (Key.Session id uid) = refl

pub identity_type : (i : Identity) → type_of (identity i) ≡ codes "(sa{sv})"
identity_type (Identity.User uid) = refl
identity_type (Identity.Group gid) = refl

pub authorization_type : (g : GrantRow) → type_of (authorization g) ≡ codes "(ss(sa{sv})tt)"
authorization_type g = ap (λ (s : Bytes). 40 ∷ ((codes "ss" ++ (s ++ codes "tt")) ++ 41 ∷ [])) (subject_type g.key)
