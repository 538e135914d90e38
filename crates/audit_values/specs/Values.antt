-- The values of actions, subjects and identities.
use Rattle.std.specs.Prelude.{ℕ, List, [], ◌∷◌, codes}
use Rattle.pk_types.specs.declared.values.Pair.{Pair}
use Rattle.pk_types.specs.declared.values.Subject.{Subject}
use Rattle.pk_types.specs.declared.values.Subject.TheVariants as subject_is
use Rattle.pk_types.specs.declared.values.Identity.{Identity}
use Rattle.pk_types.specs.declared.values.Identity.TheVariants as identity_is
use Rattle.pk_types.specs.declared.values.Implicit.{Implicit}
use Rattle.pk_types.specs.declared.values.Implicit.TheVariants as implicit_is
use Rattle.pk_types.specs.declared.values.Category.{Category}
use Rattle.pk_types.specs.declared.values.Category.TheVariants as category_is
use Rattle.audit_words.specs.Codecs.{Codec, Shape, shape, made, Spelled, named, Case, case, cases, name_among, number, ◌&◌}
use Rattle.audit_words.specs.Escapes.{text}

abbrev pub pair_shape : Shape Pair
pair_shape = shape (text & text)
    (λ p. record { key = p.0; value = p.1 })
    (λ v. (v.key, v.value))

abbrev pub pair : Codec Pair
pair = made pair_shape

abbrev pub subject_spelled : Subject → Spelled
subject_spelled (subject_is.Process pid start) = named (codes "Process") (number 32 & number 64) (pid, start)
subject_spelled (subject_is.Session id) = named (codes "Session") text id
subject_spelled (subject_is.BusName name) = named (codes "BusName") text name

abbrev pub subject_cases : List (Case Subject)
subject_cases = case (codes "Process") (number 32 & number 64) (λ p. subject_is.Process p.0 p.1)
    ∷ case (codes "Session") text (λ p. subject_is.Session p)
    ∷ case (codes "BusName") text (λ p. subject_is.BusName p)
    ∷ []

abbrev pub subject : Codec Subject
subject = cases subject_spelled subject_cases

abbrev pub identity_spelled : Identity → Spelled
identity_spelled (identity_is.User n) = named (codes "User") (number 32) n
identity_spelled (identity_is.Group n) = named (codes "Group") (number 32) n

abbrev pub identity_cases : List (Case Identity)
identity_cases = case (codes "User") (number 32) (λ p. identity_is.User p)
    ∷ case (codes "Group") (number 32) (λ p. identity_is.Group p)
    ∷ []

abbrev pub identity : Codec Identity
identity = cases identity_spelled identity_cases

abbrev pub implicit_name : Implicit → List ℕ
implicit_name implicit_is.No = codes "No"
implicit_name implicit_is.AuthSelf = codes "AuthSelf"
implicit_name implicit_is.AuthAdmin = codes "AuthAdmin"
implicit_name implicit_is.AuthSelfKeep = codes "AuthSelfKeep"
implicit_name implicit_is.AuthAdminKeep = codes "AuthAdminKeep"
implicit_name implicit_is.Yes = codes "Yes"

abbrev pub implicit_names : List (List ℕ × Implicit)
implicit_names = (codes "No", implicit_is.No)
    ∷ (codes "AuthSelf", implicit_is.AuthSelf)
    ∷ (codes "AuthAdmin", implicit_is.AuthAdmin)
    ∷ (codes "AuthSelfKeep", implicit_is.AuthSelfKeep)
    ∷ (codes "AuthAdminKeep", implicit_is.AuthAdminKeep)
    ∷ (codes "Yes", implicit_is.Yes)
    ∷ []

abbrev pub implicit : Codec Implicit
implicit = name_among implicit_name implicit_names

abbrev pub category_name : Category → List ℕ
category_name category_is.Any = codes "Any"
category_name category_is.Inactive = codes "Inactive"
category_name category_is.Active = codes "Active"

abbrev pub category_names : List (List ℕ × Category)
category_names = (codes "Any", category_is.Any)
    ∷ (codes "Inactive", category_is.Inactive)
    ∷ (codes "Active", category_is.Active)
    ∷ []

abbrev pub category : Codec Category
category = name_among category_name category_names
