-- Kinds of implicit values, and identities.
use Rattle.std.specs.Prelude.{◌==◌, Bool, true, false}
use Rattle.pk_types.specs.declared.values.Identity.{Identity}
use Rattle.pk_types.specs.declared.values.Implicit.{Implicit}

-- whether a value asks for a challenge
abbrev pub is_auth : Implicit → Bool
is_auth Implicit.No = false
is_auth Implicit.AuthSelf = true
is_auth Implicit.AuthAdmin = true
is_auth Implicit.AuthSelfKeep = true
is_auth Implicit.AuthAdminKeep = true
is_auth Implicit.Yes = false

-- whether the challenge of a value makes a grant
abbrev pub is_keep : Implicit → Bool
is_keep Implicit.No = false
is_keep Implicit.AuthSelf = false
is_keep Implicit.AuthAdmin = false
is_keep Implicit.AuthSelfKeep = true
is_keep Implicit.AuthAdminKeep = true
is_keep Implicit.Yes = false

-- whether a value is yes
abbrev pub is_yes : Implicit → Bool
is_yes Implicit.No = false
is_yes Implicit.AuthSelf = false
is_yes Implicit.AuthAdmin = false
is_yes Implicit.AuthSelfKeep = false
is_yes Implicit.AuthAdminKeep = false
is_yes Implicit.Yes = true

-- whether two identities are one
abbrev pub same_identity : Identity → Identity → Bool
same_identity (Identity.User a) (Identity.User b) = a == b
same_identity (Identity.Group a) (Identity.Group b) = a == b
same_identity (Identity.User a) (Identity.Group b) = false
same_identity (Identity.Group a) (Identity.User b) = false
