-- The methods of the authority, and which of them a call asks for.
use Rattle.std.specs.Prelude.{◌&&◌, Bool, List, [], ◌∷◌, Option, Some, None, find, codes}
use Rattle.std.specs.Str.{bytes_eq}
use Rattle.authority_model.specs.Words.{Bytes}
use Rattle.authority_calls.specs.declared.methods.TheConstants.{AUTHORITY, PROFILE}
use Rattle.authority_calls.specs.declared.methods.Method.{Method}
use Rattle.authority_calls.specs.declared.methods.Method.TheVariants as method
use Rattle.authority_calls.specs.declared.methods.MethodRow.{MethodRow}

-- a method's interface and member, and the signatures of its arguments and of its reply
pub record Row : Type 0 where
  pub interface : Bytes
  pub name : Bytes
  pub takes : Bytes
  pub gives : Bytes

abbrev pub row_seen : MethodRow → Row
row_seen r = record { interface = r.interface.now; name = r.name.now; takes = r.takes.now; gives = r.gives.now }

-- a method of the interface of the reference manual, and one of this project's own interface
abbrev pub manual : Bytes → Bytes → Bytes → Row
manual name takes gives = record { interface = AUTHORITY.now; name = name; takes = takes; gives = gives }

abbrev pub own : Bytes → Bytes → Bytes → Row
own name takes gives = record { interface = PROFILE.now; name = name; takes = takes; gives = gives }

-- the table of the methods
abbrev pub row_of : Method → Row
row_of method.CheckAuthorization = manual (codes "CheckAuthorization") (codes "(sa{sv})sa{ss}us") (codes "(bba{ss})")
row_of method.CancelCheckAuthorization = manual (codes "CancelCheckAuthorization") (codes "s") []
row_of method.RegisterAuthenticationAgent = manual (codes "RegisterAuthenticationAgent") (codes "(sa{sv})ss") []
row_of method.UnregisterAuthenticationAgent = manual (codes "UnregisterAuthenticationAgent") (codes "(sa{sv})s") []
row_of method.AuthenticationAgentResponse = manual (codes "AuthenticationAgentResponse") (codes "s(sa{sv})") []
row_of method.EnumerateActions = manual (codes "EnumerateActions") (codes "s") (codes "a(ssssssuuua{ss})")
row_of method.EnumerateTemporaryAuthorizations = manual (codes "EnumerateTemporaryAuthorizations") (codes "(sa{sv})") (codes "a(ss(sa{sv})tt)")
row_of method.RevokeTemporaryAuthorizations = manual (codes "RevokeTemporaryAuthorizations") (codes "(sa{sv})") []
row_of method.RevokeTemporaryAuthorizationById = manual (codes "RevokeTemporaryAuthorizationById") (codes "s") []
row_of method.Announce = own (codes "Announce") (codes "ut") (codes "s")
row_of method.Reload = own (codes "Reload") [] []

abbrev pub methods : List Method
methods = method.CheckAuthorization ∷ method.CancelCheckAuthorization ∷ method.RegisterAuthenticationAgent ∷ method.UnregisterAuthenticationAgent ∷ method.AuthenticationAgentResponse
    ∷ method.EnumerateActions ∷ method.EnumerateTemporaryAuthorizations ∷ method.RevokeTemporaryAuthorizations ∷ method.RevokeTemporaryAuthorizationById ∷ method.Announce ∷ method.Reload ∷ []

-- whether a call of this interface and this member asks for a method; without an interface, by its member alone
abbrev pub is_asked : Option Bytes → Bytes → Method → Bool
is_asked None member m = bytes_eq (row_of m).name member
is_asked (Some interface) member m = bytes_eq (row_of m).interface interface && bytes_eq (row_of m).name member

-- the method that a call asks for
abbrev pub method_named : Option Bytes → Bytes → Option Method
method_named interface member = find (is_asked interface member) methods
