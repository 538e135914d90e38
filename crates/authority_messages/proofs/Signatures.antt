-- The signatures that are sent.
use Rattle.std.proofs.Common.{◌≡◌, [], true, Some, refl}
use Rattle.std.specs.Prelude.{codes}
use Rattle.dbus_values.specs.Signatures.{type_end, members_end, are_types, is_signature, after_type}
use Rattle.dbus_values.specs.Trees.{IsItem}

pub ss_item : IsItem (codes "{ss}")
unfolding type_end members_end
ss_item types = refl

pub sv_item : IsItem (codes "{sv}")
unfolding type_end members_end
sv_item types = refl

pub identity_item : IsItem (codes "(sa{sv})")
unfolding type_end members_end
identity_item types = refl

pub description_item : IsItem (codes "(ssssssuuua{ss})")
unfolding type_end members_end
description_item types = refl

pub authorization_item : IsItem (codes "(ss(sa{sv})tt)")
unfolding type_end members_end
authorization_item types = refl

pub u_sig : is_signature (codes "u") ≡ true
unfolding type_end members_end are_types
u_sig = refl

pub u_one : after_type (codes "u") ≡ Some []
unfolding type_end members_end
u_one = refl

pub t_sig : is_signature (codes "t") ≡ true
unfolding type_end members_end are_types
t_sig = refl

pub t_one : after_type (codes "t") ≡ Some []
unfolding type_end members_end
t_one = refl

pub s_sig : is_signature (codes "s") ≡ true
unfolding type_end members_end are_types
s_sig = refl

pub s_one : after_type (codes "s") ≡ Some []
unfolding type_end members_end
s_one = refl

pub empty_sig : is_signature (codes "") ≡ true
unfolding type_end members_end are_types
empty_sig = refl

pub result_sig : is_signature (codes "(bba{ss})") ≡ true
unfolding type_end members_end are_types
result_sig = refl

pub descriptions_sig : is_signature (codes "a(ssssssuuua{ss})") ≡ true
unfolding type_end members_end are_types
descriptions_sig = refl

pub authorizations_sig : is_signature (codes "a(ss(sa{sv})tt)") ≡ true
unfolding type_end members_end are_types
authorizations_sig = refl

pub begin_sig : is_signature (codes "sssa{ss}sa(sa{sv})") ≡ true
unfolding type_end members_end are_types
begin_sig = refl
