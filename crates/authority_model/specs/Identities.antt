-- Why a text names no identity.
use Rattle.std.specs.Prelude.{◌==◌, Bool, not, ◌||◌, if◌then◌else◌, Option, Some, None, is_some, codes, bytes_eq}
use Rattle.std.specs.List.{before_first}
use Rattle.authority_model.specs.declared.world.World.{World}
use Rattle.authority_model.specs.declared.identities.IdentityFault.{IdentityFault}
use Rattle.authority_model.specs.Lists.{any_of}
use Rattle.authority_model.specs.Words.{Bytes}
use Rattle.authority_model.specs.Worlds.{identity_of}

-- whether a word is a kind of identity
abbrev pub is_kind : Bytes → Bool
is_kind word = bytes_eq word (codes "unix-user") || bytes_eq word (codes "unix-group")

-- why a text names no identity of a world: it has no colon, or another word stands before the first one, or the word behind it names nobody
abbrev pub identity_fault : World → Bytes → Option IdentityFault
identity_fault world text =
    if not (any_of (λ b. b == 58) text) then Some IdentityFault.NoColon
    else if not (is_kind (before_first (λ b. b == 58) text)) then Some IdentityFault.Kind
    else if is_some (identity_of world text) then None
    else Some IdentityFault.Unknown
