-- The values that the authority sends: the structures of the reference manual, as values of the D-Bus type system.
use Rattle.std.specs.Prelude.{ℕ, Bool, if◌then◌else◌, List, [], ◌∷◌, map, codes}
use Rattle.std.specs.Option.{unwrap_or}
use Rattle.pk_types.specs.declared.values.Identity.{Identity}
use Rattle.pk_types.specs.declared.values.Pair.{Pair}
use Rattle.pk_types.specs.Values.{code_of_implicit}
use Rattle.dbus_values.specs.Trees.{Tree, Trees, none, more, Number, Text, Array, Struct, Entry, Variant}
use Rattle.authority_model.specs.declared.key.Key.{Key}
use Rattle.authority_model.specs.declared.policy.Action.{Action}
use Rattle.authority_model.specs.declared.policy.Localized.{Localized}
use Rattle.authority_model.specs.declared.verdict.GrantRow.{GrantRow}
use Rattle.authority_model.specs.declared.verdict.Verdict.{Verdict}
use Rattle.authority_model.specs.Words.{Bytes}
use Rattle.authority_model.specs.Cookies.{grant_text}
use Rattle.authority_model.specs.Details.{details_of}
use Rattle.authority_model.specs.Locales.{localized_text}

-- STRING, BOOLEAN, UINT32 and UINT64
abbrev pub string : Bytes → Tree
string text = Text 115 text

abbrev pub boolean : Bool → Tree
boolean b = Number 98 (if b then 1 else 0)

abbrev pub uint32 : ℕ → Tree
uint32 n = Number 117 n

abbrev pub uint64 : ℕ → Tree
uint64 n = Number 116 n

-- values one after the other
abbrev pub row : List Tree → Trees
row [] = none
row (t ∷ ts) = more t (row ts)

-- STRUCT, and ARRAY with the signature of its items
abbrev pub struct : List Tree → Tree
struct members = Struct (row members)

abbrev pub array : Bytes → List Tree → Tree
array of items = Array of (row items)

-- pairs are a dictionary `a{ss}`
abbrev pub pair : Pair → Tree
pair p = Entry (string p.key) (string p.value)

abbrev pub pairs : List Pair → Tree
pairs ps = array (codes "{ss}") (map pair ps)

-- an entry of a dictionary `a{sv}`
abbrev pub keyed : Bytes → Tree → Tree
keyed key value = Entry (string key) (Variant value)

-- a kind, and what it is known by: `(sa{sv})`
abbrev pub known_by : Bytes → List Tree → Tree
known_by kind entries = struct (string kind ∷ array (codes "{sv}") entries ∷ [])

-- Subject; a key's user is not told
abbrev pub subject : Key → Tree
subject (Key.Process pid start uid) = known_by (codes "unix-process") (keyed (codes "pid") (uint32 pid) ∷ keyed (codes "start-time") (uint64 start) ∷ [])
subject (Key.Session id uid) = known_by (codes "unix-session") (keyed (codes "session-id") (string id) ∷ [])

-- Identity
abbrev pub identity : Identity → Tree
identity (Identity.User uid) = known_by (codes "unix-user") (keyed (codes "uid") (uint32 uid) ∷ [])
identity (Identity.Group gid) = known_by (codes "unix-group") (keyed (codes "gid") (uint32 gid) ∷ [])

-- AuthorizationResult, `(bba{ss})`
abbrev pub authorization_result : Verdict → Tree
authorization_result v = struct (boolean v.yes ∷ boolean v.challenge ∷ pairs (details_of v) ∷ [])

-- the text for a locale, and the empty text where there is none
abbrev pub text_for : Bytes → List Localized → Bytes
text_for locale texts = unwrap_or (localized_text texts locale) []

-- ActionDescription, `(ssssssuuua{ss})`
abbrev pub description : Bytes → Action → Tree
description locale a = struct (string a.id ∷ string (text_for locale a.descriptions) ∷ string (text_for locale a.messages) ∷ string a.vendor ∷ string a.vendor_url ∷ string a.icon
    ∷ uint32 (code_of_implicit a.any) ∷ uint32 (code_of_implicit a.inactive) ∷ uint32 (code_of_implicit a.active) ∷ pairs a.annotations ∷ [])

-- TemporaryAuthorization, `(ss(sa{sv})tt)`
abbrev pub authorization : GrantRow → Tree
authorization g = struct (string (grant_text g.id) ∷ string g.action ∷ subject g.key ∷ uint64 g.obtained ∷ uint64 g.expires ∷ [])
