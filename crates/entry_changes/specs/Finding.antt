-- How challenges are found in a list of them.
use Rattle.std.specs.Prelude.{ℕ, ◌==◌, Bool, ◌&&◌, if◌then◌else◌, List, Option, None, bytes_eq, find}
use Rattle.pk_types.specs.Decimals.{is_empty}
use Rattle.authority_model.specs.declared.pending.Pending.{Pending}
use Rattle.authority_model.specs.Words.{Bytes}
use Rattle.authority_model.specs.Cookies.{cookie_text}

-- whether the Begin of a challenge was sent to this connection with this serial
abbrev pub is_sent : ℕ → ℕ → Pending → Bool
is_sent c s ch = (ch.agent == c) && (ch.agent_serial == s)

-- whether a challenge is of a connection's check with this cancellation id
abbrev pub has_id : ℕ → Bytes → Pending → Bool
has_id c id ch = (ch.asker == c) && bytes_eq ch.cancel id

-- the first of these challenges that is of a connection's check with this cancellation id, which is not empty
abbrev pub named : ℕ → Bytes → List Pending → Option Pending
named c id items = if is_empty id then None else find (has_id c id) items

-- whether a challenge is of a check of this user
abbrev pub is_of_user : ℕ → Pending → Bool
is_of_user uid ch = ch.asker_uid == uid

-- the challenge of a cookie with this text
abbrev pub with_cookie : Bytes → List Pending → Option Pending
with_cookie cookie items = find (λ ch. bytes_eq (cookie_text ch.cookie) cookie) items
