-- Grants: which were made, and which of them nothing ended.
use Rattle.std.specs.Prelude.{ℕ, ◌+◌, Bool, false, not, ◌&&◌, ◌||◌, List, [], ◌∷◌, ◌++◌, Option, Some, None, option_map, option_and_then, option_to_list, bytes_eq, find, filter, length}
use Rattle.std.specs.Option.{option_map_or}
use Rattle.authority_model.specs.declared.event.Call.{Call}
use Rattle.authority_model.specs.declared.event.Event.{Event}
use Rattle.authority_model.specs.declared.event.Event.TheVariants.{Returned}
use Rattle.authority_model.specs.declared.key.Key.{Key}
use Rattle.authority_model.specs.declared.verdict.GrantRow.{GrantRow}
use Rattle.authority_model.specs.declared.pending.Pending.{Pending}
use Rattle.authority_model.specs.declared.verdict.TheConstants.{GRANT_SECONDS}
use Rattle.authority_model.specs.Words.{Bytes}
use Rattle.authority_model.specs.Keys.{same_key, uid_of_key}
use Rattle.authority_model.specs.Items.{Item}
use Rattle.authority_model.specs.Peers.{live, may_for, call_in}
use Rattle.authority_model.specs.Subjects.{key_of}
use Rattle.authority_model.specs.Agents.{unlists}
use Rattle.authority_model.specs.Cookies.{grant_text}
use Rattle.authority_model.specs.Challenges.{at_agent}
use Rattle.authority_model.specs.Deciding.{serves}
use Rattle.authority_model.specs.Verdicts.{return_verdict}

-- the serial that a return replies to
abbrev pub serial_returned : Event → Option ℕ
serial_returned (Returned serial) = Some serial
serial_returned _ = None

-- the pending challenge that an item, as a return, closes
abbrev pub returned : List Item → Item → Option Pending
returned past i = option_and_then (at_agent past i.entry.caller) (serial_returned i.entry.event)

-- the row of the grant that a challenge makes at a moment, for as long as grants live
abbrev pub grant_row : Pending → ℕ → ℕ → GrantRow
grant_row ch t n = record { id = n; action = ch.action; key = ch.key; obtained = t; expires = t + GRANT_SECONDS }

-- the grant that the return of a challenge makes, with these grants and the number that it would have
abbrev pub made_by : List Item → List GrantRow → ℕ → ℕ → Pending → Option GrantRow
made_by past grants n t ch = option_map (grant_row ch t) (return_verdict past grants n t ch).grant

-- the grant that an item makes
abbrev pub makes : List Item → List GrantRow → ℕ → Item → Option GrantRow
makes past grants n i = option_and_then (made_by past grants n i.entry.moment) (returned past i)

-- whether a call revokes a grant: by its number, or all of its key
abbrev pub revoke_of : List Item → GrantRow → Call → Bool
revoke_of past g (Call.RevokeOne id) = bytes_eq id (grant_text g.id)
revoke_of past g (Call.RevokeAll subject) = option_map_or (same_key g.key) (key_of past subject) false
revoke_of past g _ = false

-- whether an item revokes a grant: its caller is live, and the grant is its user's or it is uid 0
abbrev pub revokes : List Item → GrantRow → Item → Bool
revokes past g i = live past i.entry.caller && may_for past i.entry.caller (uid_of_key g.key) && option_map_or (revoke_of past g) (call_in i.entry.event) false

-- whether an item ends a grant: it revokes it, or it is a load that does not list its key
abbrev pub ends_grant : List Item → GrantRow → Item → Bool
ends_grant past g i = revokes past g i || unlists g.key i

-- The grants that no item ended, by rising number, and how many were ever made.
pub record Grants : Type 0 where
  pub rows : List GrantRow
  pub count : ℕ

-- the grants after one more item, which makes this one
abbrev pub grants_after : List Item → Item → Grants → Option GrantRow → Grants
grants_after past i g new = record { rows = filter (λ r. not (ends_grant past r i)) g.rows ++ option_to_list new; count = g.count + length (option_to_list new) }

-- the grants after a history
abbrev pub grants : List Item → Grants
grants [] = record { rows = []; count = 0 }
grants (i ∷ past) = grants_after past i (grants past) (makes past (grants past).rows (grants past).count i)

-- the grants that nothing ended, by rising number; some of them may have expired
abbrev pub kept : List Item → List GrantRow
kept past = (grants past).rows

-- how many grants were made
abbrev pub made : List Item → ℕ
made past = (grants past).count

-- the grant that the next item makes
abbrev pub granted : List Item → Item → Option GrantRow
granted past i = makes past (kept past) (made past) i

-- the least grant that is live for a key and an action at a moment
abbrev pub live_grant : List Item → Key → Bytes → ℕ → Option GrantRow
live_grant past key action t = find (serves key action t) (kept past)
