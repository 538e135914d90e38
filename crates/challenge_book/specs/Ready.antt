-- What a change needs to be carried out without memory.
use Rattle.std.specs.Prelude.{◌≡◌, ℕ, ◌<◌, ⊤, Bool, true, false, Option, Some, None, string_bytes}
use Rattle.std.specs.Cow.{cow_slice_items}
use Rattle.authority_model.specs.declared.pending.Pending.{Pending}
use Rattle.entry_changes.specs.declared.change.ChallengeChange.{ChallengeChange}
use Rattle.authority_model.specs.Cookies.{cookie_text}
use Rattle.challenge_book.specs.declared.filed.RowKeys.{RowKeys}

-- whether a change opens a challenge
abbrev pub opens : ChallengeChange → Bool
opens (ChallengeChange.Begun row) = true
opens _ = false

-- the texts are those that the challenge is indexed by
pub record AreKeysOf (row : Pending) (keys : RowKeys) : Type 0 where
  pub text : string_bytes keys.cookie_text ≡ cookie_text row.cookie
  pub cookie : cow_slice_items keys.cookie ≡ cookie_text row.cookie
  pub cancel : cow_slice_items keys.cancel ≡ row.cancel

-- the texts are there, and are those that the challenge is indexed by
abbrev pub HasKeys : Pending → Option RowKeys → Type 0
HasKeys row None = ⊥
HasKeys row (Some keys) = AreKeysOf row keys

-- there is room and there are texts for the challenge that a change opens; any other change needs neither
abbrev pub IsReadyFor : ℕ → ChallengeChange → Option RowKeys → Type 0
IsReadyFor room (ChallengeChange.Begun row) keys = (0 < room) × HasKeys row keys
IsReadyFor room _ keys = ⊤
