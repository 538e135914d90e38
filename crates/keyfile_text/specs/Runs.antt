-- Bytes of a value that stand for themselves.
use Rattle.std.specs.Prelude.{◌≡◌, ◌≢◌, ℕ, ◌⊎◌, ◌<◌, ◌≤◌, true, false, List, [], ◌∷◌, ◌++◌, length}
use Rattle.pk_types.specs.Pieces.{onto_first}
use Rattle.keyfile_text.specs.Bytes.{IsClean}
use Rattle.keyfile_text.specs.Items.{pieces_behind}

-- a `\` (92) or a `;` (59)
abbrev pub IsSpecial : ℕ → Type 0
IsSpecial b = (b ≡ 92) ⊎ (b ≡ 59)

abbrev pub IsPlain : List ℕ → Type 0
IsPlain [] = Unit {0}
IsPlain (b ∷ bytes) = (b ≢ 92) × (b ≢ 59) × IsPlain bytes

-- Behind a `\` the item gains a byte, and the rest is read on.
pub record TakesEscape (behind rest old new : List ℕ) : Type 0 where
  pub byte : ℕ
  pub gains : new ≡ old ++ byte ∷ []
  pub pieces : pieces_behind true behind ≡ onto_first byte (pieces_behind false rest)
  pub ascii : byte < 128
  pub some : byte ≢ 0
  pub clean : IsClean behind → IsClean rest
  pub shorter : length rest ≤ length behind
