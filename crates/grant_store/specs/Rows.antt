-- The temporary authorizations as rows.
use Rattle.std.specs.Prelude.{◌≡◌, ℕ, ◌<◌, Bool, true, List, find, drop}
use Rattle.std.specs.List.Sorted.{IsNonDecreasingBy}
use Rattle.authority_model.specs.declared.verdict.GrantRow.{GrantRow}

-- the temporary authorizations in their order, and for how many more there is room
pub record Rows : Type 0 where
  pub items : List GrantRow
  pub room : ℕ

-- they expire in their order
abbrev pub AreInTurn : List GrantRow → Type 0
AreInTurn items = IsNonDecreasingBy (λ g. g.expires) items

-- a search for what has not expired at a moment finds the same from a place on as from the start
abbrev pub HasExpiredBefore : ℕ → List GrantRow → ℕ → Type 0
HasExpiredBefore moment items n = (test : GrantRow → Bool) → ((g : GrantRow) → test g ≡ true → moment < g.expires) → find test (drop n items) ≡ find test items
