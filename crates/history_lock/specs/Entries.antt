-- The entries of one caller in a history, and how a history grows.
use Rattle.std.specs.Prelude.{◌==◌, ◌≡◌, ◌≢◌, ℕ, suc, ◌<◌, ◌⊎◌, List, [], ◌∷◌, ◌++◌, Option, Some, All, filter}
use mathlib.Core.Option.{some}
use lib.ListN.{get_elem?}

module _ {I : Type 0} (caller_of : I → ℕ) where
  -- the entries of the caller n, in their order
  abbrev pub entries_by : ℕ → List I → List I
  entries_by n history = filter (λ entry. caller_of entry == n) history

  -- no entry is by the caller n
  abbrev pub NoneBy : ℕ → List I → Type 0
  NoneBy n history = All (λ entry. caller_of entry ≢ n) history

  -- The history went from h to more, by entries of others than the caller n.
  pub record GrownByOthers (n : ℕ) (h more : List I) : Type 0 where
    -- the entries that came
    pub between : List I
    -- they came behind h
    pub grown : more ≡ h ++ between
    -- none of them is by n
    pub others : NoneBy n between

  -- The history went from h to more, by entries of others than the caller n, and then by the entry e of n.
  pub record Grown (h more : List I) (n : ℕ) (e : I) : Type 0 where
    -- the history that stood when e came
    pub before : List I
    -- others' entries came before it
    pub others : GrownByOthers n h before
    -- it came last
    pub grown : more ≡ before ++ e ∷ []
    -- it is by n
    pub by : caller_of e ≡ n

  -- The callers of all entries have numbers below m.
  abbrev pub CallersBelow : List I → ℕ → Type 0
  CallersBelow history m = (k : ℕ) (e : I) → get_elem? history k ≡ some e → caller_of e < m

  -- Each entry of the caller n stands below the place `known`.
  abbrev pub OwnBelow : ℕ → List I → ℕ → Type 0
  OwnBelow n history known = (k : ℕ) (e : I) → get_elem? history k ≡ some e → caller_of e ≡ n → k < known

  -- Each entry of the caller n stands below the place `known`, but one that may be the last of `many` entries, if `named` is n.
  abbrev pub OwnBelowOrLast : ℕ → List I → ℕ → Option ℕ → ℕ → Type 0
  OwnBelowOrLast n history known named many = (k : ℕ) (e : I) → get_elem? history k ≡ some e → caller_of e ≡ n → (k < known) ⊎ ((named ≡ Some n) × (suc k ≡ many))
