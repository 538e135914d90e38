-- Rows of an index that stand under keys of their own.
use Rattle.std.specs.Prelude.{◌≡◌, List}
use Rattle.authority_model.specs.Lists.{Each}

-- each row stands under its own key, by what a key stands for and what a row has
abbrev pub AreKeyed : {K V A : Type 0} → (K → A) → (V → A) → List (K × V) → Type 0
AreKeyed held own rows = Each (λ e. held e.0 ≡ own e.1) rows
