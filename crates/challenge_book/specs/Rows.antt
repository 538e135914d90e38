-- Challenges in a slab, in the order of an index.
use Rattle.std.specs.Prelude.{◌≡◌, ◌≢◌, ℕ, ⊤, List, [], ◌∷◌, ◌++◌, option_to_list, string_bytes}
use Rattle.std.specs.Option.{IsSomeAnd, option_map}
use Rattle.slab.specs.Slab.{Slab, get}
use Rattle.authority_model.specs.declared.pending.Pending.{Pending}
use Rattle.authority_model.specs.Cookies.{cookie_text}
use Rattle.authority_model.specs.Lists.{Each}
use Rattle.challenge_book.specs.declared.filed.Filed.{Filed}

-- Challenges in their order, and how many more have room.
pub record Rows : Type 0 where
  pub items : List Pending
  pub room : ℕ

-- the challenge without the text of its cookie
abbrev pub row_of : Filed → Pending
row_of f = f.row

-- the challenge was opened by this entry, and the text beside it is that of its cookie
pub record IsFiled (e : ℕ) (f : Filed) : Type 0 where
  pub entry : f.row.entry ≡ e
  pub text : string_bytes f.cookie_text ≡ cookie_text f.row.cookie

-- the challenges at the slab keys of an index, in its order
abbrev pub rows_in : Slab Filed → List (ℕ × ℕ) → List Pending
rows_in s [] = []
rows_in s (e ∷ es) = option_to_list (option_map row_of (get s e.1)) ++ rows_in s es

-- Each key of an index is the place of the entry of the challenge at its slab key, and stands once.
abbrev pub AreRows : Slab Filed → List (ℕ × ℕ) → Type 0
AreRows s [] = ⊤
AreRows s (e ∷ es) = IsSomeAnd (get s e.1) (IsFiled e.0) × (Each (λ f. e.0 ≢ f.0) es × AreRows s es)
