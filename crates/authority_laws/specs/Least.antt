-- The action that implies another, said of all actions that might.
use Rattle.std.specs.Prelude.{ℕ, ◌≡◌, ◌⊎◌, true, false, List, None, find}
use Rattle.pk_types.specs.declared.values.Implicit.{Implicit}
use Rattle.authority_model.specs.declared.journal.Item.{Item}
use Rattle.authority_model.specs.declared.verdict.GrantRow.{GrantRow}
use Rattle.authority_model.specs.Words.{Bytes, comes_before}
use Rattle.authority_model.specs.Values.{is_yes}
use Rattle.authority_model.specs.Facts.{Facts}
use Rattle.authority_model.specs.Deciding.{implies, own, serves}

-- the action of the id b lists the action a, and is allowed by itself
abbrev pub MayImply : List Item → List GrantRow → Facts → ℕ → Bytes → Bytes → Type 0
MayImply past grants f t a b = (implies past b a ≡ true) × (own past grants f t b ≡ true)

-- the id b is one that may imply a, and comes before every other by its bytes
pub record IsLeastImplying (past : List Item) (grants : List GrantRow) (f : Facts) (t : ℕ) (a b : Bytes) : Type 0 where
  pub may : MayImply past grants f t a b
  pub least : (c : Bytes) → MayImply past grants f t a c → (b ≡ c) ⊎ (comes_before b c ≡ true)

-- the id b decides where the action a has this value: nothing that comes first does, and it is the least that may imply a
pub record IsImplied (past : List Item) (grants : List GrantRow) (f : Facts) (t : ℕ) (a : Bytes) (value : Implicit) (b : Bytes) : Type 0 where
  pub user : f.uid ≡ 0 → ⊥
  pub not_yes : is_yes value ≡ false
  pub grant : find (serves f.key a t) grants ≡ None
  pub implied : IsLeastImplying past grants f t a b
