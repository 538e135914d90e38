-- What a sighter did in a history: each of its items is the load before it without one process.
use Rattle.std.specs.Prelude.{◌≡◌, ◌==◌, ℕ, Bool, true, false, List, [], ◌∷◌, ◌++◌}
use Rattle.authority_core.specs.Unlisting.{lists_process, unlisted}
use Rattle.authority_model.specs.declared.journal.Item.{Item}
use Rattle.authority_model.specs.Given.{load_given, next}
use Rattle.authority_model.specs.Items.{loaded_of}

-- The item of n is the last load before it without a process, by its pid and its start, which that load lists.
pub record IsUnlisting (n : ℕ) (past : List Item) (i : Item) (p : ℕ × ℕ) : Type 0 where
  pub listed : lists_process (loaded_of past) p.0 p.1 ≡ true
  pub is_next : i ≡ next past (load_given n 0 (unlisted (loaded_of past) p.0 p.1))

-- The newest item is the sighter's own, and takes out the last of these processes; or it is another's, and says nothing.
abbrev pub UnlistedLast : ℕ → Bool → List Item → Item → List (ℕ × ℕ) → (List (ℕ × ℕ) → Type 0) → Type 0
UnlistedLast n true past i ps rest = (p : ℕ × ℕ) × (before : List (ℕ × ℕ)) × (ps ≡ before ++ p ∷ []) × IsUnlisting n past i p × rest before
UnlistedLast n false past i ps rest = rest ps

-- The items of the sighter n take these processes out of the last load, one each and in this order.
abbrev pub DidUnlist : ℕ → List Item → List (ℕ × ℕ) → Type 0
DidUnlist n [] ps = ps ≡ []
DidUnlist n (i ∷ past) ps = UnlistedLast n (i.entry.caller == n) past i ps (DidUnlist n past)
