-- How many challenges are counted for each user.
use Rattle.std.specs.Prelude.{◌≡◌, ◌≢◌, ℕ, ◌+◌, ◌==◌, if◌then◌else◌, List, Some, filter, length}
use Rattle.std.specs.Option.{unwrap_or}
use Rattle.std.specs.Map.{lookup}
use Rattle.authority_model.specs.declared.pending.Pending.{Pending}
use Rattle.entry_changes.specs.Finding.{is_of_user}

-- The users that have a challenge, each with how many, and how many more users have room.
pub record Counts : Type 0 where
  pub entries : List (ℕ × ℕ)
  pub room : ℕ

-- how many are counted for a user
abbrev pub count_at : List (ℕ × ℕ) → ℕ → ℕ
count_at es uid = unwrap_or (lookup (λ q. uid == q) es) 0

-- each user that is listed has some
abbrev pub HaveSome : List (ℕ × ℕ) → Type 0
HaveSome es = (uid : ℕ) → lookup (λ q. uid == q) es ≢ Some 0

-- one more is counted for this user, and as many as before for the others
abbrev pub IsOneMore : ℕ → List (ℕ × ℕ) → List (ℕ × ℕ) → Type 0
IsOneMore uid old new = (q : ℕ) → count_at new q ≡ count_at old q + (if uid == q then 1 else 0)

-- as many are counted for each user as are of checks of that user
abbrev pub AreCounted : List (ℕ × ℕ) → List Pending → Type 0
AreCounted es items = (uid : ℕ) → count_at es uid ≡ length (filter (is_of_user uid) items)
