-- The pending challenges, and the change of them that is staged.
use Rattle.std.specs.Prelude.{ℕ, ⊤, List, Option, Some, None}
use Rattle.authority_model.specs.declared.pending.Pending.{Pending}
use Rattle.entry_changes.specs.declared.change.ChallengeChange.{ChallengeChange}
use Rattle.challenge_book.specs.declared.book.Staged.{Staged}
use Rattle.challenge_book.specs.Ready.{IsReadyFor}

-- The challenges in the order of opening, and the change that is staged.
pub record Book : Type 0 where
  pub items : List Pending
  pub staged : Option ChallengeChange

-- what is staged can be carried out without memory
abbrev pub IsReady : ℕ → Option Staged → Type 0
IsReady room None = ⊤
IsReady room (Some s) = IsReadyFor room s.change s.keys
