-- What a pass stands for.
use Rattle.std.specs.Prelude.{ℕ, List, Option}
use Rattle.history_lock.specs.declared.machine.EndCause.{EndCause}

-- What a pass stands for. Its history is a beginning of the lock's, as long as the pass has learned of it.
pub record Known (I : Type 0) : Type 0 where
  -- the number of its caller
  pub number : ℕ
  -- the entries that it knows, the oldest first
  pub history : List I
  -- how many passes it knows to be made
  pub made : ℕ
  -- the kept cause, if it knows one: its history is the whole one then
  pub ended : Option EndCause

-- What lies under the lock.
pub record Held (I : Type 0) : Type 0 where
  -- the machine's entries, the oldest first
  pub entries : List I
  -- how many passes were made
  pub made : ℕ
  -- the kept cause, if there is one
  pub ended : Option EndCause
