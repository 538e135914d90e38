-- An authority as its callers see it: its journal, and how much that may hold.
use Rattle.authority_model.specs.declared.journal.History.{History}
use Rattle.authority_model.specs.declared.journal.Limits.{Limits}

-- a journal and its limits
pub record Journal : Type 0 where
  pub history : History
  pub limits : Limits
