-- What a run of a connection may write, whether or not it ends.
use Rattle.std.specs.Prelude.{◌≡◌, ℕ, List, ◌++◌, Option}
use Rattle.pk_outside.specs.Allowing.{MayFronts}
use Rattle.authority_model.specs.declared.journal.Item.{Item}
use Rattle.authority_model.specs.Legal.{Legal}
use Rattle.authority_model.specs.Licensed.{AllLicensed}
use Rattle.pipe_run.specs.declared.served.TheConstants.{CONNECTION}
use Rattle.pipe_run.specs.Answered.{Service}
use Rattle.pipe_run.specs.Bytes.{sent_bytes}

-- Each prefix of the messages to the connection may be written, of any legal history in which each yes is licensed.
abbrev pub MayPipe : (List ℕ → Type 0) → Option (List ℕ) → Type 0
MayPipe Allowed held = (past : List Item) → Legal past → AllLicensed past → MayFronts Allowed held (sent_bytes CONNECTION past)

-- The same once the messages so far were written, but for those that are kept: these may be written, and what later items of such a history add to them.
pub record MayGoOn (Allowed : List ℕ → Type 0) (held : Option (List ℕ)) (s : Service) : Type 0 where
  pub legal : Legal s.past
  pub may : (past : List Item) (more : List ℕ) → Legal past → AllLicensed past → sent_bytes CONNECTION past ≡ sent_bytes CONNECTION s.past ++ more → MayFronts Allowed held (s.unsent ++ more)
