-- What the code keeps of a run.
use Rattle.std.specs.Prelude.{◌≡◌, List}
use Rattle.authority_model.specs.declared.journal.Item.{Item}
use Rattle.authority_model.specs.Entering.{greatest_limits}
use Rattle.authority_model.specs.Items.{items_of}
use Rattle.generated_run.specs.declared.run.Run.{Run}
use Rattle.generated_run.specs.Summaries.{summary_of}

-- a run has these items, and their totals
pub record Has (past : List Item) (run : Run) : Type 0 where
  pub items : items_of run.authority.history ≡ past
  pub limits : run.authority.limits ≡ greatest_limits
  pub summary : run.summary ≡ summary_of past
