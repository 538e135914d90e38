use Rattle.std.proofs.Common.{◌≡◌, take}
use Rattle.std.specs.Prelude.{sum_by}
use Rattle.authority_model.specs.Costs.{capped}
use Rattle.journal_costs.proofs.counted.sum_of.Given as goal

-- the total is the capped cost of the items so far
abbrev pub invariant-loop-item : goal.invariant-loop-item
invariant-loop-item g l = l.total ≡ capped (sum_by g.T.Counted.cost (take l.item-index l.items))
