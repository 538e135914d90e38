use Rattle.std.proofs.Common.{refl, rules}
use Rattle.journal_scan.proofs.Tables.{table_new}
use Rattle.journal_scan.proofs.callers.Callers.new.Goals as goal

pub returns : goal.returns
returns c = record { empty = table_new _ _ _ _ (c.in_ok-places.ensures.items_if_clones_equal (λ y is. search rules)) (λ n. refl) }
