use Rattle.std.proofs.Common.{◌≡◌, ◌++◌, drop}
use Rattle.journal_segments.specs.Text.{items_text}
use Rattle.journal_segments.proofs.text.push_items.Given as goal

abbrev pub invariant-loop-item : goal.invariant-loop-item
invariant-loop-item l = l.text.items ++ items_text (drop l.item-index l.items) ≡ l.initial.text.items ++ items_text l.items
