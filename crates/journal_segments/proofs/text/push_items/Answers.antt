use Rattle.std.proofs.Common.{◌++◌}
use Rattle.journal_segments.specs.Text.{items_text}
use Rattle.journal_segments.proofs.Items.{item_written, all_written}
use Rattle.journal_segments.proofs.text.push_items.Goals as goal

pub loop-item-preserved : goal.loop-item-preserved
loop-item-preserved c =
    item_written c.loop-item.text.items c.push_item.new.text.items (c.args.text.now.items ++ items_text c.args.items.now)
    c.args.items.now c.loop-item.item-index c.item-item.result c.loop-item-test.true c.item-item.is c.in_ok-push_item.ensures.item c.loop-item.invariant

pub returns : goal.returns
returns c = record {
  lines =
      all_written c.loop-item.text.items (c.args.text.now.items ++ items_text c.args.items.now)
      c.args.items.now c.loop-item.item-index c.loop-item-test.false c.loop-item.invariant;
}
