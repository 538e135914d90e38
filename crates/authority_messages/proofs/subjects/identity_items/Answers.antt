use Rattle.std.specs.Prelude.{codes}
use Rattle.authority_messages.specs.Values.{identity}
use Rattle.authority_messages.proofs.Building.{no_items, items_more_at, items_all, as_item}
use Rattle.authority_messages.proofs.Types.{identity_type}
use Rattle.authority_messages.proofs.subjects.identity_items.Goals as goal

pub loop-one-init : goal.loop-one-init
loop-one-init c = no_items 4 _ _ c.new-items.ensures.empty

pub loop-one-preserved : goal.loop-one-preserved
loop-one-preserved c = items_more_at identity 4 (codes "(sa{sv})") c.args.from.now c.loop-one.one-index _ c.loop-one.items c.try_push.new.self c.in_ok-item.item c.loop-one-test.true c.in_ok-try_push.ensures.ok (as_item 4 _ _ c.in_ok-item.ensures.value) (identity_type _) c.loop-one.invariant

pub returns : goal.returns
returns c = record { items = items_all identity 4 (codes "(sa{sv})") c.args.from.now c.loop-one.one-index c.loop-one.items c.loop-one-test.false c.loop-one.invariant }
