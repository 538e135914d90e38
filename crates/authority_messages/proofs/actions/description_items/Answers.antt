use Rattle.std.proofs.Common.{refl, sym}
use Rattle.std.specs.Prelude.{codes}
use Rattle.authority_messages.specs.Values.{description}
use Rattle.authority_messages.proofs.Building.{no_items, items_more, items_all, as_item}
use Rattle.authority_messages.proofs.actions.description_items.Goals as goal

pub loop-action-init : goal.loop-action-init
loop-action-init c = no_items 3 _ _ c.new-items.ensures.empty

pub loop-action-preserved : goal.loop-action-preserved
loop-action-preserved c = items_more (description c.args.locale.now) 3 (codes "(ssssssuuua{ss})") c.args.actions.now c.loop-action.action-index c.action-item.result c.loop-action.items c.try_push.new.self c.in_ok-item.item c.loop-action-test.true (sym c.action-item.is) c.in_ok-try_push.ensures.ok (as_item 3 _ _ c.in_ok-item.ensures.value) refl c.loop-action.invariant

pub returns : goal.returns
returns c = record { items = items_all (description c.args.locale.now) 3 (codes "(ssssssuuua{ss})") c.args.actions.now c.loop-action.action-index c.loop-action.items c.loop-action-test.false c.loop-action.invariant }
