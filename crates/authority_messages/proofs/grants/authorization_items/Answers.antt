use Rattle.std.proofs.Common.{sym}
use Rattle.std.specs.Prelude.{codes}
use Rattle.authority_messages.specs.Values.{authorization}
use Rattle.authority_messages.proofs.Building.{no_items, items_more, items_all, as_item}
use Rattle.authority_messages.proofs.Types.{authorization_type}
use Rattle.authority_messages.proofs.grants.authorization_items.Goals as goal

pub loop-row-init : goal.loop-row-init
loop-row-init c = no_items 5 _ _ c.new-items.ensures.empty

pub loop-row-preserved : goal.loop-row-preserved
loop-row-preserved c = items_more authorization 5 (codes "(ss(sa{sv})tt)") c.args.rows.now c.loop-row.row-index c.row-item.result c.loop-row.items c.try_push.new.self c.in_ok-item.item c.loop-row-test.true (sym c.row-item.is) c.in_ok-try_push.ensures.ok (as_item 5 _ _ c.in_ok-item.ensures.value) (authorization_type c.row-item.result) c.loop-row.invariant

pub returns : goal.returns
returns c = record { items = items_all authorization 5 (codes "(ss(sa{sv})tt)") c.args.rows.now c.loop-row.row-index c.loop-row.items c.loop-row-test.false c.loop-row.invariant }
