use Rattle.std.proofs.Common.{refl, sym}
use Rattle.std.specs.Prelude.{codes}
use Rattle.authority_messages.specs.Values.{pair}
use Rattle.authority_messages.proofs.Building.{no_items, items_more, items_all}
use Rattle.authority_messages.proofs.pairs.pair_items.Goals as goal

pub loop-one-init : goal.loop-one-init
loop-one-init c = no_items 1 _ _ c.new-items.ensures.empty

pub loop-one-preserved : goal.loop-one-preserved
loop-one-preserved c = items_more pair 1 (codes "{ss}") c.args.from.now c.loop-one.one-index c.one-item.result c.loop-one.items c.try_push.new.self c.in_ok-item.item c.loop-one-test.true (sym c.one-item.is) c.in_ok-try_push.ensures.ok c.in_ok-item.ensures.value refl c.loop-one.invariant

pub returns : goal.returns
returns c = record { items = items_all pair 1 (codes "{ss}") c.args.from.now c.loop-one.one-index c.loop-one.items c.loop-one-test.false c.loop-one.invariant }
