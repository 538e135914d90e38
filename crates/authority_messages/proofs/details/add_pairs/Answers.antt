use Rattle.std.proofs.Common.{◌++◌, List, ap, sym, ◌∙◌}
use Rattle.std.proofs.lemmas.List.{append-nil, take_all}
use Rattle.pk_types.specs.declared.values.Pair.{Pair}
use Rattle.authority_messages.proofs.Told.{pairs_more}
use Rattle.authority_messages.proofs.details.add_pairs.Goals as goal

pub loop-one-init : goal.loop-one-init
loop-one-init c = sym (append-nil c.args.details.now)

pub loop-one-preserved : goal.loop-one-preserved
loop-one-preserved c = pairs_more c.args.details.now c.loop-one.details c.try_push.new.self c.args.pairs.now c.loop-one.one-index c.one-item.result c.in_ok-copy.copy c.loop-one-test.true (sym c.one-item.is) c.in_ok-copy.ensures.copy c.loop-one.invariant c.in_ok-try_push.ensures.ok

pub returns : goal.returns
returns c = record { ok = c.loop-one.invariant ∙ ap (λ (ps : List Pair). c.args.details.now ++ ps) (take_all c.loop-one.one-index c.args.pairs.now c.loop-one-test.false) }
