use Rattle.std.proofs.Common.{refl, arith, ◌∙◌}
use Rattle.std.specs.Prelude.{codes}
use Rattle.pk_types.proofs.Texts.{plain_text}
use Rattle.policy_load.proofs.Gathered.{all_added}
use Rattle.policy_load.proofs.order.turn_order.turns.Goals as goal

pub below-requires : goal.below-requires
below-requires g c = plain_text (codes "usr/share/polkit-1/actions") refl (omega arith)

pub below-requires-2 : goal.below-requires-2
below-requires-2 g c = plain_text (codes "etc/polkit-1/localauthority.conf.d") refl (omega arith)

pub returns-clause-turns : goal.returns-clause-turns
returns-clause-turns g c =
    λ told e.
    let first = c.in_ok-add_single.ensures.same ∙ e in
    let both = c.in_ok-add_single-2.ensures.same ∙ first in
    all_added told c.args.root.now _ _ _ _ _ _ _
    c.in_ok-path.ensures.path c.in_ok-path-2.ensures.path c.new-turns.ensures.items
    (c.in_ok-add_single.ensures.added told e)
    (c.in_ok-add_single-2.ensures.added told first)
    (c.in_ok-add_entries.ensures.added told both)
