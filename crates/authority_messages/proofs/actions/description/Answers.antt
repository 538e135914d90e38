use Rattle.std.proofs.Common.{List, subst, false}
use Rattle.pk_types.specs.declared.values.Pair.{Pair}
use Rattle.authority_messages.specs.Values.{pairs}
use Rattle.authority_messages.specs.Built.{Builds}
use Rattle.authority_messages.proofs.actions.description.Goals as goal

pub returns : goal.returns
returns c =
    let built : Builds false 2 c.in_ok-annotations.annotations (pairs c.args.action.now.annotations) = subst (λ (ps : List Pair). Builds false 2 c.in_ok-annotations.annotations (pairs ps)) c.as_slice.ensures.items c.in_ok-annotations.ensures.value in
    record { value = c.structure.ensures.value 2 _ _ (c.in_ok-add.ensures.ok 2 _ built _ 0 (c.in_ok-add_implicit-3.ensures.ok _ 0 (c.in_ok-add_implicit-2.ensures.ok _ 0 (c.in_ok-add_implicit.ensures.ok _ 0 c.in_ok-members.ensures.texts)))) }
