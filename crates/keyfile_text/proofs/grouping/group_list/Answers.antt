-- One group more is copied.
use Rattle.std.proofs.Common.{◌∙◌, ap, ◌++◌, ◌∷◌, []}
use Rattle.keyfile_text.specs.Maps.{group_in, groups_in}
use Rattle.keyfile_text.proofs.Copies.{entry_at, one_copied, group_texts}
use Rattle.keyfile_text.proofs.grouping.group_list.Goals as goal

pub of_known-requires : goal.of_known-requires
of_known-requires c = record { text = (group_texts c.args.groups.now.entries _ _ c.in-Some.ensures.entry c.requires).0 }

pub pair_list-requires : goal.pair_list-requires
pair_list-requires c = (group_texts c.args.groups.now.entries _ _ c.in-Some.ensures.entry c.requires).1

pub loop-name-preserved : goal.loop-name-preserved
loop-name-preserved c =
    one_copied (groups_in c.args.groups.now) c.loop-name.list c.try_push.new.self (group_in (c.in-Some.name.now, c.in-Some.pairs.now)) _ c.len.ensures.length c.loop-name.invariant.0
    (entry_at group_in c.args.groups.now.entries _ _ c.in-Some.ensures.entry)
    (
    c.in_ok-try_push.ensures.ok
    ∙ ap (λ n. c.loop-name.list ++ (record { name = n; pairs = c.in_ok-pairs.pairs }) ∷ []) c.in_ok-name.ensures.text
    ∙ ap (λ p. c.loop-name.list ++ (record { name = c.in-Some.name.now.now; pairs = p }) ∷ []) c.in_ok-pairs.ensures.pairs
    )
