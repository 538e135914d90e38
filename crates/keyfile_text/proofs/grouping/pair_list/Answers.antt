-- One pair more is copied.
use Rattle.std.proofs.Common.{◌∙◌, ap, ◌++◌, ◌∷◌, []}
use Rattle.keyfile_text.specs.Maps.{pair_in, pairs_in}
use Rattle.keyfile_text.proofs.Copies.{entry_at, one_copied, pair_texts}
use Rattle.keyfile_text.proofs.grouping.pair_list.Goals as goal

pub of_known-requires : goal.of_known-requires
of_known-requires c = record { text = (pair_texts c.args.pairs.now.entries _ _ c.in-Some.ensures.entry c.requires).0 }

pub of_known-requires-in-Some : goal.of_known-requires-in-Some
of_known-requires-in-Some c = record { text = (pair_texts c.args.pairs.now.entries _ _ c.in-Some.ensures.entry c.requires).1 }

pub loop-key-preserved : goal.loop-key-preserved
loop-key-preserved c =
    one_copied (pairs_in c.args.pairs.now) c.loop-key.list c.try_push.new.self (pair_in (c.in-Some.key.now, c.in-Some.value.now)) _ c.len.ensures.length c.loop-key.invariant.0
    (entry_at pair_in c.args.pairs.now.entries _ _ c.in-Some.ensures.entry)
    (
    c.in_ok-try_push.ensures.ok
    ∙ ap (λ k. c.loop-key.list ++ (record { key = k; value = c.in_ok-value.value }) ∷ []) c.in_ok-key.ensures.text
    ∙ ap (λ v. c.loop-key.list ++ (record { key = c.in-Some.key.now.now; value = v }) ∷ []) c.in_ok-value.ensures.text
    )
