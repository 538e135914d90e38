use Rattle.std.proofs.Common.{sym, ap, ◌∙◌, ◌==◌, slice_get, option_and_then}
use Rattle.rulebook.proofs.Firsts.{find-place}
use Rattle.rulebook.proofs.world_index.WorldIndex.user.Goals as goal

pub returns-in-Some : goal.returns-in-Some
returns-in-Some c =
    record { first = c.get.ensures.item ∙ ap (option_and_then (slice_get c.args.world.now.users)) (c.in-Some.ensures.place ∙ c.requires.index.users c.args.uid) ∙ sym (find-place (λ row. row.uid == c.args.uid) c.args.world.now.users) }

pub returns-in-None : goal.returns-in-None
returns-in-None c =
    record { first = ap (option_and_then (slice_get c.args.world.now.users)) (c.in-None.ensures.place ∙ c.requires.index.users c.args.uid) ∙ sym (find-place (λ row. row.uid == c.args.uid) c.args.world.now.users) }
