use Rattle.std.proofs.Common.{sym, ap, ◌∙◌, bytes_eq, slice_get, option_and_then}
use Rattle.rulebook.proofs.Firsts.{find-place}
use Rattle.rulebook.proofs.world_index.WorldIndex.session.Goals as goal

pub returns-in-Some : goal.returns-in-Some
returns-in-Some c =
    record { first = c.get.ensures.item ∙ ap (option_and_then (slice_get c.args.world.now.sessions)) (c.in-Some.ensures.place ∙ c.requires.index.sessions c.args.id.now) ∙ sym (find-place (λ row. bytes_eq row.id c.args.id.now) c.args.world.now.sessions) }

pub returns-in-None : goal.returns-in-None
returns-in-None c =
    record { first = ap (option_and_then (slice_get c.args.world.now.sessions)) (c.in-None.ensures.place ∙ c.requires.index.sessions c.args.id.now) ∙ sym (find-place (λ row. bytes_eq row.id c.args.id.now) c.args.world.now.sessions) }
