use Rattle.std.proofs.Common.{◌∙◌}
use Rattle.grant_store.proofs.Writing.{no_numbers, numbers_kept, room_written}
use Rattle.grant_store.proofs.by_key.begin.Goals as goal

pub returns-clause-numbers : goal.returns-clause-numbers
returns-clause-numbers c =
    numbers_kept c.args.key c.reserve.new.self c.args.lists.now.entries c.insert.new.self.entries c.in_ok-insert.ensures.updates.0 (c.reserve.ensures.items ∙ c.new-numbers.ensures.empty ∙ no_numbers c.args.key c.args.lists.now.entries c.requires.absent)

pub returns-clause-ok : goal.returns-clause-ok
returns-clause-ok c =
    room_written c.args.key c.reserve.new.self c.args.lists.now.entries c.insert.new.self.entries c.in_ok-insert.ensures.updates.0 c.in_ok-reserve.ensures.ok
