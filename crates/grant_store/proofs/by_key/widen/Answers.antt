use Rattle.std.proofs.Common.{sym, ◌∙◌}
use Rattle.std.proofs.lemmas.Result.{on_ok_weaker}
use Rattle.grant_store.proofs.Writing.{lent, numbers_there, numbers_kept, room_written}
use Rattle.grant_store.proofs.by_key.widen.Goals as goal

pub returns-clause-numbers : goal.returns-clause-numbers
returns-clause-numbers c =
    let later = c.get_mut.follows.lender c.reserve.new.self in
    let found = sym c.in-Some.ensures.value in
    numbers_kept c.args.key.now c.reserve.new.self c.args.lists.now.entries later.entries (lent c.args.lists.now later c.args.key.now c.in-Some.numbers.now c.reserve.new.self found (c.get_mut.follows.holds c.reserve.new.self))
    (c.reserve.ensures.items ∙ numbers_there c.args.key.now c.in-Some.numbers.now c.args.lists.now.entries found)

pub returns-clause-ok : goal.returns-clause-ok
returns-clause-ok c =
    let later = c.get_mut.follows.lender c.reserve.new.self in
    let found = sym c.in-Some.ensures.value in
    on_ok_weaker c.reserve.result
    (room_written c.args.key.now c.reserve.new.self c.args.lists.now.entries later.entries (lent c.args.lists.now later c.args.key.now c.in-Some.numbers.now c.reserve.new.self found (c.get_mut.follows.holds c.reserve.new.self))) c.reserve.ensures.ok
