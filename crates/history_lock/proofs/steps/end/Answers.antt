use Rattle.std.proofs.Common.{arith, ◌<◌}
use Rattle.history_lock.proofs.Keeps.{ends}
use Rattle.history_lock.proofs.steps.end.Goals as goal

pub load-requires : goal.load-requires
load-requires g c =
    let words : 0 < c.args.table.now.shared.table_id.words = omega arith in (c.requires.table.0, words, ends g.M.Machine.caller_of g.M.Machine.legal (Unit {0}) _ _ c.args.book.now.me.0 c.args.book.now.me.1 g.E.Ending.cause c.requires.book.0 c.requires.book.1)
