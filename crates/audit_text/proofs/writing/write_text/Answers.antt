use Rattle.std.proofs.Common.{◌∙◌, arith}
use Rattle.pk_outside.proofs.Written.{on_err}
use Rattle.audit_text.proofs.Measures.{history_text}
use Rattle.audit_text.proofs.Written.{end_may, text_written, rest_broke, text_broke, last_after}
use Rattle.audit_text.proofs.writing.write_text.Goals as goal

pub write_all-requires-clause-may : goal.write_all-requires-clause-may
write_all-requires-clause-may g c κs within = rw c.bytes.ensures.bytes (end_may _ _ _ _ _ _ c.in_ok-write_history.ensures.writes c.requires.may)

-- ---- while lines are written

pub returns-in_err-write_history-clause-front : goal.returns-in_err-write_history-clause-front
returns-in_err-write_history-clause-front g c = on_err _ (text_broke _ _ _ _ _ _ c.requires.empty (history_text c.args.history.now) c.in_err-write_history.ensures.writes)

pub returns-in_err-write_history-clause-last : goal.returns-in_err-write_history-clause-last
returns-in_err-write_history-clause-last g c = let b = c.in_err-write_history.ensures.writes in on_err _ b.last

pub returns-in_err-write_history-clause-later : goal.returns-in_err-write_history-clause-later
returns-in_err-write_history-clause-later g c = let b = c.in_err-write_history.ensures.writes in b.later

-- ---- the last bytes

pub returns-in_err-write_all-clause-front : goal.returns-in_err-write_all-clause-front
returns-in_err-write_all-clause-front g c =
    on_err _ (rest_broke _ _ _ _ _ _ _ c.requires.empty (history_text c.args.history.now) c.in_ok-write_history.ensures.writes (rw c.bytes.ensures.bytes at c.in_err-write_all.ensures.err))

pub returns-in_err-write_all-clause-last : goal.returns-in_err-write_all-clause-last
returns-in_err-write_all-clause-last g c = let grew = c.in_ok-write_history.ensures.writes in on_err _ (last_after _ _ _ _ _ grew.quiet c.in_err-write_all.ensures.last)

pub returns-in_err-write_all-clause-later : goal.returns-in_err-write_all-clause-later
returns-in_err-write_all-clause-later g c = let grew = c.in_ok-write_history.ensures.writes in omega (arith, grew.quiet, c.in_err-write_all.ensures.cause.later)

pub returns-clause-whole : goal.returns-clause-whole
returns-clause-whole g c =
    text_written _ _ _ _ _ _ _ c.requires.empty (history_text c.args.history.now) c.in_ok-write_history.ensures.writes (rw c.bytes.ensures.bytes at c.in_ok-write_all.ensures.ok)

pub returns-clause-quiet : goal.returns-clause-quiet
returns-clause-quiet g c = let grew = c.in_ok-write_history.ensures.writes in c.in_ok-write_all.ensures.quiet ∙ grew.quiet

pub returns-clause-later : goal.returns-clause-later
returns-clause-later g c = let grew = c.in_ok-write_history.ensures.writes in omega (arith, c.in_ok-write_all.ensures.quiet, grew.quiet)
