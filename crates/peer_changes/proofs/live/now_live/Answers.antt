use Rattle.std.proofs.Common.{◌∙◌}
use Rattle.peer_changes.proofs.Rising.{put_searched, put_found}
use Rattle.peer_changes.proofs.live.now_live.Goals as goal

pub returns-in_ok-insert-clause-ok : goal.returns-in_ok-insert-clause-ok
returns-in_ok-insert-clause-ok c = c.in_ok-insert.ensures.items ∙ put_searched c.args.live.now.items c.deref.result.now c.args.number c.in-Err.place c.deref.ensures.value c.requires.rising c.in-Err.ensures.position

pub returns-in_default-clause-ok : goal.returns-in_default-clause-ok
returns-in_default-clause-ok c = put_found c.args.live.now.items c.deref.result.now c.args.number c.in_default.field-0 c.deref.ensures.value c.requires.rising c.in_default.ensures.position
