use Rattle.std.proofs.Common.{sym}
use Rattle.audit_words.proofs.Putting.{put_kept, put_lost}
use Rattle.audit_words.proofs.buffer.LineBuffer.put.Goals as goal

pub returns-then-self : goal.returns-then-self
returns-then-self c = record { put = rw (sym c.self.view_is) (put_kept c.self.inside.room c.self.inside.count c.saturating_add-self-inside.result c.self.inside.kept.items c.args.bytes.now c.append.new.kept.items c.saturating_add-self-inside.ensures c.if-self.true c.append.ensures.items) }

pub returns-else-self : goal.returns-else-self
returns-else-self c = record { put = rw (sym c.self.view_is) (put_lost c.self.inside.room c.self.inside.count c.saturating_add-self-inside.result c.self.inside.kept.items c.args.bytes.now c.clear.new.self.items c.saturating_add-self-inside.ensures c.if-self.false c.clear.ensures.items) }
