-- One more write, or the one that failed.
use Rattle.std.proofs.Common.{◌∙◌, ap, drop}
use Rattle.answer_outbox.proofs.Outboxes.{still_within, went_on, wrote_on}
use Rattle.answer_outbox.proofs.outbox.Outbox.write_out.Goals as goal

pub loop-self-preserved : goal.loop-self-preserved
loop-self-preserved g c = record {
  written = wrote_on _ _ _ _ c.loop-self.self-inside.bytes.items _ c.loop-self.self-inside.start _ (c.split_at.ensures.back ∙ ap (drop c.loop-self.self-inside.start) c.deref.ensures.value) c.loop-self.invariant.written c.in_ok-self-inside.ensures.bytes;
  within = still_within c.loop-self.self-inside.bytes.items _ c.loop-self.self-inside.start _ (c.split_at.ensures.back ∙ ap (drop c.loop-self.self-inside.start) c.deref.ensures.value) c.loop-self.invariant.within c.in_ok-self-inside.ensures.bound.1;
  may = went_on g.O.Sink.allowed _ _ c.loop-self.self-inside.bytes.items _ c.loop-self.self-inside.start _ (c.split_at.ensures.back ∙ ap (drop c.loop-self.self-inside.start) c.deref.ensures.value) c.loop-self.invariant.may c.in_ok-self-inside.ensures.bytes;
  quiet = c.in_ok-self-inside.ensures.quiet ∙ c.loop-self.invariant.quiet;
}

pub write-requires-clause-may : goal.write-requires-clause-may
write-requires-clause-may g c = rw (c.split_at.ensures.back ∙ ap (drop c.loop-self.self-inside.start) c.deref.ensures.value) c.loop-self.invariant.may
