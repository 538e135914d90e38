-- One more message, more bytes, or an end.
use Rattle.std.proofs.Common.{◌∙◌, ◌<◌, sym, refl, subst, ap, take, drop, ◌++◌, ◌∷◌, List, ℕ, [], length, arith}
use Rattle.pk_outside.proofs.Written.{Gave-none}
use Rattle.dbus_values.specs.Next.{next_of}
use Rattle.dbus_values.specs.Streams.{IsForm}
use Rattle.authority_model.specs.Items.{sent}
use Rattle.pipe_run.specs.declared.served.TheConstants.{CONNECTION}
use Rattle.pipe_run.specs.Handed.{awaits_message}
use Rattle.usual_calls.specs.Nexts.{Asks}
use Rattle.pipe_run.proofs.Exits.{bad_bytes, halted, no_memory, read_fault, write_fault}
use Rattle.dbus_values.proofs.Following.{follow_next}
use Rattle.pipe_run.proofs.Following.{left_fewer}
use Rattle.pipe_run.proofs.Serving.{answered_on, more_read, out_on, still_partial, stopped_writes}
use Rattle.pipe_run.proofs.Written.{fails_later}
use Rattle.pipe_run.proofs.running.serve.Goals.{in-Ok-write_out, in-Err-write_out}
use Rattle.pipe_run.proofs.Promised.{may_now, may_out}
use Rattle.pipe_run.proofs.running.serve.Goals as goal

pub returns-in-Err-clause-run : goal.returns-in-Err-clause-run
returns-in-Err-clause-run g c s told root st = no_memory s _ [] [] [] _ _ _ st refl (Gave-none (g.I.Source.left c.args.input.now))

pub messages-preserved-in-Ok-take_message : goal.messages-preserved-in-Ok-take_message
messages-preserved-in-Ok-take_message g c = let asks : Asks c.bytes.result.now c.in-Whole.event c.in-Whole.used = c.in-Whole.ensures.exact in record {
  running = λ s told root st. answered_on s _ _ _ _ c.messages.buffer c.take.new.self c.in-Whole.used asks.message (c.messages.invariant.running s told root st)
      (subst (λ (b : List ℕ). IsForm (take c.in-Whole.used b) asks.message) c.bytes.ensures.bytes asks.form) c.take.ensures.taken
      (λ messages stage. c.in-Ok-take_message.ensures.turned asks.message asks.asks s messages (told ∙ sym c.messages.invariant.told) root stage);
  counted = c.in-Ok-take_message.ensures.counted;
  waits = c.in-Ok-take_message.ensures.waits;
  told = c.in-Ok-take_message.ensures.same ∙ c.messages.invariant.told;
  read = c.messages.invariant.read;
  wrote = c.in-Ok-take_message.ensures.faults ∙ c.messages.invariant.wrote;
  may = c.in-Ok-take_message.ensures.may;
}

pub returns-in-Err-take_message-clause-run : goal.returns-in-Err-take_message-clause-run
returns-in-Err-take_message-clause-run g c s told root st =
    let r = c.messages.invariant.running s told root st in
    let asks : Asks c.bytes.result.now c.in-Whole.event c.in-Whole.used = c.in-Whole.ensures.exact in
    rw c.end.ensures.end
    (halted s _ r.messages (r.messages ++ asks.message ∷ []) c.in-Err-take_message.stopped r.read c.messages.buffer _ _ _ _ (c.in-Err-take_message.ensures.turned asks.message asks.asks s r.messages (told ∙ sym c.messages.invariant.told) root r.stage)
    r.follow (follow_next r.read r.messages c.messages.buffer c.in-Whole.used asks.message r.follow (subst (λ (b : List ℕ). IsForm (take c.in-Whole.used b) asks.message) c.bytes.ensures.bytes asks.form)) r.gave)

pub returns-in-Err-take_message-clause-write : goal.returns-in-Err-take_message-clause-write
returns-in-Err-take_message-clause-write g c = rw c.end.ensures.end (stopped_writes g.O.Sink.held g.O.Sink.faults _ c.messages.output _ c.in-Err-take_message.stopped c.messages.invariant.wrote c.in-Err-take_message.ensures.faults)

pub returns-in-Bad-clause-run : goal.returns-in-Bad-clause-run
returns-in-Bad-clause-run g c s told root st =
    let r = c.messages.invariant.running s told root st in
    elim c.match-write_out.branch [
      | in-Ok-write_out w ↦ rw w.result-is
          (bad_bytes s _ _ _ c.messages.buffer _ c.in-Bad.kind c.in-Bad.at (out_on s _ _ _ _ _ _ _ _ _ _ w.in-Ok-write_out.ensures.written r) (ap awaits_message w.in-Ok-write_out.ensures.written.past ∙ c.messages.invariant.waits) w.in-Ok-write_out.ensures.all
          (ap next_of (sym c.bytes.ensures.bytes) ∙ c.in-Bad.ensures.exact))
      | in-Err-write_out w ↦ let now = out_on s _ _ _ _ _ _ _ _ _ _ w.in-Err-write_out.ensures.written r in rw (w.result-is, w.end-in-Err-write_out.ensures.end)
          (write_fault s _ now.messages now.read c.messages.buffer _ _ _ w.in-Err-write_out.stopped w.in-Err-write_out.ensures.refused now.stage now.follow now.gave)
    ]

pub returns-in-Err-write_out-2-clause-run : goal.returns-in-Err-write_out-2-clause-run
returns-in-Err-write_out-2-clause-run g c s told root st =
    let r = out_on s _ _ _ _ _ _ _ _ _ _ c.in-Err-write_out-2.ensures.written (c.messages.invariant.running s told root st) in
    rw c.end-in-Err-write_out-2.ensures.end (write_fault s _ r.messages r.read c.messages.buffer _ _ _ c.in-Err-write_out-2.stopped c.in-Err-write_out-2.ensures.refused r.stage r.follow r.gave)

pub messages-preserved : goal.messages-preserved
messages-preserved g c =
    let got = c.in-There.ensures.fills in
    record {
      running = λ s told root st. more_read s _ _ _ _ c.messages.buffer c.fill.new.self got.0 (out_on s _ _ _ _ _ _ _ _ _ _ c.in_default.ensures.written (c.messages.invariant.running s told root st)) got.1 got.2.0;
      counted = c.in_default.ensures.written.sent ∙ c.messages.invariant.counted ∙ ap (λ p. sent p CONNECTION) (sym c.in_default.ensures.written.past);
      waits = ap awaits_message c.in_default.ensures.written.past ∙ c.messages.invariant.waits;
      told = c.messages.invariant.told;
      read = c.in-There.ensures.faults ∙ c.messages.invariant.read;
      wrote = c.in_default.ensures.faults ∙ c.messages.invariant.wrote;
      may = may_out _ _ _ _ _ c.in_default.ensures.written c.messages.invariant.may;
    }

pub returns-in-End-clause-run : goal.returns-in-End-clause-run
returns-in-End-clause-run g c s told root st =
    let got = c.in-End.ensures.fills in
    c.end_of_input.ensures.run s _ _ _ c.fill.new.self _ (more_read s _ _ _ _ c.messages.buffer c.fill.new.self got.0 (out_on s _ _ _ _ _ _ _ _ _ _ c.in_default.ensures.written (c.messages.invariant.running s told root st)) got.1 got.2.0)
    (still_partial c.bytes-in-Partial.result.now c.messages.buffer c.fill.new.self got.0 c.awaited-wanted.result c.bytes-in-Partial.ensures.bytes
    (sym c.in-Partial.ensures.exact ∙ ap next_of (c.bytes.ensures.bytes ∙ sym c.bytes-in-Partial.ensures.bytes)) c.awaited-wanted.ensures.exact got.2.0 got.2.1)
    got.2.2 (ap length c.bytes-rest.ensures.bytes)

pub returns-in-ReadFault-clause-run : goal.returns-in-ReadFault-clause-run
returns-in-ReadFault-clause-run g c s told root st =
    let got = c.in-ReadFault.ensures.fills in
    read_fault s _ _ _ c.fill.new.self _ (more_read s _ _ _ _ c.messages.buffer c.fill.new.self got.0 (out_on s _ _ _ _ _ _ _ _ _ _ c.in_default.ensures.written (c.messages.invariant.running s told root st)) got.1 got.2.0)
    (ap awaits_message c.in_default.ensures.written.past ∙ c.messages.invariant.waits) c.in_default.ensures.all
    (still_partial c.bytes-in-Partial.result.now c.messages.buffer c.fill.new.self got.0 c.awaited-wanted.result c.bytes-in-Partial.ensures.bytes
    (sym c.in-Partial.ensures.exact ∙ ap next_of (c.bytes.ensures.bytes ∙ sym c.bytes-in-Partial.ensures.bytes)) c.awaited-wanted.ensures.exact got.2.0 got.2.1)

pub returns-in-ReadFault-clause-read : goal.returns-in-ReadFault-clause-read
returns-in-ReadFault-clause-read g c = fails_later g.I.Source.left g.I.Source.faults _ c.messages.input _ c.messages.invariant.read c.in-ReadFault.ensures.faults

pub returns-in-NoMemory-fill-clause-run : goal.returns-in-NoMemory-fill-clause-run
returns-in-NoMemory-fill-clause-run g c s told root st =
    let r = out_on s _ _ _ _ _ _ _ _ _ _ c.in_default.ensures.written (c.messages.invariant.running s told root st) in
    let got = c.in-NoMemory-fill.ensures.fills in
    let more = more_read s _ _ _ _ c.messages.buffer _ got.0 r got.1 refl in
    no_memory s _ more.messages more.read _ _ _ _ more.stage more.follow more.gave

pub returns-in-NoMemory-clause-run : goal.returns-in-NoMemory-clause-run
returns-in-NoMemory-clause-run g c s told root st =
    let r = c.messages.invariant.running s told root st in
    no_memory s _ r.messages r.read _ _ _ _ r.stage r.follow r.gave

pub messages-smaller-in-Ok-take_message : goal.messages-smaller-in-Ok-take_message
messages-smaller-in-Ok-take_message g c =
    let asks : Asks c.bytes.result.now c.in-Whole.event c.in-Whole.used = c.in-Whole.ensures.exact in
    let form : IsForm (take c.in-Whole.used c.messages.buffer) asks.message = subst (λ (b : List ℕ). IsForm (take c.in-Whole.used b) asks.message) c.bytes.ensures.bytes asks.form in
    let fewer : length (drop c.in-Whole.used c.messages.buffer) < length c.messages.buffer = left_fewer c.messages.buffer c.in-Whole.used asks.message form in
    let left = ap (λ (b : List ℕ). length b) c.take.ensures.taken in
    omega (arith, fewer, left)

pub write_out-requires-clause-may : goal.write_out-requires-clause-may
write_out-requires-clause-may g c κs within = may_now _ _ _ c.messages.invariant.may

pub write_out-requires-in-Partial-clause-may : goal.write_out-requires-in-Partial-clause-may
write_out-requires-in-Partial-clause-may g c κs within = may_now _ _ _ c.messages.invariant.may

pub end_of_input-requires-clause-may : goal.end_of_input-requires-clause-may
end_of_input-requires-clause-may g c κs within = may_out _ _ _ _ _ c.in_default.ensures.written c.messages.invariant.may
