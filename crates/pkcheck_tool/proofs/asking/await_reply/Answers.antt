-- One more message: the reply, one that was passed over, or what stands in its place.
use Rattle.std.proofs.Common.{◌∙◌, ◌++◌, append_assoc, subst, sym, List, ℕ, Err}
use Rattle.pk_outside.proofs.Written.{Gave-more}
use Rattle.client_link.specs.Following.{Passes}
use Rattle.client_link.specs.declared.stop.LinkStop.{LinkStop}
use Rattle.pkcheck_tool.specs.declared.reply.Reply.{Reply}
use Rattle.pkcheck_tool.specs.Asking.{Awaits, Replies}
use Rattle.pkcheck_tool.specs.Replies.{is_reply}
use Rattle.pkcheck_tool.proofs.Conversing.{awaits_refused, first_reply, no_more, passed_over}
use Rattle.pkcheck_tool.proofs.asking.await_reply.Goals as goal

pub returns-in_err-answer-clause-awaits : goal.returns-in_err-answer-clause-awaits
returns-in_err-answer-clause-awaits g c =
    let p = c.messages.invariant.passes in
    let b = c.in_err-answer.ensures.brings in
    let first = c.args.buffer.now in (
      p.0 ++ b.0,
      Gave-more _ _ _ p.0 b.0 p.1 b.1,
      awaits_refused (g.I.Source.ended c.next_answer.new.source) (first ++ (p.0 ++ b.0)) c.from_residual.result c.in_err-answer.field-0.0 c.from_residual.ensures.1
          (subst (λ (bytes : List ℕ). Awaits (g.I.Source.ended c.next_answer.new.source) bytes (Err c.in_err-answer.field-0.0)) (append_assoc first p.0 b.0)
          (no_more (g.I.Source.ended c.next_answer.new.source) (first ++ p.0) c.messages.buffer b.0 c.next_answer.new.buffer c.in_err-answer.field-0.0 p.2 b.2)),
    )

pub returns-in-Some-clause-awaits : goal.returns-in-Some-clause-awaits
returns-in-Some-clause-awaits g c =
    let p = c.messages.invariant.passes in
    let b = c.in_ok-answer.ensures.brings in
    let first = c.args.buffer.now in (
      p.0 ++ b.0,
      Gave-more _ _ _ p.0 b.0 p.1 b.1,
      subst (λ (bytes : List ℕ). Replies bytes c.in-Some.reply) (append_assoc first p.0 b.0)
          (first_reply (first ++ p.0) c.messages.buffer b.0 c.next_answer.new.buffer c.in_ok-answer.answer c.in-Some.reply p.2 b.2 (sym c.in-Some.ensures.exact)),
    )

pub messages-preserved : goal.messages-preserved
messages-preserved g c =
    let p = c.messages.invariant.passes in
    let b = c.in_ok-answer.ensures.brings in
    let first = c.args.buffer.now in
    record {
      passes = (
        p.0 ++ b.0,
        Gave-more _ _ _ p.0 b.0 p.1 b.1,
        subst (λ (bytes : List ℕ). Passes is_reply bytes c.next_answer.new.buffer) (append_assoc first p.0 b.0)
            (passed_over (first ++ p.0) c.messages.buffer b.0 c.next_answer.new.buffer c.in_ok-answer.answer p.2 b.2 (sym c.in_default.ensures.exact)),
      );
      same = c.in_ok-answer.ensures.same ∙ c.messages.invariant.same;
      quiet = c.in_ok-answer.ensures.faults ∙ c.messages.invariant.quiet;
    }
