use Rattle.std.proofs.Common.{◌≡◌, true, false, IfOk, sym, subst, ◌∙◌}
use Rattle.authority_messages.specs.Outgoing.{Outgoing, outgoing}
use Rattle.authority_messages.specs.Messages.{is_over, is_unspoken, too_long, answering}
use Rattle.authority_messages.proofs.Choices.{reply_over, reply_whole, sent_whole}
use Rattle.authority_messages.proofs.message.reply.Goals as goal

pub returns-then-is_over : goal.returns-then-is_over
returns-then-is_over c =
    let over : is_over (outgoing c.in_ok-whole.whole) ≡ true = sym c.is_over.ensures.over ∙ c.if-is_over.true in
    record {
      message = subst (λ (o : Outgoing). IfOk c.too_long.result (λ out. outgoing out ≡ o)) (sym (reply_over (is_unspoken c.args.answer.now) (outgoing c.in_ok-whole.whole) (answering c.args.loads.now c.args.answered c.args.answer.now) (too_long c.args.answered) c.in_ok-whole.ensures.message over)) c.too_long.ensures.message;
      form = c.too_long.ensures.form;
    }

pub returns-else-is_over : goal.returns-else-is_over
returns-else-is_over c =
    let fits : is_over (outgoing c.in_ok-whole.whole) ≡ false = sym c.is_over.ensures.over ∙ c.if-is_over.false in
    record {
      message = sym (reply_whole (is_unspoken c.args.answer.now) (outgoing c.in_ok-whole.whole) (answering c.args.loads.now c.args.answered c.args.answer.now) (too_long c.args.answered) c.in_ok-whole.ensures.message fits);
      form = sent_whole (outgoing c.in_ok-whole.whole) c.in_ok-whole.ensures.form fits;
    }
