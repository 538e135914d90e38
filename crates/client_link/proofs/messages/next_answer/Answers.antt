-- The message at the front was taken.
use Rattle.std.proofs.Common.{◌∙◌, sym, ap, drop, ◌++◌}
use Rattle.dbus_values.specs.Next.{seen}
use Rattle.client_messages.specs.Answers.{answer_of}
use Rattle.client_link.proofs.Taken.{taken}
use Rattle.client_link.proofs.messages.next_answer.Goals as goal

pub returns-clause-brings : goal.returns-clause-brings
returns-clause-brings g c =
    let a = c.in_ok-await_message.ensures.awaits in (
      a.0,
      a.1,
      taken (answer_of c.args.serial) (c.args.buffer.now ++ a.0) c.bytes.result.now c.take.new.self c.in-Whole.used (seen c.in-Whole.message) _ (c.bytes.ensures.bytes ∙ a.2.0) c.in-Whole.ensures.form
          (c.take.ensures.taken ∙ ap (drop c.in-Whole.used) (sym c.bytes.ensures.bytes)) c.in_ok-answer-in-Whole.ensures.exact,
    )
