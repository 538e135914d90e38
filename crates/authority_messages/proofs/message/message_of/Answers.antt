use Rattle.std.proofs.Common.{◌≡◌, ◌++◌, ℕ, List, length, false, IfOk, ap, subst, ◌∙◌, arith}
use Rattle.dbus_values.specs.Form.{WireForm, message_bytes, shown_of}
use Rattle.dbus_values.specs.Next.{Whole, next_of}
use Rattle.authority_model.specs.declared.load.Loaded.{Loaded}
use Rattle.authority_messages.specs.Outgoing.{Outgoing, outgoing, under}
use Rattle.authority_messages.specs.Messages.{message_for}
use Rattle.authority_messages.proofs.message.message_of.Goals as goal

pub write_message-requires : goal.write_message-requires
write_message-requires c = c.in_ok-out.ensures.form c.args.serial c.requires.serial (omega arith)

pub returns : goal.returns
returns c =
    let is : outgoing c.in_ok-out.out ≡ message_for c.args.history.now.loads c.args.output.now.message =
    c.in_ok-out.ensures.message ∙ ap (λ (loads : List Loaded). message_for loads c.args.output.now.message) c.as_slice.ensures.items in
    record {
      exact = subst (λ (o : Outgoing). IfOk c.write_message.result (λ bytes. bytes ≡ message_bytes false (under c.args.serial o))) is c.write_message.ensures.exact;
      form = subst (λ (o : Outgoing). IfOk c.write_message.result (λ bytes. WireForm bytes (under c.args.serial o))) is c.write_message.ensures.form;
      again = subst (λ (o : Outgoing). IfOk c.write_message.result (λ bytes. (more : List ℕ) → next_of (bytes ++ more) ≡ Whole (shown_of (under c.args.serial o)) (length bytes))) is c.write_message.ensures.again;
    }
