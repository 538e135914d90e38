use Rattle.std.proofs.Common.{ap, ◌∙◌, arith}
use Rattle.authority_messages.specs.Outgoing.{outgoing}
use Rattle.authority_messages.specs.Messages.{is_over}
use Rattle.authority_messages.proofs.Choices.{sent_whole}
use Rattle.client_messages.proofs.calls.call_bytes.Goals as goal

pub write_message-requires : goal.write_message-requires
write_message-requires c = sent_whole (outgoing c.in_ok-out.out) c.in_ok-out.ensures.form (ap is_over c.in_ok-out.ensures.message ∙ c.requires.short) c.args.serial c.requires.serial (omega arith)
