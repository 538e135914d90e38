use Rattle.std.proofs.Common.{◌≡◌, ◌++◌, List, true, false, IfOk, sym, subst}
use Rattle.dbus_values.specs.Form.{message_bytes}
use Rattle.authority_model.specs.declared.load.Loaded.{Loaded}
use Rattle.authority_model.specs.declared.message.Message.{Message}
use Rattle.authority_messages.specs.Outgoing.{under}
use Rattle.authority_messages.specs.Messages.{message_for}
use Rattle.usual_replies.proofs.putting.put_usual.Goals as goal

pub returns-in-Reply-clause-put : goal.returns-in-Reply-clause-put
returns-in-Reply-clause-put c =
    subst (λ (m : Message). IfOk c.put_usual_answer.result (λ did. did ≡ true → (loads : List Loaded) → c.put_usual_answer.new.out.items ≡ c.args.out.now.items ++ message_bytes false (under c.args.serial (message_for loads m)))) (sym c.in-Reply.is) c.put_usual_answer.ensures.put
