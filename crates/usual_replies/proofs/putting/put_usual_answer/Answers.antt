use Rattle.std.proofs.Common.{◌≡◌, ◌++◌, List, true, false, IfOk, sym, subst}
use Rattle.dbus_values.specs.Form.{message_bytes}
use Rattle.authority_model.specs.declared.load.Loaded.{Loaded}
use Rattle.authority_model.specs.declared.message.Answer.{Answer}
use Rattle.authority_messages.specs.Outgoing.{under}
use Rattle.authority_messages.specs.Messages.{reply}
use Rattle.usual_replies.proofs.putting.put_usual_answer.Goals as goal

pub returns-in-Verdict-clause-put : goal.returns-in-Verdict-clause-put
returns-in-Verdict-clause-put c =
    subst (λ (a : Answer). IfOk c.put_usual_verdict.result (λ did. did ≡ true → (loads : List Loaded) → c.put_usual_verdict.new.out.items ≡ c.args.out.now.items ++ message_bytes false (under c.args.serial (reply loads c.args.answered a)))) (sym c.in-Verdict.is) c.put_usual_verdict.ensures.put
