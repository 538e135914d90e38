use Rattle.std.proofs.Common.{◌≡◌, ℕ, List, [], ◌∷◌, ap, sym, subst, ◌∙◌, arith}
use Rattle.authority_messages.specs.Values.{string}
use Rattle.authority_messages.specs.Outgoing.{outgoing, error_to, MayBeSent}
use Rattle.authority_messages.specs.Built.{Rows}
use Rattle.authority_messages.proofs.Plain.{plain_text}
use Rattle.authority_messages.proofs.Sent.{error_is}
use Rattle.authority_messages.proofs.replies.refusal.Goals as goal

pub returns : goal.returns
returns c =
    let rows : Rows 0 c.add_plain.new.values (string c.args.text.now ∷ []) = c.in_ok-add_plain.ensures.ok [] 0 c.no_values-body.ensures.none in
    let message : outgoing c.error_to.result ≡ error_to c.args.answered c.args.name.now c.args.text.now = c.error_to.ensures.message 0 c.args.text.now rows ∙ ap (λ (n : List ℕ). error_to c.args.answered n c.args.text.now) c.in_ok-name.ensures.text in
    record { message = message; form = subst MayBeSent (sym message) (error_is c.args.answered c.args.name.now c.args.text.now c.requires.answered (omega arith) (plain_text c.args.name.now c.requires.name) (plain_text c.args.text.now c.requires.text)) }
