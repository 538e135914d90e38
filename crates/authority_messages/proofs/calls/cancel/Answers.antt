use Rattle.std.proofs.Common.{◌≡◌, ℕ, List, [], ◌∷◌, ap, sym, subst, ◌∙◌}
use Rattle.authority_messages.specs.Values.{string}
use Rattle.authority_messages.specs.Outgoing.{outgoing, IsSent}
use Rattle.authority_messages.specs.Messages.{cancel}
use Rattle.authority_messages.proofs.Sending.{call_same, cancel_sent}
use Rattle.authority_messages.proofs.calls.cancel.Goals as goal

pub returns : goal.returns
returns c =
    let rows = c.in_ok-add_string.ensures.ok [] 0 c.no_values-body.ensures.none in
    let message : outgoing c.call_at.result ≡ cancel c.args.path.now c.args.cookie =
    c.call_at.ensures.message 0 (string c.in_ok-cookie.cookie ∷ []) rows
    ∙ call_same _ _ _ _ _ _ _ _ _ c.in_ok-member.ensures.path c.in_ok-member.ensures.interface c.in_ok-member.ensures.member (ap (λ (t : List ℕ). string t ∷ []) c.in_ok-cookie.ensures.text) in
    record { message = message; form = subst IsSent (sym message) (cancel_sent c.args.path.now c.args.cookie c.of_agent.ensures.known c.cookie_text.ensures.known c.cookie_text.ensures.short) }
