use Rattle.std.proofs.Common.{◌≡◌, ℕ, List, ap, sym, subst, ◌∙◌}
use Rattle.authority_messages.specs.Outgoing.{outgoing, signal_of, IsSent}
use Rattle.authority_messages.specs.Messages.{changed}
use Rattle.authority_calls.specs.declared.methods.TheConstants.{AUTHORITY, AUTHORITY_PATH}
use Rattle.authority_messages.proofs.Sending.{changed_sent}
use Rattle.authority_messages.proofs.calls.changed.Goals as goal

pub returns : goal.returns
returns c =
    let message : outgoing c.signal_of.result ≡ changed =
    c.signal_of.ensures.message 0 c.no_values.ensures.none
    ∙ ap (λ (p : List ℕ). signal_of p c.in_ok-interface.interface c.in_ok-member.member) c.in_ok-path.ensures.text
    ∙ ap (λ (i : List ℕ). signal_of AUTHORITY_PATH.now i c.in_ok-member.member) c.in_ok-interface.ensures.text
    ∙ ap (λ (m : List ℕ). signal_of AUTHORITY_PATH.now AUTHORITY.now m) c.in_ok-member.ensures.text in
    record { message = message; form = subst IsSent (sym message) changed_sent }
