use Rattle.std.proofs.Common.{◌≡◌, List, [], ◌∷◌, arith, lit<, refl, sym, subst, ap, ◌∙◌, map}
use Rattle.pk_types.specs.declared.values.Pair.{Pair}
use Rattle.pk_types.specs.declared.values.Identity.{Identity}
use Rattle.authority_messages.specs.declared.calls.TheConstants.{AGENT}
use Rattle.authority_model.specs.Cookies.{cookie_text}
use Rattle.std.specs.Prelude.{codes}
use Rattle.authority_messages.specs.Values.{string, pairs, array, identity}
use Rattle.authority_messages.specs.Outgoing.{outgoing, MayBeSent, IsSent}
use Rattle.authority_messages.specs.Messages.{asking, agent_path}
use Rattle.authority_messages.proofs.Plain.{plain_text}
use Rattle.authority_messages.proofs.Signatures.{begin_sig}
use Rattle.authority_messages.proofs.Sent.{call_is}
use Rattle.authority_messages.proofs.Sending.{call_same, path_text, path_form, begin_sent}
use Rattle.authority_messages.proofs.calls.asking.Goals as goal

pub returns : goal.returns
returns c =
    let path = c.args.dialogue.path.now in
    let action = c.args.dialogue.action.now in
    let text = c.args.dialogue.text.now in
    let icon = c.args.dialogue.icon.now in
    let cookie = c.args.dialogue.cookie in
    let values = string action ∷ string text ∷ string icon ∷ pairs c.args.details.now ∷ string (cookie_text cookie) ∷ array (codes "(sa{sv})") (map identity c.args.identities.now) ∷ [] in
    let rows = c.in_ok-body.ensures.values in
    let message : outgoing c.call_at.result ≡ asking path action text icon c.args.details.now cookie c.args.identities.now = c.call_at.ensures.message 5 values rows ∙ call_same 0 _ _ _ _ _ _ values values c.in_ok-member.ensures.path c.in_ok-member.ensures.interface c.in_ok-member.ensures.member refl in
    let form : MayBeSent (asking path action text icon c.args.details.now cookie c.args.identities.now) = call_is 0 (agent_path path) AGENT.now (codes "BeginAuthentication") values (lit< tt) (path_text path c.of_agent.ensures.known) (path_form path) (plain_text AGENT.now refl) (plain_text (codes "BeginAuthentication") refl) begin_sig (rows.fit 64 (omega arith)) in
    record {
      message = message;
      form = subst MayBeSent (sym message) form;
      sent = λ none nobody. let same : asking path action text icon c.args.details.now cookie c.args.identities.now ≡ asking path action text icon [] cookie [] = ap (λ (ps : List Pair). asking path action text icon ps cookie c.args.identities.now) none ∙ ap (λ (is : List Identity). asking path action text icon [] cookie is) nobody in subst IsSent (sym (message ∙ same)) (begin_sent path action text icon cookie c.of_agent.ensures.known c.arguments.ensures.action c.arguments.ensures.text c.arguments.ensures.icon c.arguments.ensures.cookie c.arguments.ensures.short (subst MayBeSent same form));
    }
