use Rattle.std.proofs.Common.{◌≡◌, ◌<◌, ◌^◌, ◌∙◌, ap, sym, subst, List, Option, Some, None, arith}
use Rattle.std.specs.Prelude.{IfOk}
use Rattle.std.specs.Option.{option_map_or}
use Rattle.entry_changes.specs.declared.change.EntryChange.{EntryChange}
use Rattle.entry_changes.specs.declared.change.GrantChange.{GrantChange}
use Rattle.authority_model.specs.declared.message.ErrorCause.{ErrorCause}
use Rattle.authority_model.specs.declared.message.Output.{Output}
use Rattle.authority_model.specs.declared.verdict.GrantRow.{GrantRow}
use Rattle.authority_model.specs.Answers.{answer_revoke, refuse}
use Rattle.entry_changes.specs.Changes.{grant_named, revoking}
use Rattle.authority_model.specs.Grants.{kept, made}
use Rattle.event_answers.specs.Asked.{of_grants, reply_of}
use Rattle.event_answers.proofs.GrantTexts.{revoke_told, none_told}
use Rattle.event_answers.proofs.granting.revoke_named.Goals as goal

pub returns-in-Some : goal.returns-in-Some
returns-in-Some g c =
    let x = c.args.asking in
    let id = c.args.id.now in
    record {
      outputs = λ past is count.
          let e : grant_named id (kept past) ≡ Some c.in-Some.grant.now = sym (c.in-Some.ensures.row ∙ ap (grant_named id) is.seen.grants_are) in
          let small : made past < 2 ^ 64 = omega (arith, count) in
          subst (λ (ys : List Output). IfOk c.revoke.result (λ a. a.outputs ≡ ys)) (revoke_told past id x.occasion.moment c.in-Some.grant.now small e (answer_revoke past x.to.caller (reply_of x.to)) (refuse (reply_of x.to) ErrorCause.NoSuchGrant)) (c.revoke.ensures.outputs past is);
      change = λ past is.
          let e : Some c.in-Some.grant.now ≡ grant_named id (kept past) = c.in-Some.ensures.row ∙ ap (grant_named id) is.seen.grants_are in
          subst (λ (ch : EntryChange). IfOk c.revoke.result (λ a. a.change ≡ ch)) (ap (λ (o : Option GrantRow). of_grants (option_map_or (revoking past x.to.caller) o GrantChange.Keep)) e) (c.revoke.ensures.change past is);
    }

pub returns-in-None : goal.returns-in-None
returns-in-None g c =
    let x = c.args.asking in
    let id = c.args.id.now in
    record {
      outputs = λ past is count.
          let e : grant_named id (kept past) ≡ None = sym (c.in-None.ensures.row ∙ ap (grant_named id) is.seen.grants_are) in
          subst (λ (ys : List Output). IfOk c.refuse.result (λ a. a.outputs ≡ ys)) (none_told id x.occasion.moment (kept past) e (answer_revoke past x.to.caller (reply_of x.to)) (refuse (reply_of x.to) ErrorCause.NoSuchGrant)) c.refuse.ensures.outputs;
      change = λ past is.
          let e : None ≡ grant_named id (kept past) = c.in-None.ensures.row ∙ ap (grant_named id) is.seen.grants_are in
          subst (λ (ch : EntryChange). IfOk c.refuse.result (λ a. a.change ≡ ch)) (ap (λ (o : Option GrantRow). of_grants (option_map_or (revoking past x.to.caller) o GrantChange.Keep)) e) c.refuse.ensures.change;
    }
