use Rattle.std.proofs.Common.{sym, ◌∙◌, subst, refl, arith}
use Rattle.pk_types.specs.Text.{IsText}
use Rattle.script_agent.specs.Challenges.{response}
use Rattle.script_agent.proofs.asking.response.Goals as goal

pub returns-clause-short : goal.returns-clause-short
returns-clause-short c =
    c.a_call_without_details_is_short.ensures.short (response c.in_ok-cookie.cookie c.args.uid) refl (subst IsText (sym (c.in_ok-cookie.ensures.text ∙ c.bytes.ensures.bytes)) c.bytes.ensures.text, omega arith) refl
