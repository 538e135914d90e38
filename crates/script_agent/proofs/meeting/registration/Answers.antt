use Rattle.std.proofs.Common.{sym, ◌∙◌, subst, refl}
use Rattle.pk_types.specs.Text.{IsText}
use Rattle.pk_types.specs.declared.values.Subject.TheVariants as subject
use Rattle.authority_model.specs.declared.event.Call.TheVariants as call
use Rattle.authority_messages.proofs.Plain.{plain_text}
use Rattle.script_agent.specs.declared.meeting.TheConstants.{LOCALE, AGENT_PATH}
use Rattle.script_agent.proofs.meeting.registration.Goals as goal

pub returns-clause-short : goal.returns-clause-short
returns-clause-short c =
    c.a_call_without_details_is_short.ensures.short (call.Register (subject.Session c.in_ok-id.id) c.in_ok-locale.locale c.in_ok-path.path) refl
    (subst IsText (sym (c.in_ok-id.ensures.text ∙ c.bytes.ensures.bytes)) c.bytes.ensures.text, subst IsText (sym c.in_ok-locale.ensures.text) (plain_text LOCALE.now refl), subst IsText (sym c.in_ok-path.ensures.text) (plain_text AGENT_PATH.now refl)) refl
