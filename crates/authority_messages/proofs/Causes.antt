-- The names and texts of errors are spelled out.
use Rattle.std.proofs.Common.{◌≡◌, true, refl}
use Rattle.authority_model.specs.declared.message.ErrorCause.{ErrorCause}
use Rattle.authority_model.specs.Causes.{error_name, error_text}
use Rattle.authority_messages.specs.Plain.{is_plain}

pub name_plain : (cause : ErrorCause) → is_plain (error_name cause) ≡ true
name_plain ErrorCause.IdInUse = refl
name_plain ErrorCause.UnknownAction = refl
name_plain ErrorCause.UnknownSubject = refl
name_plain ErrorCause.NotTrusted = refl
name_plain ErrorCause.TooManyPending = refl
name_plain ErrorCause.Cancelled = refl
name_plain ErrorCause.NoSuchId = refl
name_plain ErrorCause.NotPrivileged = refl
name_plain ErrorCause.NoSuchCookie = refl
name_plain ErrorCause.NotOffered = refl
name_plain ErrorCause.AgentExists = refl
name_plain ErrorCause.NoSuchAgent = refl
name_plain ErrorCause.NotYours = refl
name_plain ErrorCause.NoSuchGrant = refl
name_plain ErrorCause.UnknownObject = refl
name_plain ErrorCause.UnknownMethod = refl
name_plain ErrorCause.InvalidArgs = refl
name_plain ErrorCause.BadAnnounce = refl

pub text_plain : (cause : ErrorCause) → is_plain (error_text cause) ≡ true
text_plain ErrorCause.IdInUse = refl
text_plain ErrorCause.UnknownAction = refl
text_plain ErrorCause.UnknownSubject = refl
text_plain ErrorCause.NotTrusted = refl
text_plain ErrorCause.TooManyPending = refl
text_plain ErrorCause.Cancelled = refl
text_plain ErrorCause.NoSuchId = refl
text_plain ErrorCause.NotPrivileged = refl
text_plain ErrorCause.NoSuchCookie = refl
text_plain ErrorCause.NotOffered = refl
text_plain ErrorCause.AgentExists = refl
text_plain ErrorCause.NoSuchAgent = refl
text_plain ErrorCause.NotYours = refl
text_plain ErrorCause.NoSuchGrant = refl
text_plain ErrorCause.UnknownObject = refl
text_plain ErrorCause.UnknownMethod = refl
text_plain ErrorCause.InvalidArgs = refl
text_plain ErrorCause.BadAnnounce = refl
