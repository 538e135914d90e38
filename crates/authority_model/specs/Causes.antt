-- How each refusal is sent: the name of its error, the word that a scenario prints, and the text of the error message.
use Rattle.std.specs.Prelude.{Bool, true, false, ◌++◌, if◌then◌else◌, codes}
use Rattle.authority_model.specs.declared.message.ErrorCause.{ErrorCause}
use Rattle.authority_model.specs.Words.{Bytes}

-- whether the error is one of the D-Bus Specification, and not of polkit
abbrev pub is_bus_error : ErrorCause → Bool
is_bus_error ErrorCause.TooManyPending = true
is_bus_error ErrorCause.UnknownObject = true
is_bus_error ErrorCause.UnknownMethod = true
is_bus_error ErrorCause.InvalidArgs = true
is_bus_error _ = false

-- the last part of the error's name
abbrev pub error_last_part : ErrorCause → Bytes
error_last_part ErrorCause.IdInUse = codes "CancellationIdNotUnique"
error_last_part ErrorCause.UnknownAction = codes "Failed"
error_last_part ErrorCause.UnknownSubject = codes "Failed"
error_last_part ErrorCause.NotTrusted = codes "NotAuthorized"
error_last_part ErrorCause.TooManyPending = codes "LimitsExceeded"
error_last_part ErrorCause.Cancelled = codes "Cancelled"
error_last_part ErrorCause.NoSuchId = codes "Failed"
error_last_part ErrorCause.NotPrivileged = codes "NotAuthorized"
error_last_part ErrorCause.NoSuchCookie = codes "Failed"
error_last_part ErrorCause.NotOffered = codes "Failed"
error_last_part ErrorCause.AgentExists = codes "Failed"
error_last_part ErrorCause.NoSuchAgent = codes "Failed"
error_last_part ErrorCause.NotYours = codes "NotAuthorized"
error_last_part ErrorCause.NoSuchGrant = codes "Failed"
error_last_part ErrorCause.UnknownObject = codes "UnknownObject"
error_last_part ErrorCause.UnknownMethod = codes "UnknownMethod"
error_last_part ErrorCause.InvalidArgs = codes "InvalidArgs"
error_last_part ErrorCause.BadAnnounce = codes "Failed"

-- the error's name
abbrev pub error_name : ErrorCause → Bytes
error_name cause = (if is_bus_error cause then codes "org.freedesktop.DBus.Error." else codes "org.freedesktop.PolicyKit1.Error.") ++ error_last_part cause

-- the word that a scenario prints
abbrev pub error_word : ErrorCause → Bytes
error_word ErrorCause.IdInUse = codes "id-in-use"
error_word ErrorCause.UnknownAction = codes "unknown-action"
error_word ErrorCause.UnknownSubject = codes "unknown-subject"
error_word ErrorCause.NotTrusted = codes "not-trusted"
error_word ErrorCause.TooManyPending = codes "too-many-pending"
error_word ErrorCause.Cancelled = codes "cancelled"
error_word ErrorCause.NoSuchId = codes "no-such-id"
error_word ErrorCause.NotPrivileged = codes "not-privileged"
error_word ErrorCause.NoSuchCookie = codes "no-such-cookie"
error_word ErrorCause.NotOffered = codes "not-offered"
error_word ErrorCause.AgentExists = codes "agent-exists"
error_word ErrorCause.NoSuchAgent = codes "no-such-agent"
error_word ErrorCause.NotYours = codes "not-yours"
error_word ErrorCause.NoSuchGrant = codes "no-such-grant"
error_word ErrorCause.UnknownObject = codes "unknown-object"
error_word ErrorCause.UnknownMethod = codes "unknown-method"
error_word ErrorCause.InvalidArgs = codes "invalid-args"
error_word ErrorCause.BadAnnounce = codes "bad-announce"

-- the text of the error message
abbrev pub error_text : ErrorCause → Bytes
error_text ErrorCause.IdInUse = codes "The cancellation id is in use"
error_text ErrorCause.UnknownAction = codes "The action is not registered"
error_text ErrorCause.UnknownSubject = codes "The subject is not known"
error_text ErrorCause.NotTrusted = codes "Only uid 0 or an action owner may ask this"
error_text ErrorCause.TooManyPending = codes "Too many pending checks"
error_text ErrorCause.Cancelled = codes "The check was cancelled"
error_text ErrorCause.NoSuchId = codes "No pending check has this cancellation id"
error_text ErrorCause.NotPrivileged = codes "Only uid 0 may do this"
error_text ErrorCause.NoSuchCookie = codes "No pending challenge has this cookie"
error_text ErrorCause.NotOffered = codes "The identity was not offered"
error_text ErrorCause.AgentExists = codes "An agent is registered for the subject"
error_text ErrorCause.NoSuchAgent = codes "No such agent is registered"
error_text ErrorCause.NotYours = codes "The subject belongs to another user"
error_text ErrorCause.NoSuchGrant = codes "No such temporary authorization"
error_text ErrorCause.UnknownObject = codes "No such object"
error_text ErrorCause.UnknownMethod = codes "No such method"
error_text ErrorCause.InvalidArgs = codes "Wrong arguments"
error_text ErrorCause.BadAnnounce = codes "The process is not listed for this user"
