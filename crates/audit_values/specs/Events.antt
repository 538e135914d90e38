-- What happens to the authority.
use Rattle.std.specs.Prelude.{List, [], ◌∷◌, codes}
use Rattle.authority_model.specs.declared.event.Call.{Call}
use Rattle.authority_model.specs.declared.event.Call.TheVariants as call_is
use Rattle.authority_model.specs.declared.event.Event.{Event}
use Rattle.authority_model.specs.declared.event.Event.TheVariants as event_is
use Rattle.audit_words.specs.Codecs.{Codec, Spelled, named, Case, case, cases, number, boolean, nothing, ◌&◌, list}
use Rattle.audit_words.specs.Escapes.{text}
use Rattle.audit_values.specs.Values.{subject, pair, identity}
use Rattle.audit_values.specs.Answers.{error_cause}

abbrev pub call_spelled : Call → Spelled
call_spelled (call_is.Announce pid start) = named (codes "Announce") (number 32 & number 64) (pid, start)
call_spelled (call_is.Check about action details flags cancel) = named (codes "Check") (subject & text & list pair & number 32 & text) (about, (action, (details, (flags, cancel))))
call_spelled (call_is.Cancel cancel) = named (codes "Cancel") text cancel
call_spelled (call_is.Register about locale path) = named (codes "Register") (subject & text & text) (about, (locale, path))
call_spelled (call_is.Unregister about path) = named (codes "Unregister") (subject & text) (about, path)
call_spelled (call_is.Respond sign who) = named (codes "Respond") (text & identity) (sign, who)
call_spelled (call_is.EnumerateActions locale) = named (codes "EnumerateActions") text locale
call_spelled (call_is.EnumerateGrants about) = named (codes "EnumerateGrants") subject about
call_spelled (call_is.RevokeAll about) = named (codes "RevokeAll") subject about
call_spelled (call_is.RevokeOne id) = named (codes "RevokeOne") text id
call_spelled call_is.Reload = named (codes "Reload") nothing tt
call_spelled (call_is.Wrong cause) = named (codes "Wrong") error_cause cause

abbrev pub call_cases : List (Case Call)
call_cases = case (codes "Announce") (number 32 & number 64) (λ p. call_is.Announce p.0 p.1)
    ∷ case (codes "Check") (subject & text & list pair & number 32 & text) (λ p. call_is.Check p.0 p.1.0 p.1.1.0 p.1.1.1.0 p.1.1.1.1)
    ∷ case (codes "Cancel") text (λ p. call_is.Cancel p)
    ∷ case (codes "Register") (subject & text & text) (λ p. call_is.Register p.0 p.1.0 p.1.1)
    ∷ case (codes "Unregister") (subject & text) (λ p. call_is.Unregister p.0 p.1)
    ∷ case (codes "Respond") (text & identity) (λ p. call_is.Respond p.0 p.1)
    ∷ case (codes "EnumerateActions") text (λ p. call_is.EnumerateActions p)
    ∷ case (codes "EnumerateGrants") subject (λ p. call_is.EnumerateGrants p)
    ∷ case (codes "RevokeAll") subject (λ p. call_is.RevokeAll p)
    ∷ case (codes "RevokeOne") text (λ p. call_is.RevokeOne p)
    ∷ case (codes "Reload") nothing (λ p. call_is.Reload)
    ∷ case (codes "Wrong") error_cause (λ p. call_is.Wrong p)
    ∷ []

abbrev pub call : Codec Call
call = cases call_spelled call_cases

abbrev pub event_spelled : Event → Spelled
event_spelled (event_is.Connect uid) = named (codes "Connect") (number 32) uid
event_spelled (event_is.Call serial quiet asked) = named (codes "Call") (number 32 & boolean & call) (serial, (quiet, asked))
event_spelled (event_is.Returned serial) = named (codes "Returned") (number 32) serial
event_spelled (event_is.AgentError serial name) = named (codes "AgentError") (number 32 & text) (serial, name)
event_spelled event_is.Passed = named (codes "Passed") nothing tt
event_spelled event_is.Depart = named (codes "Depart") nothing tt
event_spelled (event_is.Load load) = named (codes "Load") (number 32) load
event_spelled (event_is.LoadFailed code) = named (codes "LoadFailed") (number 32) code
event_spelled event_is.Stop = named (codes "Stop") nothing tt
event_spelled (event_is.Collect of) = named (codes "Collect") (number 32) of

abbrev pub event_cases : List (Case Event)
event_cases = case (codes "Connect") (number 32) (λ p. event_is.Connect p)
    ∷ case (codes "Call") (number 32 & boolean & call) (λ p. event_is.Call p.0 p.1.0 p.1.1)
    ∷ case (codes "Returned") (number 32) (λ p. event_is.Returned p)
    ∷ case (codes "AgentError") (number 32 & text) (λ p. event_is.AgentError p.0 p.1)
    ∷ case (codes "Passed") nothing (λ p. event_is.Passed)
    ∷ case (codes "Depart") nothing (λ p. event_is.Depart)
    ∷ case (codes "Load") (number 32) (λ p. event_is.Load p)
    ∷ case (codes "LoadFailed") (number 32) (λ p. event_is.LoadFailed p)
    ∷ case (codes "Stop") nothing (λ p. event_is.Stop)
    ∷ case (codes "Collect") (number 32) (λ p. event_is.Collect p)
    ∷ []

abbrev pub event : Codec Event
event = cases event_spelled event_cases
