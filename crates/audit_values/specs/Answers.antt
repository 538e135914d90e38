-- What calls are answered.
use Rattle.std.specs.Prelude.{ℕ, List, [], ◌∷◌, codes}
use Rattle.authority_model.specs.declared.key.Key.{Key}
use Rattle.authority_model.specs.declared.key.Key.TheVariants as key_is
use Rattle.authority_model.specs.declared.verdict.Reason.{Reason}
use Rattle.authority_model.specs.declared.verdict.Reason.TheVariants as reason_is
use Rattle.authority_model.specs.declared.verdict.Verdict.{Verdict}
use Rattle.authority_model.specs.declared.verdict.GrantRow.{GrantRow}
use Rattle.authority_model.specs.declared.message.ErrorCause.{ErrorCause}
use Rattle.authority_model.specs.declared.message.ErrorCause.TheVariants as error_cause_is
use Rattle.authority_model.specs.declared.message.Answer.{Answer}
use Rattle.authority_model.specs.declared.message.Answer.TheVariants as answer_is
use Rattle.audit_words.specs.Codecs.{Codec, Shape, shape, made, Spelled, named, Case, case, cases, name_among, number, boolean, nothing, ◌&◌, option, list}
use Rattle.audit_words.specs.Escapes.{text}
use Rattle.audit_values.specs.Values.{category, pair}

abbrev pub key_spelled : Key → Spelled
key_spelled (key_is.Process pid start uid) = named (codes "Process") (number 32 & number 64 & number 32) (pid, (start, uid))
key_spelled (key_is.Session id uid) = named (codes "Session") (text & number 32) (id, uid)

abbrev pub key_cases : List (Case Key)
key_cases = case (codes "Process") (number 32 & number 64 & number 32) (λ p. key_is.Process p.0 p.1.0 p.1.1)
    ∷ case (codes "Session") (text & number 32) (λ p. key_is.Session p.0 p.1)
    ∷ []

abbrev pub key : Codec Key
key = cases key_spelled key_cases

abbrev pub reason_spelled : Reason → Spelled
reason_spelled reason_is.Root = named (codes "Root") nothing tt
reason_spelled (reason_is.Default c) = named (codes "Default") category c
reason_spelled (reason_is.Entry n) = named (codes "Entry") (number 32) n
reason_spelled (reason_is.Grant n) = named (codes "Grant") (number 64) n
reason_spelled (reason_is.Imply t) = named (codes "Imply") text t
reason_spelled reason_is.Challenge = named (codes "Challenge") nothing tt
reason_spelled reason_is.Dismissed = named (codes "Dismissed") nothing tt
reason_spelled reason_is.AgentGone = named (codes "AgentGone") nothing tt
reason_spelled reason_is.SubjectGone = named (codes "SubjectGone") nothing tt
reason_spelled reason_is.ActionGone = named (codes "ActionGone") nothing tt
reason_spelled reason_is.IdentityGone = named (codes "IdentityGone") nothing tt

abbrev pub reason_cases : List (Case Reason)
reason_cases = case (codes "Root") nothing (λ p. reason_is.Root)
    ∷ case (codes "Default") category (λ p. reason_is.Default p)
    ∷ case (codes "Entry") (number 32) (λ p. reason_is.Entry p)
    ∷ case (codes "Grant") (number 64) (λ p. reason_is.Grant p)
    ∷ case (codes "Imply") text (λ p. reason_is.Imply p)
    ∷ case (codes "Challenge") nothing (λ p. reason_is.Challenge)
    ∷ case (codes "Dismissed") nothing (λ p. reason_is.Dismissed)
    ∷ case (codes "AgentGone") nothing (λ p. reason_is.AgentGone)
    ∷ case (codes "SubjectGone") nothing (λ p. reason_is.SubjectGone)
    ∷ case (codes "ActionGone") nothing (λ p. reason_is.ActionGone)
    ∷ case (codes "IdentityGone") nothing (λ p. reason_is.IdentityGone)
    ∷ []

abbrev pub reason : Codec Reason
reason = cases reason_spelled reason_cases

abbrev pub verdict_shape : Shape Verdict
verdict_shape = shape (boolean & boolean & reason & boolean & option (number 64) & list pair)
    (λ p. record { yes = p.0; challenge = p.1.0; reason = p.1.1.0; keep = p.1.1.1.0; grant = p.1.1.1.1.0; pairs = p.1.1.1.1.1 })
    (λ v. (v.yes, (v.challenge, (v.reason, (v.keep, (v.grant, v.pairs))))))

abbrev pub verdict : Codec Verdict
verdict = made verdict_shape

abbrev pub grant_row_shape : Shape GrantRow
grant_row_shape = shape (number 64 & text & key & number 64 & number 64)
    (λ p. record { id = p.0; action = p.1.0; key = p.1.1.0; obtained = p.1.1.1.0; expires = p.1.1.1.1 })
    (λ v. (v.id, (v.action, (v.key, (v.obtained, v.expires)))))

abbrev pub grant_row : Codec GrantRow
grant_row = made grant_row_shape

abbrev pub error_cause_name : ErrorCause → List ℕ
error_cause_name error_cause_is.IdInUse = codes "IdInUse"
error_cause_name error_cause_is.UnknownAction = codes "UnknownAction"
error_cause_name error_cause_is.UnknownSubject = codes "UnknownSubject"
error_cause_name error_cause_is.NotTrusted = codes "NotTrusted"
error_cause_name error_cause_is.TooManyPending = codes "TooManyPending"
error_cause_name error_cause_is.Cancelled = codes "Cancelled"
error_cause_name error_cause_is.NoSuchId = codes "NoSuchId"
error_cause_name error_cause_is.NotPrivileged = codes "NotPrivileged"
error_cause_name error_cause_is.NoSuchCookie = codes "NoSuchCookie"
error_cause_name error_cause_is.NotOffered = codes "NotOffered"
error_cause_name error_cause_is.AgentExists = codes "AgentExists"
error_cause_name error_cause_is.NoSuchAgent = codes "NoSuchAgent"
error_cause_name error_cause_is.NotYours = codes "NotYours"
error_cause_name error_cause_is.NoSuchGrant = codes "NoSuchGrant"
error_cause_name error_cause_is.UnknownObject = codes "UnknownObject"
error_cause_name error_cause_is.UnknownMethod = codes "UnknownMethod"
error_cause_name error_cause_is.InvalidArgs = codes "InvalidArgs"
error_cause_name error_cause_is.BadAnnounce = codes "BadAnnounce"

abbrev pub error_cause_names : List (List ℕ × ErrorCause)
error_cause_names = (codes "IdInUse", error_cause_is.IdInUse)
    ∷ (codes "UnknownAction", error_cause_is.UnknownAction)
    ∷ (codes "UnknownSubject", error_cause_is.UnknownSubject)
    ∷ (codes "NotTrusted", error_cause_is.NotTrusted)
    ∷ (codes "TooManyPending", error_cause_is.TooManyPending)
    ∷ (codes "Cancelled", error_cause_is.Cancelled)
    ∷ (codes "NoSuchId", error_cause_is.NoSuchId)
    ∷ (codes "NotPrivileged", error_cause_is.NotPrivileged)
    ∷ (codes "NoSuchCookie", error_cause_is.NoSuchCookie)
    ∷ (codes "NotOffered", error_cause_is.NotOffered)
    ∷ (codes "AgentExists", error_cause_is.AgentExists)
    ∷ (codes "NoSuchAgent", error_cause_is.NoSuchAgent)
    ∷ (codes "NotYours", error_cause_is.NotYours)
    ∷ (codes "NoSuchGrant", error_cause_is.NoSuchGrant)
    ∷ (codes "UnknownObject", error_cause_is.UnknownObject)
    ∷ (codes "UnknownMethod", error_cause_is.UnknownMethod)
    ∷ (codes "InvalidArgs", error_cause_is.InvalidArgs)
    ∷ (codes "BadAnnounce", error_cause_is.BadAnnounce)
    ∷ []

abbrev pub error_cause : Codec ErrorCause
error_cause = name_among error_cause_name error_cause_names

abbrev pub answer_spelled : Answer → Spelled
answer_spelled (answer_is.Verdict v) = named (codes "Verdict") verdict v
answer_spelled answer_is.Done = named (codes "Done") nothing tt
answer_spelled (answer_is.Name t) = named (codes "Name") text t
answer_spelled (answer_is.Actions load locale) = named (codes "Actions") (number 32 & text) (load, locale)
answer_spelled (answer_is.Grants rows) = named (codes "Grants") (list grant_row) rows
answer_spelled (answer_is.Refused c) = named (codes "Refused") error_cause c

abbrev pub answer_cases : List (Case Answer)
answer_cases = case (codes "Verdict") verdict (λ p. answer_is.Verdict p)
    ∷ case (codes "Done") nothing (λ p. answer_is.Done)
    ∷ case (codes "Name") text (λ p. answer_is.Name p)
    ∷ case (codes "Actions") (number 32 & text) (λ p. answer_is.Actions p.0 p.1)
    ∷ case (codes "Grants") (list grant_row) (λ p. answer_is.Grants p)
    ∷ case (codes "Refused") error_cause (λ p. answer_is.Refused p)
    ∷ []

abbrev pub answer : Codec Answer
answer = cases answer_spelled answer_cases
