-- Messages, and entries of a journal.
use Rattle.std.specs.Prelude.{List, [], ◌∷◌, codes}
use Rattle.authority_model.specs.declared.message.Message.{Message}
use Rattle.authority_model.specs.declared.message.Message.TheVariants as message_is
use Rattle.authority_model.specs.declared.message.Output.{Output}
use Rattle.authority_model.specs.declared.journal.Entry.{Entry}
use Rattle.audit_words.specs.Codecs.{Codec, Shape, shape, made, Spelled, named, Case, case, cases, number, nothing, ◌&◌, list}
use Rattle.audit_words.specs.Escapes.{text}
use Rattle.audit_words.specs.Salts.{salt, cookie}
use Rattle.audit_values.specs.Answers.{answer}
use Rattle.audit_values.specs.Values.{pair, identity}
use Rattle.audit_values.specs.Events.{event}

abbrev pub message_spelled : Message → Spelled
message_spelled (message_is.Reply serial told) = named (codes "Reply") (number 32 & answer) (serial, told)
message_spelled (message_is.Begin path action shown icon details sign identities) = named (codes "Begin") (text & text & text & text & list pair & cookie & list identity) (path, (action, (shown, (icon, (details, (sign, identities))))))
message_spelled (message_is.CancelBegin path sign) = named (codes "CancelBegin") (text & cookie) (path, sign)
message_spelled message_is.Changed = named (codes "Changed") nothing tt
message_spelled message_is.LoadWanted = named (codes "LoadWanted") nothing tt
message_spelled message_is.StopWanted = named (codes "StopWanted") nothing tt

abbrev pub message_cases : List (Case Message)
message_cases = case (codes "Reply") (number 32 & answer) (λ p. message_is.Reply p.0 p.1)
    ∷ case (codes "Begin") (text & text & text & text & list pair & cookie & list identity) (λ p. message_is.Begin p.0 p.1.0 p.1.1.0 p.1.1.1.0 p.1.1.1.1.0 p.1.1.1.1.1.0 p.1.1.1.1.1.1)
    ∷ case (codes "CancelBegin") (text & cookie) (λ p. message_is.CancelBegin p.0 p.1)
    ∷ case (codes "Changed") nothing (λ p. message_is.Changed)
    ∷ case (codes "LoadWanted") nothing (λ p. message_is.LoadWanted)
    ∷ case (codes "StopWanted") nothing (λ p. message_is.StopWanted)
    ∷ []

abbrev pub message : Codec Message
message = cases message_spelled message_cases

abbrev pub output_shape : Shape Output
output_shape = shape (number 32 & message)
    (λ p. record { to = p.0; message = p.1 })
    (λ v. (v.to, v.message))

abbrev pub output : Codec Output
output = made output_shape

abbrev pub entry_shape : Shape Entry
entry_shape = shape (number 32 & number 64 & salt & event & list output)
    (λ p. record { caller = p.0; moment = p.1.0; salt = p.1.1.0; event = p.1.1.1.0; outputs = p.1.1.1.1 })
    (λ v. (v.caller, (v.moment, (v.salt, (v.event, v.outputs)))))

abbrev pub entry : Codec Entry
entry = made entry_shape
