-- Actions, rules and what was skipped.
use Rattle.authority_model.specs.declared.policy.Localized.{Localized}
use Rattle.authority_model.specs.declared.policy.Action.{Action}
use Rattle.authority_model.specs.declared.policy.RuleEntry.{RuleEntry}
use Rattle.authority_model.specs.declared.load.FileFault.{FileFault}
use Rattle.audit_words.specs.Codecs.{Codec, Shape, shape, made, number, ◌&◌, option, list}
use Rattle.audit_words.specs.Escapes.{text, action_id}
use Rattle.audit_values.specs.Values.{implicit, pair}

abbrev pub localized_shape : Shape Localized
localized_shape = shape (text & text)
    (λ p. record { lang = p.0; text = p.1 })
    (λ v. (v.lang, v.text))

abbrev pub localized : Codec Localized
localized = made localized_shape

abbrev pub action_shape : Shape Action
action_shape = shape (action_id & list localized & list localized & text & text & text & implicit & implicit & implicit & list pair)
    (λ p. record { id = p.0; descriptions = p.1.0; messages = p.1.1.0; vendor = p.1.1.1.0; vendor_url = p.1.1.1.1.0; icon = p.1.1.1.1.1.0; any = p.1.1.1.1.1.1.0; inactive = p.1.1.1.1.1.1.1.0; active = p.1.1.1.1.1.1.1.1.0; annotations = p.1.1.1.1.1.1.1.1.1 })
    (λ v. (v.id, (v.descriptions, (v.messages, (v.vendor, (v.vendor_url, (v.icon, (v.any, (v.inactive, (v.active, v.annotations))))))))))

abbrev pub action : Codec Action
action = made action_shape

abbrev pub rule_entry_shape : Shape RuleEntry
rule_entry_shape = shape (list text & list text & option implicit & option implicit & option implicit & list pair)
    (λ p. record { identities = p.0; actions = p.1.0; any = p.1.1.0; inactive = p.1.1.1.0; active = p.1.1.1.1.0; pairs = p.1.1.1.1.1 })
    (λ v. (v.identities, (v.actions, (v.any, (v.inactive, (v.active, v.pairs))))))

abbrev pub rule_entry : Codec RuleEntry
rule_entry = made rule_entry_shape

abbrev pub file_fault_shape : Shape FileFault
file_fault_shape = shape (text & text & number 64)
    (λ p. record { file = p.0; kind = p.1.0; at = p.1.1 })
    (λ v. (v.file, (v.kind, v.at)))

abbrev pub file_fault : Codec FileFault
file_fault = made file_fault_shape
