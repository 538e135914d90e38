-- What a file of these bytes is read as.
use Rattle.std.specs.Prelude.{◌≡◌, ℕ, ◌-◌, nat_lt, ◌==◌, List, [], ◌∷◌, drop, length, Option, Some, None, Result, Ok, Err, if◌then◌else◌}
use Rattle.std.specs.List.{starts_with}
use Rattle.pk_types.specs.Text.{text_bad}
use Rattle.authority_model.specs.declared.policy.Action.{Action}
use Rattle.xml_pieces.specs.declared.fault.Fault.{Fault}
use Rattle.action_xml.specs.declared.fault.XmlFault.{XmlFault}
use Rattle.xml_pieces.specs.declared.fault.XmlFaultKind.{XmlFaultKind}
use Rattle.xml_pieces.specs.declared.fault.XmlFaultKind.TheVariants as kind
use Rattle.action_drafts.specs.declared.draft.FileDraft.{FileDraft}
use Rattle.action_xml.specs.declared.file.ActionFile.{ActionFile}
use Rattle.action_xml.specs.declared.reading.TheConstants.{MAX_ACTION_FILE}
use Rattle.action_drafts.specs.Documents.{document}
use Rattle.action_drafts.specs.Finished.{all_finished}

-- the bytes without a byte order mark
abbrev pub without_mark : List ℕ → List ℕ
without_mark bytes = if starts_with (λ x y. x == y) bytes (239 ∷ 187 ∷ 191 ∷ []) then drop 3 bytes else bytes

-- the actions, or the fault with its place from the file's first byte
abbrev pub placed : ℕ → Result FileDraft Fault → Result (List Action) XmlFault
placed size (Ok f) = Ok (all_finished f)
placed size (Err fault) = Err (record { kind = fault.kind; at = size - fault.left })

abbrev pub actions_unless : Option ℕ → List ℕ → Result (List Action) XmlFault
actions_unless (Some at) bytes = Err (record { kind = kind.NotUtf8; at = at })
actions_unless None bytes = placed (length bytes) (document (without_mark bytes))

-- the actions of a file of at most 4 MiB that is UTF-8 without byte 0, or its first fault
abbrev pub actions_of : List ℕ → Result (List Action) XmlFault
actions_of bytes =
    if nat_lt MAX_ACTION_FILE (length bytes) then Err (record { kind = kind.TooLong; at = 0 })
    else actions_unless (text_bad bytes) bytes

-- the fault is the first one, and want of memory is free
abbrev pub IsFirstFault : XmlFaultKind → ℕ → Result (List Action) XmlFault → Type 0
IsFirstFault kind.NoMemory at due = Unit {0}
IsFirstFault fault at due = due ≡ Err (record { kind = fault; at = at })

abbrev pub AreRead : List ℕ → Result (List Action) XmlFault → Type 0
AreRead bytes (Ok actions) = actions_of bytes ≡ Ok actions
AreRead bytes (Err fault) = IsFirstFault fault.kind fault.at (actions_of bytes)

abbrev pub ReadAs : List ℕ → Result ActionFile XmlFault → Type 0
ReadAs bytes (Ok file) = actions_of bytes ≡ Ok file.actions
ReadAs bytes (Err fault) = IsFirstFault fault.kind fault.at (actions_of bytes)
