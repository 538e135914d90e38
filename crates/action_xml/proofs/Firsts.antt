-- The first fault, by its kind.
use Rattle.std.proofs.Common.{◌≡◌, ℕ, ◌-◌, List, Result, Err, ap}
use Rattle.authority_model.specs.declared.policy.Action.{Action}
use Rattle.xml_pieces.specs.declared.fault.Fault.{Fault}
use Rattle.action_xml.specs.declared.fault.XmlFault.{XmlFault}
use Rattle.xml_pieces.specs.declared.fault.XmlFaultKind.{XmlFaultKind}
use Rattle.xml_pieces.specs.declared.fault.XmlFaultKind.TheVariants as kind
use Rattle.action_drafts.specs.declared.draft.FileDraft.{FileDraft}
use Rattle.action_xml.specs.Files.{IsFirstFault, placed}

by_kind : (k : XmlFaultKind) (at : ℕ) (due : Result (List Action) XmlFault) → due ≡ Err (record { kind = k; at = at }) → IsFirstFault k at due
by_kind kind.NotUtf8 at due e = e
by_kind kind.Malformed at due e = e
by_kind kind.Mismatch at due e = e
by_kind kind.Element at due e = e
by_kind kind.ActionId at due e = e
by_kind kind.DefaultWord at due e = e
by_kind kind.Missing at due e = e
by_kind kind.Repeated at due e = e
by_kind kind.Cdata at due e = e
by_kind kind.TooLong at due e = e
by_kind kind.NoMemory at due e = tt

pub first_fault : (k : XmlFaultKind) (left size : ℕ) (due : Result FileDraft Fault) → due ≡ Err (record { kind = k; left = left }) → IsFirstFault k (size - left) (placed size due)
first_fault k left size due e = by_kind k (size - left) (placed size due) (ap (placed size) e)
