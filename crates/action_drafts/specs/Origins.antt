-- The elements `vendor`, `vendor_url` and `icon_name`, of an action and of a file.
use Rattle.std.specs.Prelude.{ℕ, false, if◌then◌else◌, List, Option, Some, None, is_some, codes, bytes_eq, Result, Ok}
use Rattle.xml_pieces.specs.declared.fault.Fault.{Fault}
use Rattle.xml_pieces.specs.declared.fault.XmlFaultKind.TheVariants as kind
use Rattle.xml_pieces.specs.Reading.{◌>>=◌, fault_at}
use Rattle.xml_pieces.specs.Bytes.{name}
use Rattle.xml_pieces.specs.Texts.{tag, text}
use Rattle.action_drafts.specs.declared.draft.Origin.{Origin}
use Rattle.action_drafts.specs.declared.draft.OriginPart.{OriginPart}
use Rattle.action_drafts.specs.declared.draft.OriginPart.TheVariants as part

abbrev pub no_origin : Origin
no_origin = record { vendor = None; vendor_url = None; icon = None }

-- vendor, vendor_url and icon_name
abbrev pub origin_part : List ℕ → Option OriginPart
origin_part name =
    if bytes_eq name (codes "vendor") then Some part.Vendor
    else (if bytes_eq name (codes "vendor_url") then Some part.VendorUrl
    else (if bytes_eq name (codes "icon_name") then Some part.Icon else None))

abbrev pub origin_of : OriginPart → Origin → Option (List ℕ)
origin_of part.Vendor o = o.vendor
origin_of part.VendorUrl o = o.vendor_url
origin_of part.Icon o = o.icon

abbrev pub with_origin : OriginPart → List ℕ → Origin → Origin
with_origin part.Vendor t o = record o { vendor = Some t }
with_origin part.VendorUrl t o = record o { vendor_url = Some t }
with_origin part.Icon t o = record o { icon = Some t }

-- one of these elements, behind its name: it may stand once
unfoldable pub origin_element : OriginPart → List ℕ → List ℕ → Origin → List ℕ → Result (Origin × List ℕ) Fault
origin_element which name place o rest =
    if is_some (origin_of which o) then fault_at kind.Repeated place else (do
      t ← tag false rest
      (text, behind) ← text name place t
      Ok (with_origin which text o, behind))
