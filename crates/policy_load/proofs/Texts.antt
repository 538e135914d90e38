-- The names of faults are texts.
use Rattle.std.proofs.Common.{refl, arith}
use Rattle.std.specs.Prelude.{codes}
use Rattle.pk_types.specs.Text.{IsText}
use Rattle.keyfile_text.specs.Names.{fault_name}
use Rattle.keyfile_text.specs.declared.fault.KeyFaultKind.{KeyFaultKind}
use Rattle.keyfile_text.specs.declared.fault.KeyFaultKind.TheVariants as key
use Rattle.pkla_files.specs.Faults.{kind_name}
use Rattle.pkla_files.specs.declared.fault.PklaFaultKind.{PklaFaultKind}
use Rattle.pkla_files.specs.declared.fault.PklaFaultKind.TheVariants as pkla
use Rattle.pk_types.proofs.Texts.{plain_text}
use Rattle.xml_pieces.specs.declared.fault.XmlFaultKind.{XmlFaultKind}
use Rattle.xml_pieces.specs.declared.fault.XmlFaultKind.TheVariants as xml
use Rattle.xml_pieces.specs.Names.{fault_name as xml_fault_name}

pub key_text : (kind : KeyFaultKind) → IsText (fault_name kind)
key_text key.NotUtf8 = plain_text (codes "NotUtf8") refl (omega arith)
key_text key.NoGroup = plain_text (codes "NoGroup") refl (omega arith)
key_text key.BadHeader = plain_text (codes "BadHeader") refl (omega arith)
key_text key.NoEquals = plain_text (codes "NoEquals") refl (omega arith)
key_text key.BadEscape = plain_text (codes "BadEscape") refl (omega arith)
key_text key.TooLong = plain_text (codes "TooLong") refl (omega arith)
key_text key.NoMemory = plain_text (codes "NoMemory") refl (omega arith)

pub pkla_text : (kind : PklaFaultKind) → IsText (kind_name kind)
pkla_text pkla.MissingKey = plain_text (codes "MissingKey") refl (omega arith)
pkla_text pkla.ResultWord = plain_text (codes "ResultWord") refl (omega arith)
pkla_text pkla.Netgroup = plain_text (codes "Netgroup") refl (omega arith)
pkla_text pkla.ReturnValue = plain_text (codes "ReturnValue") refl (omega arith)
pkla_text pkla.NoMemory = plain_text (codes "NoMemory") refl (omega arith)

pub xml_text : (kind : XmlFaultKind) → IsText (xml_fault_name kind)
xml_text xml.NotUtf8 = plain_text (codes "NotUtf8") refl (omega arith)
xml_text xml.Malformed = plain_text (codes "Malformed") refl (omega arith)
xml_text xml.Mismatch = plain_text (codes "Mismatch") refl (omega arith)
xml_text xml.Element = plain_text (codes "Element") refl (omega arith)
xml_text xml.ActionId = plain_text (codes "ActionId") refl (omega arith)
xml_text xml.DefaultWord = plain_text (codes "DefaultWord") refl (omega arith)
xml_text xml.Missing = plain_text (codes "Missing") refl (omega arith)
xml_text xml.Repeated = plain_text (codes "Repeated") refl (omega arith)
xml_text xml.Cdata = plain_text (codes "Cdata") refl (omega arith)
xml_text xml.TooLong = plain_text (codes "TooLong") refl (omega arith)
xml_text xml.NoMemory = plain_text (codes "NoMemory") refl (omega arith)
