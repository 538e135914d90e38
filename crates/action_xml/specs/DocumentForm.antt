-- A whole document, apart from any reading. (In front of it a byte order mark may stand.)
use Rattle.std.specs.Prelude.{ℕ, List, ◌++◌, Option}
use Rattle.action_drafts.specs.declared.draft.FileDraft.{FileDraft}
use Rattle.action_xml.specs.RowForm.{Parent}
use Rattle.action_xml.specs.RootForm.{FilePart, SaysRoot, root_bytes}
use Rattle.action_xml.specs.PrologForm.{declaration_bytes, IsDeclaration, Misc, miscs_bytes, AreMiscs, Doctype, doctype_bytes, IsDoctype}

-- an XML declaration, what stands before the root with a DOCTYPE or without one, the root, and what stands behind it
pub record Document : Type 0 where
  pub declaration : Option (List ℕ)
  pub before : List Misc
  pub doctype : Option Doctype
  pub root : Parent FilePart
  pub behind : List Misc

abbrev pub document_bytes : Document → List ℕ
document_bytes d = declaration_bytes d.declaration ++ (miscs_bytes d.before ++ (doctype_bytes d.doctype ++ (root_bytes d.root ++ miscs_bytes d.behind)))

-- the document is well made, and its root says this
pub record SaysDocument (d : Document) (f : FileDraft) : Type 0 where
  pub declaration : IsDeclaration d.declaration
  pub before : AreMiscs d.before
  pub doctype : IsDoctype d.doctype
  pub root : SaysRoot d.root f
  pub behind : AreMiscs d.behind
