-- An action file, apart from any reading: what a document is made of stands in the crate of the laws.
use Rattle.std.specs.Prelude.{◌≡◌, ℕ, ◌≤◌, Bool, true, false, List, [], ◌∷◌, ◌++◌, length, Result, Ok, Err}
use Rattle.keyfile_text.specs.Bytes.{IsClean}
use Rattle.authority_model.specs.declared.policy.Action.{Action}
use Rattle.xml_pieces.specs.declared.fault.XmlFaultKind.TheVariants as kind
use Rattle.action_drafts.specs.declared.draft.FileDraft.{FileDraft}
use Rattle.action_drafts.specs.Finished.{all_finished}
use Rattle.action_xml.specs.DocumentForm.{Document, document_bytes, SaysDocument}
use Rattle.action_xml.specs.declared.fault.XmlFault.{XmlFault}
use Rattle.action_xml.specs.declared.file.ActionFile.{ActionFile}
use Rattle.action_xml.specs.declared.reading.TheConstants.{MAX_ACTION_FILE}

-- a byte order mark, or none
abbrev pub mark_bytes : Bool → List ℕ
mark_bytes true = 239 ∷ 187 ∷ 191 ∷ []
mark_bytes false = []

-- The bytes are an action file that says these actions: UTF-8 without byte 0, not too many, a byte order mark or none, and a document
-- whose root says them, where an action's own vendor, URL and icon replace the file's and a default that is missing is `no`.
pub record IsActionFile (bytes : List ℕ) (actions : List Action) : Type 0 where
  pub size : length bytes ≤ MAX_ACTION_FILE
  pub clean : IsClean bytes
  pub has_mark : Bool
  pub document : Document
  pub bytes_are : bytes ≡ mark_bytes has_mark ++ document_bytes document
  pub says : FileDraft
  pub is_document : SaysDocument document says
  pub actions_are : actions ≡ all_finished says

-- these actions, unless memory was refused
abbrev pub AnswersWith : List Action → Result ActionFile XmlFault → Type 0
AnswersWith actions (Ok file) = file.actions ≡ actions
AnswersWith actions (Err fault) = fault.kind ≡ kind.NoMemory
