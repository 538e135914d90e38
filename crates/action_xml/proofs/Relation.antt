-- The reading of a file is tied to the relation of action files.
use Rattle.std.proofs.Common.{◌≡◌, ℕ, ◌≤◌, ◌==◌, nat_lt, List, [], ◌∷◌, ◌++◌, length, take, drop, Bool, true, false, Option, Some, None, Ok, Err, Result, refl, sym, ap, ◌∙◌, arith}
use Rattle.std.specs.Prelude.{if◌then◌else◌}
use Rattle.std.specs.List.{starts_with}
use Rattle.std.proofs.lemmas.Bool.Decides.{nat_tests}
use Rattle.std.proofs.lemmas.List.{take-append-drop}
use Rattle.std.proofs.lemmas.Slice.Eq.{bytes_eq-Decides}
use Rattle.pk_types.specs.Text.{text_bad}
use Rattle.keyfile_text.specs.Bytes.{IsClean}
use Rattle.keyfile_text.proofs.Cleans.{clean_of_bad}
use Rattle.authority_model.specs.declared.policy.Action.{Action}
use Rattle.xml_pieces.specs.declared.fault.Fault.{Fault}
use Rattle.xml_pieces.specs.declared.fault.XmlFaultKind.{XmlFaultKind}
use Rattle.xml_pieces.specs.declared.fault.XmlFaultKind.TheVariants as kind
use Rattle.action_drafts.specs.declared.draft.FileDraft.{FileDraft}
use Rattle.action_drafts.specs.Documents.{document}
use Rattle.action_drafts.specs.Finished.{all_finished}
use Rattle.action_xml.specs.DocumentForm.{document_bytes}
use Rattle.action_xml.proofs.DocumentAgain.{document_again, document_unmarked}
use Rattle.action_xml.proofs.DocumentFound.{document_found}
use Rattle.action_xml.specs.declared.fault.XmlFault.{XmlFault}
use Rattle.action_xml.specs.declared.reading.TheConstants.{MAX_ACTION_FILE}
use Rattle.action_xml.specs.Files.{without_mark, placed, actions_unless, actions_of, IsFirstFault}
use Rattle.action_xml.specs.ActionFiles.{mark_bytes, IsActionFile}
use Rattle.action_xml.proofs.Clean.{no_bad}

abbrev is_marked : List ℕ → Bool
is_marked bytes = starts_with (λ x y. x == y) bytes (239 ∷ 187 ∷ 191 ∷ [])

-- a byte order mark, or none
mark_found : (bytes : List ℕ) → (has_mark : Bool) × (bytes ≡ mark_bytes has_mark ++ without_mark bytes)
mark_found bytes = of (is_marked bytes) refl
  where
    of : (t : Bool) → is_marked bytes ≡ t → (has_mark : Bool) × (bytes ≡ mark_bytes has_mark ++ (if t then drop 3 bytes else bytes))
    of true e =
        let is : 239 ∷ 187 ∷ 191 ∷ [] ≡ take 3 bytes = (bytes_eq-Decides (239 ∷ 187 ∷ 191 ∷ []) (take 3 bytes)).0 e in
        (true, sym (take-append-drop 3 bytes) ∙ ap (λ w. w ++ drop 3 bytes) (sym is))
    of false e = (false, refl)

mark_again : (has_mark : Bool) (bytes : List ℕ) → is_marked bytes ≡ false → without_mark (mark_bytes has_mark ++ bytes) ≡ bytes
mark_again true bytes other = refl
mark_again false bytes other = ap (λ t. if t then drop 3 bytes else bytes) other

same_ok : {A E : Type 0} (x y : A) → (let a : Result A E = Ok x in a) ≡ Ok y → x ≡ y
same_ok x y e = cc

-- what is read as actions is an action file that says them
placed_found : (bytes : List ℕ) (actions : List Action) (size : length bytes ≤ MAX_ACTION_FILE) (clean : IsClean bytes) (r : Result FileDraft Fault)
    → document (without_mark bytes) ≡ r → placed (length bytes) r ≡ Ok actions → IsActionFile bytes actions
placed_found bytes actions size clean (Ok f) is e =
    let m = mark_found bytes in
    let d = document_found (without_mark bytes) f is in
    record {
      size = size;
      clean = clean;
      has_mark = m.0;
      document = d.whole;
      bytes_are = m.1 ∙ ap (λ r. mark_bytes m.0 ++ r) d.bytes_are;
      says = f;
      is_document = d.says;
      actions_are = sym (same_ok {E = XmlFault} (all_finished f) actions e);
    }
placed_found bytes actions size clean (Err fault) is e = absurd cc

pub file_found : (bytes : List ℕ) (actions : List Action) → actions_of bytes ≡ Ok actions → IsActionFile bytes actions
file_found bytes actions e = sized (nat_lt MAX_ACTION_FILE (length bytes)) refl e
  where
    clean : length bytes ≤ MAX_ACTION_FILE → (o : Option ℕ) → text_bad bytes ≡ o → actions_unless o bytes ≡ Ok actions → IsActionFile bytes actions
    clean size (Some at) is e = absurd cc
    clean size None is e = placed_found bytes actions size (clean_of_bad bytes is) (document (without_mark bytes)) refl e

    sized : (t : Bool) → nat_lt MAX_ACTION_FILE (length bytes) ≡ t → (if t then Err (record { kind = kind.TooLong; at = 0 }) else actions_unless (text_bad bytes) bytes) ≡ Ok actions → IsActionFile bytes actions
    sized true is e = absurd cc
    sized false is e = let size : length bytes ≤ MAX_ACTION_FILE = grind (arith, nat_tests) in clean size (text_bad bytes) refl e

-- an action file is read as the actions that it says
pub file_again : (bytes : List ℕ) (actions : List Action) → IsActionFile bytes actions → actions_of bytes ≡ Ok actions
file_again bytes actions file =
    let d : List ℕ = document_bytes file.document in
    let unmarked : without_mark bytes ≡ d = ap without_mark file.bytes_are ∙ mark_again file.has_mark d (document_unmarked file.document file.says file.is_document) in
    let read : document (without_mark bytes) ≡ Ok file.says = ap document unmarked ∙ document_again file.document file.says file.is_document in
    let fits : nat_lt MAX_ACTION_FILE (length bytes) ≡ false = fit (length bytes) file.size in
    ap (λ t. if t then Err (record { kind = kind.TooLong; at = 0 }) else actions_unless (text_bad bytes) bytes) fits
    ∙ ap (λ o. actions_unless o bytes) (no_bad bytes file.clean)
    ∙ ap (placed (length bytes)) read
    ∙ ap (λ a. Ok a) (sym file.actions_are)
  where
    fit : (n : ℕ) → n ≤ MAX_ACTION_FILE → nat_lt MAX_ACTION_FILE n ≡ false
    fit n le = grind (arith, nat_tests)

-- so no fault but want of memory is told of an action file
pub only_memory : (bytes : List ℕ) (actions : List Action) (k : XmlFaultKind) (at : ℕ) → IsFirstFault k at (actions_of bytes) → IsActionFile bytes actions → k ≡ kind.NoMemory
only_memory bytes actions k at first file = of k (actions_of bytes) (file_again bytes actions file) first
  where
    of : (k : XmlFaultKind) (due : Result (List Action) XmlFault) → due ≡ Ok actions → IsFirstFault k at due → k ≡ kind.NoMemory
    of kind.NotUtf8 due e first = absurd cc
    of kind.Malformed due e first = absurd cc
    of kind.Mismatch due e first = absurd cc
    of kind.Element due e first = absurd cc
    of kind.ActionId due e first = absurd cc
    of kind.DefaultWord due e first = absurd cc
    of kind.Missing due e first = absurd cc
    of kind.Repeated due e first = absurd cc
    of kind.Cdata due e first = absurd cc
    of kind.TooLong due e first = absurd cc
    of kind.NoMemory due e first = refl

pub only_these : (bytes : List ℕ) (a b : List Action) → actions_of bytes ≡ Ok a → IsActionFile bytes b → a ≡ b
only_these bytes a b e file = same_ok {E = XmlFault} a b (sym e ∙ file_again bytes b file)
