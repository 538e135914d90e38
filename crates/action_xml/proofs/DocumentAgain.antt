-- A document that has the form is read again.
use Rattle.std.proofs.Common.{◌≡◌, ℕ, ◌==◌, List, [], ◌∷◌, ◌++◌, length, drop, Bool, true, false, Option, Some, None, Ok, refl, ap, ◌∙◌, append_assoc}
use Rattle.std.specs.Prelude.{if◌then◌else◌, codes, ◌||◌}
use Rattle.std.specs.List.{starts_with}
use Rattle.xml_pieces.specs.Reading.{◌>>=◌, Done}
use Rattle.xml_pieces.specs.Bytes.{is_space, behind_pair}
use Rattle.xml_pieces.specs.Markup.{is_xml, xml_declaration, prolog_step, prolog}
use Rattle.action_drafts.specs.declared.draft.FileDraft.{FileDraft}
use Rattle.action_drafts.specs.Documents.{behind_root, root, epilog, document}
use Rattle.action_xml.specs.RowForm.{Parent}
use Rattle.action_xml.specs.RootForm.{FilePart, root_bytes}
use Rattle.action_xml.specs.PrologForm.{declaration_bytes, IsDeclaration, Misc, Blank, Remark, Instruction, miscs_bytes, AreMiscs, Doctype, doctype_bytes}
use Rattle.action_xml.specs.DocumentForm.{Document, document_bytes, SaysDocument}
use Rattle.action_xml.proofs.TextsFound.{eq_of}
use Rattle.action_xml.proofs.RootAgain.{root_again}
use Rattle.action_xml.proofs.PrologAgain.{close_again, instruction_split, xml_is, not_xml, behind_root_again, before_root_again}

declaration_again : (declaration : Option (List ℕ)) (rest : List ℕ) → IsDeclaration declaration → is_xml rest ≡ false → xml_declaration (declaration_bytes declaration ++ rest) ≡ Ok rest
unfolding xml_declaration
declaration_again None rest is other = ap (λ t. if t then behind_pair 63 62 (drop 2 rest) else Ok rest) other
declaration_again (Some inside) rest is other =
    let split : List ℕ = 60 ∷ 63 ∷ (inside ++ 63 ∷ 62 ∷ rest) in
    ap xml_declaration (instruction_split inside rest)
    ∙ ap (λ t. if t then behind_pair 63 62 (inside ++ 63 ∷ 62 ∷ rest) else Ok split) (xml_is inside rest is.1)
    ∙ close_again inside rest is.0

-- bytes that begin with neither an XML declaration nor a byte order mark
record IsPlain (bytes : List ℕ) : Type 0 where
  no_xml : is_xml bytes ≡ false
  no_mark : starts_with (λ x y. x == y) bytes (239 ∷ 187 ∷ 191 ∷ []) ≡ false

white_xml : (rest : List ℕ) → (is_xml (32 ∷ rest) ≡ false) × (is_xml (9 ∷ rest) ≡ false) × (is_xml (10 ∷ rest) ≡ false) × (is_xml (13 ∷ rest) ≡ false)
unfolding is_xml
white_xml rest = (refl, refl, refl, refl)

space_plain : (b : ℕ) (rest : List ℕ) → is_space b ≡ true → IsPlain (b ∷ rest)
space_plain b rest e = of (b == 32) (b == 9) (b == 10) (b == 13) refl refl refl refl e
  where
    at : (n : ℕ) → (b == n) ≡ true → is_xml (n ∷ rest) ≡ false → starts_with (λ x y. x == y) (n ∷ rest) (239 ∷ 187 ∷ 191 ∷ []) ≡ false → IsPlain (b ∷ rest)
    at n p no_xml no_mark = record {
      no_xml = ap (λ c. is_xml (c ∷ rest)) (eq_of b n p) ∙ no_xml;
      no_mark = ap (λ c. starts_with (λ x y. x == y) (c ∷ rest) (239 ∷ 187 ∷ 191 ∷ [])) (eq_of b n p) ∙ no_mark;
    }

    of : (t u v w : Bool) → (b == 32) ≡ t → (b == 9) ≡ u → (b == 10) ≡ v → (b == 13) ≡ w → (t || u || v || w) ≡ true → IsPlain (b ∷ rest)
    of true u v w p q r s e = at 32 p (white_xml rest).0 refl
    of false true v w p q r s e = at 9 q (white_xml rest).1 refl
    of false false true w p q r s e = at 10 r (white_xml rest).2 refl
    of false false false true p q r s e = at 13 s (white_xml rest).3 refl
    of false false false false p q r s e = absurd cc

front_plain : (miscs : List Misc) (d : Option Doctype) (p : Parent FilePart) (rest : List ℕ) → AreMiscs miscs → IsPlain (miscs_bytes miscs ++ (doctype_bytes d ++ (root_bytes p ++ rest)))
unfolding is_xml
front_plain [] None p rest are = record { no_xml = refl; no_mark = refl }
front_plain [] (Some d) p rest are = record { no_xml = refl; no_mark = refl }
front_plain (Blank b ∷ miscs) d p rest are = space_plain b (miscs_bytes miscs ++ (doctype_bytes d ++ (root_bytes p ++ rest))) are.0
front_plain (Remark inside ∷ miscs) d p rest are = record { no_xml = refl; no_mark = refl }
front_plain (Instruction inside ∷ miscs) d p rest are =
    let tail : List ℕ = doctype_bytes d ++ (root_bytes p ++ rest) in
    record {
      no_xml = ap is_xml (append_assoc (codes "<?" ++ (inside ++ codes "?>")) (miscs_bytes miscs) tail ∙ instruction_split inside (miscs_bytes miscs ++ tail)) ∙ not_xml inside (miscs_bytes miscs ++ tail) are.0.1;
      no_mark = refl;
    }

root_ends : (p : Parent FilePart) (rest : List ℕ) (may : Bool) → prolog_step (may, root_bytes p ++ rest) ≡ Ok (Done (root_bytes p ++ rest))
unfolding prolog_step
root_ends p rest may = refl

epilog_again : (miscs : List Misc) → AreMiscs miscs → epilog (miscs_bytes miscs) ≡ Ok tt
unfolding epilog
epilog_again miscs are = ap (λ r. r >>= λ rest. if length rest == 0 then Ok tt else behind_root rest) (behind_root_again miscs are)

pub document_again : (d : Document) (f : FileDraft) → SaysDocument d f → document (document_bytes d) ≡ Ok f
unfolding document
document_again d f is =
    let behind : List ℕ = miscs_bytes d.behind in
    let here : List ℕ = root_bytes d.root ++ behind in
    let front : List ℕ = miscs_bytes d.before ++ (doctype_bytes d.doctype ++ here) in
    let plain = front_plain d.before d.doctype d.root behind is.before in
    let first : xml_declaration (declaration_bytes d.declaration ++ front) ≡ Ok front = declaration_again d.declaration front is.declaration plain.no_xml in
    let second : prolog true front ≡ Ok here = before_root_again here d.before d.doctype is.before is.doctype (root_ends d.root behind) in
    let third : root here ≡ Ok (f, behind) = root_again behind d.root f is.root in
    let fourth : epilog behind ≡ Ok tt = epilog_again d.behind is.behind in
    rw (first, second, third, fourth) refl

-- no document begins with a byte order mark
pub document_unmarked : (d : Document) (f : FileDraft) → SaysDocument d f → starts_with (λ x y. x == y) (document_bytes d) (239 ∷ 187 ∷ 191 ∷ []) ≡ false
document_unmarked d f is = of d.declaration
  where
    front : List ℕ
    front = miscs_bytes d.before ++ (doctype_bytes d.doctype ++ (root_bytes d.root ++ miscs_bytes d.behind))

    of : (declaration : Option (List ℕ)) → starts_with (λ x y. x == y) (declaration_bytes declaration ++ front) (239 ∷ 187 ∷ 191 ∷ []) ≡ false
    of None = (front_plain d.before d.doctype d.root (miscs_bytes d.behind) is.before).no_mark
    of (Some inside) = refl
