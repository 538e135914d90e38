-- A document that is read has the form.
use Rattle.std.proofs.Common.{◌≡◌, ℕ, ◌==◌, List, [], ◌∷◌, ◌++◌, length, drop, Bool, true, false, Ok, refl, sym, ap, ◌∙◌, subst, arith, append-nil, ◌⊎◌, inl, inr}
use Rattle.std.specs.Prelude.{if◌then◌else◌}
use Rattle.xml_pieces.specs.declared.fault.XmlFaultKind.TheVariants as kind
use Rattle.xml_pieces.specs.Reading.{◌>>=◌, fault_at}
use Rattle.xml_pieces.specs.Bytes.{name}
use Rattle.xml_pieces.specs.Markup.{xml_declaration, prolog}
use Rattle.action_drafts.specs.declared.draft.FileDraft.{FileDraft}
use Rattle.action_drafts.specs.Documents.{InFile, behind_root, root, epilog, document}
use Rattle.action_xml.specs.RootForm.{SaysRoot, root_bytes}
use Rattle.action_xml.specs.PrologForm.{declaration_bytes, Misc, miscs_bytes, AreMiscs, doctype_bytes}
use Rattle.action_xml.specs.DocumentForm.{Document, document_bytes, SaysDocument}
use Rattle.action_xml.proofs.TextsFound.{bind_ok, ok_is, eq_of}
use Rattle.action_xml.proofs.RootFound.{WholeRoot, root_found}
use Rattle.action_xml.proofs.PrologFound.{OneDeclaration, declaration_found, OneFront, front_found}

-- behind the root
record OneEpilog (bytes : List ℕ) : Type 0 where
  miscs : List Misc
  are : AreMiscs miscs
  bytes_are : bytes ≡ miscs_bytes miscs

no_root : (here : List ℕ) (x : Unit {0}) → behind_root here ≡ Ok x → ⊥
no_root here x e =
    let b = bind_ok (name here (drop 1 here)) (λ n. fault_at kind.Element here) x e in absurd cc

empty_of : (rest : List ℕ) → (length rest == 0) ≡ true → rest ≡ []
empty_of [] e = refl
empty_of (b ∷ rest) e = let z : length (b ∷ rest) ≡ 0 = eq_of (length (b ∷ rest)) 0 e in absurd (omega arith)

epilog_found : (bytes : List ℕ) (x : Unit {0}) → epilog bytes ≡ Ok x → OneEpilog bytes
unfolding epilog
epilog_found bytes x e =
    let b = bind_ok (prolog false bytes) (λ rest. if length rest == 0 then Ok tt else behind_root rest) x e in
    of b.0 b.1 (length b.0 == 0) refl b.2
  where
    of : (rest : List ℕ) → prolog false bytes ≡ Ok rest → (t : Bool) → (length rest == 0) ≡ t → (if t then Ok tt else behind_root rest) ≡ Ok x → OneEpilog bytes
    of rest is true p e =
        let f = front_found false bytes rest is in
        let end : doctype_bytes f.doc ++ rest ≡ [] = ap (λ o. doctype_bytes o ++ rest) (f.only refl) ∙ empty_of rest p in
        record { miscs = f.miscs; are = f.are; bytes_are = f.bytes_are ∙ ap (λ r. miscs_bytes f.miscs ++ r) end ∙ append-nil (miscs_bytes f.miscs) }
    of rest is false p e = absurd (no_root rest x e)

root_of_nothing : (x : InFile) → root [] ≡ Ok x → ⊥
unfolding root name
root_of_nothing x e = cc

whole_root : (here : List ℕ) (x : InFile) → (here ≡ []) ⊎ ((rest : List ℕ) × (here ≡ 60 ∷ rest)) → root here ≡ Ok x → WholeRoot here x
whole_root here x (inl none) e = absurd (root_of_nothing x (ap root (sym none) ∙ e))
whole_root here x (inr some) e = subst (λ b. WholeRoot b x) (sym some.1) (root_found some.0 x (ap root (sym some.1) ∙ e))

pub record WholeDocument (bytes : List ℕ) (f : FileDraft) : Type 0 where
  pub whole : Document
  pub says : SaysDocument whole f
  pub bytes_are : bytes ≡ document_bytes whole

-- its parts, one behind the other
together : (bytes behind here : List ℕ) (x : InFile) (f : FileDraft) → OneDeclaration bytes behind → OneFront true behind here → WholeRoot here x → OneEpilog x.1 → x.0 ≡ f → WholeDocument bytes f
together bytes behind here x f first front root_is last same =
    let declared : List ℕ = declaration_bytes first.declared in
    let miscs : List ℕ = miscs_bytes front.miscs in
    let doctype : List ℕ = doctype_bytes front.doc in
    record {
      whole = record { declaration = first.declared; before = front.miscs; doctype = front.doc; root = root_is.element; behind = last.miscs };
      says = record { declaration = first.is; before = front.are; doctype = front.is; root = subst (λ d. SaysRoot root_is.element d) same root_is.says; behind = last.are };
      bytes_are = first.bytes_are
          ∙ ap (λ r. declared ++ r) front.bytes_are
          ∙ ap (λ r. declared ++ (miscs ++ (doctype ++ r))) (root_is.bytes_are ∙ ap (λ r. root_bytes root_is.element ++ r) last.bytes_are);
    }

pub document_found : (bytes : List ℕ) (f : FileDraft) → document bytes ≡ Ok f → WholeDocument bytes f
unfolding document
document_found bytes f e =
    let a = bind_ok (xml_declaration bytes) (λ behind. prolog true behind >>= λ here. root here >>= λ x. epilog x.1 >>= λ end. Ok x.0) f e in
    let b = bind_ok (prolog true a.0) (λ here. root here >>= λ x. epilog x.1 >>= λ end. Ok x.0) f a.2 in
    let c = bind_ok (root b.0) (λ x. epilog x.1 >>= λ end. Ok x.0) f b.2 in
    let d = bind_ok (epilog c.0.1) (λ end. Ok c.0.0) f c.2 in
    let front = front_found true a.0 b.0 b.1 in
    together bytes a.0 b.0 c.0 f (declaration_found bytes a.0 a.1) front (whole_root b.0 c.0 front.ends c.1) (epilog_found c.0.1 d.0 d.1) (ok_is c.0.0 f d.2)
