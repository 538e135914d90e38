-- An action that is read has the form.
use Rattle.std.proofs.Common.{◌≡◌, ℕ, List, ◌∷◌, ◌++◌, Bool, true, false, Option, Some, None, Ok, refl, sym, ap, ◌∙◌, subst, Result}
use Rattle.std.specs.Prelude.{codes, is_none, is_some, if◌then◌else◌, bytes_eq}
use Rattle.std.proofs.lemmas.Slice.Eq.{bytes_eq-Decides}
use Rattle.pk_types.specs.ActionId.{id_fault_of}
use Rattle.pk_types.specs.declared.action_id.IdFault.{IdFault}
use Rattle.pk_types.specs.declared.values.Pair.{Pair}
use Rattle.xml_pieces.specs.declared.fault.Fault.{Fault}
use Rattle.xml_pieces.specs.declared.fault.XmlFaultKind.TheVariants as kind
use Rattle.xml_pieces.specs.Reading.{◌>>=◌, fault_at, On, Done, Step}
use Rattle.xml_pieces.specs.Texts.{Tag, tag, text, value_of}
use Rattle.xml_pieces.specs.Keyed.{has_key, set_key}
use Rattle.xml_pieces.specs.Children.{Next, Child, End, next}
use Rattle.action_drafts.specs.declared.draft.Origin.{Origin}
use Rattle.action_drafts.specs.declared.draft.OriginPart.{OriginPart}
use Rattle.action_drafts.specs.declared.draft.OriginPart.TheVariants as part
use Rattle.action_drafts.specs.declared.draft.ActionDraft.{ActionDraft}
use Rattle.action_drafts.specs.Elements.{needed}
use Rattle.action_drafts.specs.Origins.{origin_part, origin_of, with_origin, origin_element}
use Rattle.action_drafts.specs.Defaults.{defaults_element}
use Rattle.action_drafts.specs.Actions.{lang_of, localized, annotation, InAction, action_child, in_action, action_step, new_action, action_elements, action_id, in_tag, action}
use Rattle.action_xml.specs.GapForm.{Gap, gaps_bytes, AreGaps}
use Rattle.action_xml.specs.TextElementForm.{TextElement, text_of, attributes_of, behind_name_bytes, IsTextElement}
use Rattle.action_xml.specs.RowForm.{Parent, between_bytes}
use Rattle.action_xml.specs.DefaultsForm.{defaults_bytes}
use Rattle.action_xml.specs.ActionForm.{origin_name, Part, OriginIs, Description, Message, DefaultsAre, Annotate, part_bytes, language, AddsPart, SaysAction, action_bytes}
use Rattle.action_xml.proofs.Steps.{ok, not_on, not_done, on_same, done_same}
use Rattle.action_xml.proofs.TextsFound.{bind_ok, ok_is}
use Rattle.action_xml.proofs.TagsFound.{tag_found, after_tag_found}
use Rattle.action_xml.proofs.TextElementsFound.{element_found}
use Rattle.action_xml.proofs.NextFound.{next_found}
use Rattle.action_xml.proofs.Rows.{RowEnd, end_found_next, OneElement, between_found, child_split}
use Rattle.action_xml.proofs.DefaultsFound.{defaults_element_found}

abbrev on : InAction → Result (Step InAction InAction) Fault
on s = Ok (On s)

part_same : (a b : OriginPart) → Some a ≡ Some b → a ≡ b
part_same a b e = cc

pub name_of_origin : (n : List ℕ) (which : OriginPart) → origin_part n ≡ Some which → n ≡ origin_name which
name_of_origin n which e = of (bytes_eq n (codes "vendor")) (bytes_eq n (codes "vendor_url")) (bytes_eq n (codes "icon_name")) refl refl refl e
  where
    at : (w : OriginPart) → n ≡ origin_name w → w ≡ which → n ≡ origin_name which
    at w is same = is ∙ ap origin_name same

    of : (t u v : Bool) → bytes_eq n (codes "vendor") ≡ t → bytes_eq n (codes "vendor_url") ≡ u → bytes_eq n (codes "icon_name") ≡ v
        → (if t then Some part.Vendor else (if u then Some part.VendorUrl else (if v then Some part.Icon else None))) ≡ Some which → n ≡ origin_name which
    of true u v p q r e = at part.Vendor ((bytes_eq-Decides n (codes "vendor")).0 p) (part_same part.Vendor which e)
    of false true v p q r e = at part.VendorUrl ((bytes_eq-Decides n (codes "vendor_url")).0 q) (part_same part.VendorUrl which e)
    of false false true p q r e = at part.Icon ((bytes_eq-Decides n (codes "icon_name")).0 r) (part_same part.Icon which e)
    of false false false p q r e = absurd cc

-- vendor, URL or icon behind its name
pub record OneOrigin (which : OriginPart) (name : List ℕ) (o : Origin) (bytes : List ℕ) (s : Origin × List ℕ) : Type 0 where
  pub element : TextElement
  pub is : IsTextElement element
  pub new : origin_of which o ≡ None
  pub adds : s.0 ≡ with_origin which (text_of element) o
  pub bytes_are : bytes ≡ behind_name_bytes name element ++ s.1

pub origin_found : (which : OriginPart) (name place : List ℕ) (o : Origin) (rest : List ℕ) (s : Origin × List ℕ) → origin_element which name place o rest ≡ Ok s → OneOrigin which name o rest s
unfolding origin_element
origin_found which name place o rest s e = of (origin_of which o) refl e
  where
    of : (w : Option (List ℕ)) → origin_of which o ≡ w
        → (if is_some w then fault_at kind.Repeated place else (tag false rest >>= λ t. text name place t >>= λ x. ok (with_origin which x.0 o, x.1))) ≡ Ok s
        → OneOrigin which name o rest s
    of (Some w) stands e = absurd cc
    of None new e =
        let t = bind_ok (tag false rest) (λ t. text name place t >>= λ x. ok (with_origin which x.0 o, x.1)) s e in
        let x = bind_ok (text name place t.0) (λ x. ok (with_origin which x.0 o, x.1)) s t.2 in
        let f = element_found name place rest t.0 x.0 t.1 x.1 in
        subst (OneOrigin which name o rest) (ok_is (with_origin which x.0.0 o, x.0.1) s x.2) (record {
          element = f.element;
          is = f.is;
          new = new;
          adds = ap (λ r. with_origin which r o) f.text;
          bytes_are = f.bytes_are;
        })

-- a description or message behind its name
record OneText (name : List ℕ) (texts : List Pair) (bytes : List ℕ) (s : List Pair × List ℕ) : Type 0 where
  element : TextElement
  is : IsTextElement element
  new : has_key (language element) texts ≡ false
  adds : s.0 ≡ set_key (language element) (text_of element) texts
  bytes_are : bytes ≡ behind_name_bytes name element ++ s.1

localized_found : (name place : List ℕ) (texts : List Pair) (rest : List ℕ) (s : List Pair × List ℕ) → localized name place texts rest ≡ Ok s → OneText name texts rest s
unfolding localized
localized_found name place texts rest s e =
    let t = bind_ok (tag false rest) (λ t. if has_key (lang_of t.attributes) texts then fault_at kind.Repeated place else (text name place t >>= λ x. ok (set_key (lang_of t.attributes) x.0 texts, x.1))) s e in
    of t.0 t.1 (has_key (lang_of t.0.attributes) texts) refl t.2
  where
    of : (t : Tag) → tag false rest ≡ Ok t → (b : Bool) → has_key (lang_of t.attributes) texts ≡ b
        → (if b then fault_at kind.Repeated place else (text name place t >>= λ x. ok (set_key (lang_of t.attributes) x.0 texts, x.1))) ≡ Ok s → OneText name texts rest s
    of t read true stands e = absurd cc
    of t read false new e =
        let x = bind_ok (text name place t) (λ x. ok (set_key (lang_of t.attributes) x.0 texts, x.1)) s e in
        let f = element_found name place rest t x.0 read x.1 in
        subst (OneText name texts rest) (ok_is (set_key (lang_of t.attributes) x.0.0 texts, x.0.1) s x.2) (record {
          element = f.element;
          is = f.is;
          new = ap (λ p. has_key (lang_of p) texts) (sym f.pairs) ∙ new;
          adds = ap (λ p. set_key (lang_of p) x.0.0 texts) f.pairs ∙ ap (λ r. set_key (language f.element) r texts) f.text;
          bytes_are = f.bytes_are;
        })

-- an annotation behind its name
record OneAnnotation (pairs : List Pair) (bytes : List ℕ) (s : List Pair × List ℕ) : Type 0 where
  element : TextElement
  is : IsTextElement element
  key : List ℕ
  has : value_of (codes "key") (attributes_of element) ≡ Some key
  adds : s.0 ≡ set_key key (text_of element) pairs
  bytes_are : bytes ≡ behind_name_bytes (codes "annotate") element ++ s.1

pub needed_found : (place value : List ℕ) (o : Option (List ℕ)) → needed place o ≡ Ok value → o ≡ Some value
needed_found place value (Some v) e = ap Some (ok_is v value e)
needed_found place value None e = absurd cc

annotation_found : (place : List ℕ) (pairs : List Pair) (rest : List ℕ) (s : List Pair × List ℕ) → annotation place pairs rest ≡ Ok s → OneAnnotation pairs rest s
unfolding annotation
annotation_found place pairs rest s e =
    let t = bind_ok (tag false rest) (λ t. needed place (value_of (codes "key") t.attributes) >>= λ key. text (codes "annotate") place t >>= λ x. ok (set_key key x.0 pairs, x.1)) s e in
    let k = bind_ok (needed place (value_of (codes "key") t.0.attributes)) (λ key. text (codes "annotate") place t.0 >>= λ x. ok (set_key key x.0 pairs, x.1)) s t.2 in
    let x = bind_ok (text (codes "annotate") place t.0) (λ x. ok (set_key k.0 x.0 pairs, x.1)) s k.2 in
    let f = element_found (codes "annotate") place rest t.0 x.0 t.1 x.1 in
    subst (OneAnnotation pairs rest) (ok_is (set_key k.0 x.0.0 pairs, x.0.1) s x.2) (record {
      element = f.element;
      is = f.is;
      key = k.0;
      has = ap (value_of (codes "key")) (sym f.pairs) ∙ needed_found place k.0 (value_of (codes "key") t.0.attributes) k.1;
      adds = ap (λ r. set_key k.0 r pairs) f.text;
      bytes_are = f.bytes_are;
    })

-- the bytes of a child by its name
pub named_child : (gaps : List Gap) (n name behind rest : List ℕ) (bytes : List ℕ) (after : List ℕ) → bytes ≡ gaps_bytes gaps ++ 60 ∷ (n ++ rest) → n ≡ name → rest ≡ behind ++ after
    → bytes ≡ (gaps_bytes gaps ++ 60 ∷ (name ++ behind)) ++ after
named_child gaps n name behind rest bytes after split is rest_is =
    split ∙ ap (λ m. gaps_bytes gaps ++ 60 ∷ (m ++ rest)) is ∙ ap (λ r. gaps_bytes gaps ++ 60 ∷ (name ++ r)) rest_is ∙ sym (child_split gaps name behind after)

-- an element of an action
part_child : (a : ActionDraft) (bytes n place rest : List ℕ) (gaps : List Gap) (s : InAction) → AreGaps gaps → bytes ≡ gaps_bytes gaps ++ 60 ∷ (n ++ rest) → (o : Option OriginPart) → origin_part n ≡ o
    → action_child a n place rest o ≡ Ok (On s) → OneElement part_bytes AddsPart a bytes s
part_child a bytes n place rest gaps s are split (Some which) is e =
    let r = bind_ok (origin_element which n place a.origin rest) (λ x. on (record a { origin = x.0 }, x.1)) (On s) e in
    let f = origin_found which n place a.origin rest r.0 r.1 in
    let name : n ≡ origin_name which = name_of_origin n which is in
    let same : (record a { origin = r.0.0 }, r.0.1) ≡ s = on_same (record a { origin = r.0.0 }, r.0.1) s r.2 in
    let rest_is : rest ≡ behind_name_bytes (origin_name which) f.element ++ r.0.1 = f.bytes_are ∙ ap (λ m. behind_name_bytes m f.element ++ r.0.1) name in
    subst (OneElement part_bytes AddsPart a bytes) same (record {
      element = OriginIs gaps which f.element;
      adds = (are, f.is, f.new, ap (λ o. record a { origin = o }) f.adds);
      bytes_are = named_child gaps n (origin_name which) (behind_name_bytes (origin_name which) f.element) rest bytes r.0.1 split name rest_is;
    })
part_child a bytes n place rest gaps s are split None is e =
    of (bytes_eq n (codes "description")) (bytes_eq n (codes "message")) (bytes_eq n (codes "defaults")) (bytes_eq n (codes "annotate")) refl refl refl refl e
  where
    at : (name : List ℕ) → bytes_eq n name ≡ true → n ≡ name
    at name p = (bytes_eq-Decides n name).0 p

    of : (t u v w : Bool) → bytes_eq n (codes "description") ≡ t → bytes_eq n (codes "message") ≡ u → bytes_eq n (codes "defaults") ≡ v → bytes_eq n (codes "annotate") ≡ w
        → (if t then (localized n place a.descriptions rest >>= λ x. on (record a { descriptions = x.0 }, x.1))
        else (if u then (localized n place a.messages rest >>= λ x. on (record a { messages = x.0 }, x.1))
        else (if v then (defaults_element place a.defaults rest >>= λ x. on (record a { defaults = Some x.0 }, x.1))
        else (if w then (annotation place a.annotations rest >>= λ x. on (record a { annotations = x.0 }, x.1))
        else fault_at kind.Element place)))) ≡ Ok (On s) → OneElement part_bytes AddsPart a bytes s
    of true u v w p q r t e =
        let x = bind_ok (localized n place a.descriptions rest) (λ x. on (record a { descriptions = x.0 }, x.1)) (On s) e in
        let f = localized_found n place a.descriptions rest x.0 x.1 in
        let same : (record a { descriptions = x.0.0 }, x.0.1) ≡ s = on_same (record a { descriptions = x.0.0 }, x.0.1) s x.2 in
        subst (OneElement part_bytes AddsPart a bytes) same (record {
          element = Description gaps f.element;
          adds = (are, f.is, f.new, ap (λ d. record a { descriptions = d }) f.adds);
          bytes_are = named_child gaps n (codes "description") (behind_name_bytes (codes "description") f.element) rest bytes x.0.1 split (at (codes "description") p) (f.bytes_are ∙ ap (λ m. behind_name_bytes m f.element ++ x.0.1) (at (codes "description") p));
        })
    of false true v w p q r t e =
        let x = bind_ok (localized n place a.messages rest) (λ x. on (record a { messages = x.0 }, x.1)) (On s) e in
        let f = localized_found n place a.messages rest x.0 x.1 in
        let same : (record a { messages = x.0.0 }, x.0.1) ≡ s = on_same (record a { messages = x.0.0 }, x.0.1) s x.2 in
        subst (OneElement part_bytes AddsPart a bytes) same (record {
          element = Message gaps f.element;
          adds = (are, f.is, f.new, ap (λ d. record a { messages = d }) f.adds);
          bytes_are = named_child gaps n (codes "message") (behind_name_bytes (codes "message") f.element) rest bytes x.0.1 split (at (codes "message") q) (f.bytes_are ∙ ap (λ m. behind_name_bytes m f.element ++ x.0.1) (at (codes "message") q));
        })
    of false false true w p q r t e =
        let x = bind_ok (defaults_element place a.defaults rest) (λ x. on (record a { defaults = Some x.0 }, x.1)) (On s) e in
        let f = defaults_element_found place a.defaults rest x.0 x.1 in
        let same : (record a { defaults = Some x.0.0 }, x.0.1) ≡ s = on_same (record a { defaults = Some x.0.0 }, x.0.1) s x.2 in
        subst (OneElement part_bytes AddsPart a bytes) same (record {
          element = DefaultsAre gaps f.element;
          adds = (are, f.new, (x.0.0, f.says, refl));
          bytes_are = named_child gaps n (codes "defaults") (defaults_bytes f.element) rest bytes x.0.1 split (at (codes "defaults") r) f.bytes_are;
        })
    of false false false true p q r t e =
        let x = bind_ok (annotation place a.annotations rest) (λ x. on (record a { annotations = x.0 }, x.1)) (On s) e in
        let f = annotation_found place a.annotations rest x.0 x.1 in
        let same : (record a { annotations = x.0.0 }, x.0.1) ≡ s = on_same (record a { annotations = x.0.0 }, x.0.1) s x.2 in
        subst (OneElement part_bytes AddsPart a bytes) same (record {
          element = Annotate gaps f.element;
          adds = (are, f.is, (f.key, f.has, ap (λ d. record a { annotations = d }) f.adds));
          bytes_are = named_child gaps n (codes "annotate") (behind_name_bytes (codes "annotate") f.element) rest bytes x.0.1 split (at (codes "annotate") t) f.bytes_are;
        })
    of false false false false p q r t e = absurd cc

part_on : (a : ActionDraft) (bytes : List ℕ) (s : InAction) → action_step (a, bytes) ≡ Ok (On s) → OneElement part_bytes AddsPart a bytes s
unfolding action_step
part_on a bytes s e = let b = bind_ok (next (codes "action") bytes) (in_action a) (On s) e in of b.0 b.1 b.2
  where
    of : (x : Next) → next (codes "action") bytes ≡ Ok x → in_action a x ≡ Ok (On s) → OneElement part_bytes AddsPart a bytes s
    of (End rest) is e = absurd (not_on (a, rest) s e)
    of (Child n place rest) is e =
        let f = next_found (codes "action") bytes (Child n place rest) is in
        part_child a bytes n place rest f.gaps s f.are (f.bytes_are ∙ ap (λ r. gaps_bytes f.gaps ++ r) f.is.2) (origin_part n) refl e

-- no element of an action is its last step
child_goes_on : (a : ActionDraft) (n place rest : List ℕ) (x : InAction) (o : Option OriginPart) → action_child a n place rest o ≡ Ok (Done x) → ⊥
child_goes_on a n place rest x (Some which) e =
    let r = bind_ok (origin_element which n place a.origin rest) (λ x. on (record a { origin = x.0 }, x.1)) (Done x) e in not_done x (record a { origin = r.0.0 }, r.0.1) r.2
child_goes_on a n place rest x None e = of (bytes_eq n (codes "description")) (bytes_eq n (codes "message")) (bytes_eq n (codes "defaults")) (bytes_eq n (codes "annotate")) e
  where
    of : (t u v w : Bool)
        → (if t then (localized n place a.descriptions rest >>= λ x. on (record a { descriptions = x.0 }, x.1))
        else (if u then (localized n place a.messages rest >>= λ x. on (record a { messages = x.0 }, x.1))
        else (if v then (defaults_element place a.defaults rest >>= λ x. on (record a { defaults = Some x.0 }, x.1))
        else (if w then (annotation place a.annotations rest >>= λ x. on (record a { annotations = x.0 }, x.1))
        else fault_at kind.Element place)))) ≡ Ok (Done x) → ⊥
    of true u v w e = let r = bind_ok (localized n place a.descriptions rest) (λ x. on (record a { descriptions = x.0 }, x.1)) (Done x) e in not_done x (record a { descriptions = r.0.0 }, r.0.1) r.2
    of false true v w e = let r = bind_ok (localized n place a.messages rest) (λ x. on (record a { messages = x.0 }, x.1)) (Done x) e in not_done x (record a { messages = r.0.0 }, r.0.1) r.2
    of false false true w e = let r = bind_ok (defaults_element place a.defaults rest) (λ x. on (record a { defaults = Some x.0 }, x.1)) (Done x) e in not_done x (record a { defaults = Some r.0.0 }, r.0.1) r.2
    of false false false true e = let r = bind_ok (annotation place a.annotations rest) (λ x. on (record a { annotations = x.0 }, x.1)) (Done x) e in not_done x (record a { annotations = r.0.0 }, r.0.1) r.2
    of false false false false e = cc

action_done : (a : ActionDraft) (bytes : List ℕ) (x : InAction) → action_step (a, bytes) ≡ Ok (Done x) → (x.0 ≡ a) × RowEnd (codes "action") bytes x.1
unfolding action_step
action_done a bytes x e = let b = bind_ok (next (codes "action") bytes) (in_action a) (Done x) e in of b.0 b.1 b.2
  where
    of : (y : Next) → next (codes "action") bytes ≡ Ok y → in_action a y ≡ Ok (Done x) → (x.0 ≡ a) × RowEnd (codes "action") bytes x.1
    of (End rest) is e =
        let same : (a, rest) ≡ x = done_same (a, rest) x e in
        (sym (ap (λ (y : InAction). y.0) same), end_found_next (codes "action") bytes x.1 (is ∙ ap (λ (y : InAction). Ok (End y.1)) same))
    of (Child n place rest) is e = absurd (child_goes_on a n place rest x (origin_part n) e)

-- a whole action behind its name
pub record WholeAction (bytes : List ℕ) (x : InAction) : Type 0 where
  pub element : Parent Part
  pub says : SaysAction element x.0
  pub bytes_are : bytes ≡ action_bytes element ++ x.1

id_found : (place value id : List ℕ) → action_id place value ≡ Ok id → (id_fault_of value ≡ None) × (value ≡ id)
id_found place value id e = of (id_fault_of value) refl e
  where
    of : (o : Option IdFault) → id_fault_of value ≡ o → (if is_some o then fault_at kind.ActionId place else ok value) ≡ Ok id → (id_fault_of value ≡ None) × (value ≡ id)
    of (Some f) is e = absurd cc
    of None is e = (is, ok_is value id e)

pub action_found : (place bytes : List ℕ) (x : InAction) → action place bytes ≡ Ok x → WholeAction bytes x
unfolding action in_tag action_elements
action_found place bytes x e =
    let t = bind_ok (tag true bytes) (λ t. needed place (value_of (codes "id") t.attributes) >>= λ value. action_id place value >>= λ id. if t.is_empty then Ok (new_action id, t.rest) else action_elements (new_action id) t.rest) x e in
    let v = bind_ok (needed place (value_of (codes "id") t.0.attributes)) (λ value. action_id place value >>= λ id. if t.0.is_empty then Ok (new_action id, t.0.rest) else action_elements (new_action id) t.0.rest) x t.2 in
    let i = bind_ok (action_id place v.0) (λ id. if t.0.is_empty then Ok (new_action id, t.0.rest) else action_elements (new_action id) t.0.rest) x v.2 in
    let g = tag_found true bytes t.0 t.1 in
    let f = between_found part_bytes AddsPart (codes "action") action_step action_done part_on (new_action i.0) t.0 x i.2 in
    let id = id_found place v.0 i.0 i.1 in
    let inside : List ℕ = between_bytes part_bytes (codes "action") f.inside in
    record {
      element = record { attrs = g.attrs; white = g.white; inside = f.inside };
      says = record {
        attrs = g.are;
        ids = g.fine;
        white = g.is_white;
        id = i.0;
        id_is = ap (value_of (codes "id")) (sym g.pairs) ∙ needed_found place v.0 (value_of (codes "id") t.0.attributes) v.1 ∙ ap Some id.1;
        is_id = ap id_fault_of (sym id.1) ∙ id.0;
        says = f.says;
      };
      bytes_are = g.bytes_are
          ∙ after_tag_found g.attrs g.white t.0.rest inside x.1 t.0.is_empty (is_none f.inside) f.empty f.rest_is;
    }
