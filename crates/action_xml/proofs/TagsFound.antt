-- A start tag that is read has the form.
use Rattle.std.proofs.Common.{◌≡◌, ◌≢◌, ℕ, ◌==◌, List, [], ◌∷◌, ◌++◌, length, map, Bool, true, false, Ok, refl, sym, ap, ◌∙◌, subst, append_assoc, append-nil, true≢false, Result}
use Rattle.std.specs.Prelude.{if◌then◌else◌}
use Rattle.std.specs.List.{flat_map}
use Rattle.pk_types.specs.declared.values.Pair.{Pair}
use Rattle.xml_pieces.specs.declared.fault.Fault.{Fault}
use Rattle.xml_pieces.specs.declared.fault.XmlFaultKind.TheVariants as kind
use Rattle.xml_pieces.specs.Reading.{◌>>=◌, fault_at, malformed, On, Done, Step}
use Rattle.xml_pieces.specs.Bytes.{is_space, behind_spaces, is_name_start, behind_byte}
use Rattle.xml_pieces.specs.Texts.{Attribute, attribute, Attributes, Tag, has, bad_id, one_more, tag_by, begins_spaced, tag_step, tag}
use Rattle.action_xml.specs.TextForm.{IsWhite, bits_bytes, bits_text}
use Rattle.action_xml.specs.TagForm.{Attr, attr_inner, attr_bytes, attr_pair, IsAttr, AreAttrs, AreFineIds, tag_end, tag_bytes}
use Rattle.action_xml.proofs.Steps.{steps_found, not_on, not_done, on_same, done_same}
use Rattle.action_xml.proofs.TextsFound.{bind_ok, skip_found, byte_found, eq_of}
use Rattle.action_xml.proofs.AttributesFound.{attribute_found}
use Rattle.action_xml.proofs.TagsAgain.{start_no_space, name_first}

abbrev on : Attributes → Result (Step Attributes Tag) Fault
on s = Ok (On s)

abbrev done : Tag → Result (Step Attributes Tag) Fault
done x = Ok (Done x)

-- a step in a start tag takes one attribute
record OneAttr (is_action : Bool) (so : List Pair) (bytes : List ℕ) (s : Attributes) : Type 0 where
  attr : Attr
  is : IsAttr attr
  new : has attr.name so ≡ false
  fine : bad_id is_action attr.name (bits_text attr.value) ≡ false
  bytes_are : bytes ≡ attr_bytes attr ++ s.1
  pairs : s.0 ≡ so ++ attr_pair attr ∷ []

added : (is_action : Bool) (so : List Pair) (here : List ℕ) (x : Attribute) (s : Attributes) → one_more is_action here so x ≡ Ok (On s)
    → (has x.name so ≡ false) × (bad_id is_action x.name x.value ≡ false) × ((so ++ (record { key = x.name; value = x.value }) ∷ [], x.rest) ≡ s)
added is_action so here x s e = of (has x.name so) (bad_id is_action x.name x.value) refl refl e
  where
    of : (t u : Bool) → has x.name so ≡ t → bad_id is_action x.name x.value ≡ u
        → (if t then malformed here else (if u then fault_at kind.ActionId here else on (so ++ (record { key = x.name; value = x.value }) ∷ [], x.rest))) ≡ Ok (On s)
        → (has x.name so ≡ false) × (bad_id is_action x.name x.value ≡ false) × ((so ++ (record { key = x.name; value = x.value }) ∷ [], x.rest) ≡ s)
    of true u p q e = absurd cc
    of false true p q e = absurd cc
    of false false p q e = (p, q, on_same (so ++ (record { key = x.name; value = x.value }) ∷ [], x.rest) s e)

first_byte : (b c : ℕ) (xs ys : List ℕ) → b ∷ xs ≡ c ∷ ys → b ≡ c
first_byte b c xs ys e = cc

-- white space stands before an attribute
some_white : (bytes front : List ℕ) (b : ℕ) (rest : List ℕ) → bytes ≡ front ++ b ∷ rest → begins_spaced bytes ≡ true → is_name_start b ≡ true → front ≢ []
some_white bytes front b rest split spaced start none =
    let e : bytes ≡ b ∷ rest = split ∙ ap (λ f. f ++ b ∷ rest) none in
    true≢false (sym (ap begins_spaced (sym e) ∙ spaced) ∙ start_no_space b start)

attr_found : (is_action : Bool) (so : List Pair) (bytes front : List ℕ) (b : ℕ) (rest : List ℕ) (s : Attributes) → bytes ≡ front ++ b ∷ rest → IsWhite front → begins_spaced bytes ≡ true
    → (attribute (b ∷ rest) >>= one_more is_action (b ∷ rest) so) ≡ Ok (On s) → OneAttr is_action so bytes s
attr_found is_action so bytes front b rest s split white spaced e =
    let d = bind_ok (attribute (b ∷ rest)) (one_more is_action (b ∷ rest) so) (On s) e in
    let f = attribute_found front (b ∷ rest) d.0 d.1 in
    let m = added is_action so (b ∷ rest) d.0 s d.2 in
    let n = name_first f.attr.name f.is.1 in
    let tail : List ℕ = f.attr.left ++ 61 ∷ (f.attr.right ++ f.attr.quote ∷ (bits_bytes f.attr.value ++ f.attr.quote ∷ [])) in
    let first : b ≡ n.0 = first_byte b n.0 rest ((n.1 ++ tail) ++ d.0.rest) (f.bytes_are ∙ ap (λ m. (m ++ tail) ++ d.0.rest) n.2) in
    let start : is_name_start b ≡ true = ap is_name_start first ∙ n.3 in
    let some = some_white bytes front b rest split spaced start in
    let pair_is : (so ++ (record { key = d.0.name; value = d.0.value }) ∷ []) ≡ so ++ attr_pair f.attr ∷ [] = ap (λ k. so ++ (record { key = k; value = d.0.value }) ∷ []) f.name_is ∙ ap (λ v. so ++ (record { key = f.attr.name; value = v }) ∷ []) f.value_is in
    let here : bytes ≡ attr_bytes f.attr ++ d.0.rest = split ∙ ap (λ r. front ++ r) f.bytes_are ∙ ap (λ w. w ++ (attr_inner f.attr ++ d.0.rest)) (sym f.is.0) ∙ sym (append_assoc f.attr.before (attr_inner f.attr) d.0.rest) in
    subst (OneAttr is_action so bytes) m.2 (record {
      attr = f.attr;
      is = record {
        before = (subst (λ w. w ≢ []) (sym f.is.0) some, subst IsWhite (sym f.is.0) white);
        name = f.is.1;
        around = (f.is.2, f.is.3);
        quote = f.is.4;
        value = f.is.5;
        text = f.is.6;
      };
      new = ap (λ k. has k so) (sym f.name_is) ∙ m.0;
      fine = ap (λ k. bad_id is_action k (bits_text f.attr.value)) (sym f.name_is) ∙ ap (bad_id is_action d.0.name) (sym f.value_is) ∙ m.1;
      bytes_are = here;
      pairs = pair_is;
    })

tag_on_found : (is_action : Bool) (so : List Pair) (bytes : List ℕ) (s : Attributes) → tag_step is_action (so, bytes) ≡ Ok (On s) → OneAttr is_action so bytes s
unfolding tag_step
tag_on_found is_action so bytes s e = let f = skip_found is_space bytes in by f.0 f.1 (behind_spaces bytes) f.2 (begins_spaced bytes) refl e
  where
    by : (front : List ℕ) → IsWhite front → (rest : List ℕ) → bytes ≡ front ++ rest → (t : Bool) → begins_spaced bytes ≡ t → tag_by is_action t so rest ≡ Ok (On s) → OneAttr is_action so bytes s
    by front white [] split t spaced e = absurd cc
    by front white (b ∷ rest) split t spaced e = of (b == 62) (b == 47) t spaced e
      where
        of : (u v t : Bool) → begins_spaced bytes ≡ t
            → (if u then done (record { attributes = so; is_empty = false; rest = rest }) else (if v then (behind_byte 62 rest rest >>= λ r. done (record { attributes = so; is_empty = true; rest = r })) else (if t then (attribute (b ∷ rest) >>= one_more is_action (b ∷ rest) so) else malformed (b ∷ rest)))) ≡ Ok (On s)
            → OneAttr is_action so bytes s
        of true v t spaced e = absurd (not_on (record { attributes = so; is_empty = false; rest = rest }) s e)
        of false true t spaced e =
            let d = bind_ok (behind_byte 62 rest rest) (λ r. done (record { attributes = so; is_empty = true; rest = r })) (On s) e in
            absurd (not_on (record { attributes = so; is_empty = true; rest = d.0 }) s d.2)
        of false false true spaced e = attr_found is_action so bytes front b rest s split white spaced e
        of false false false spaced e = absurd cc

-- the end of a start tag
record TagEnd (so : List Pair) (bytes : List ℕ) (t : Tag) : Type 0 where
  white : List ℕ
  is_white : IsWhite white
  bytes_are : bytes ≡ white ++ (tag_end t.is_empty ++ t.rest)
  pairs : t.attributes ≡ so

tag_done_found : (is_action : Bool) (so : List Pair) (bytes : List ℕ) (t : Tag) → tag_step is_action (so, bytes) ≡ Ok (Done t) → TagEnd so bytes t
unfolding tag_step
tag_done_found is_action so bytes t e = let f = skip_found is_space bytes in by f.0 f.1 (behind_spaces bytes) f.2 (begins_spaced bytes) e
  where
    by : (front : List ℕ) → IsWhite front → (rest : List ℕ) → bytes ≡ front ++ rest → (spaced : Bool) → tag_by is_action spaced so rest ≡ Ok (Done t) → TagEnd so bytes t
    by front white [] split spaced e = absurd cc
    by front white (b ∷ rest) split spaced e = of (b == 62) (b == 47) spaced refl refl e
      where
        read : (x : Tag) → x ≡ t → bytes ≡ front ++ (tag_end x.is_empty ++ x.rest) → x.attributes ≡ so → TagEnd so bytes t
        read x same here pairs = subst (TagEnd so bytes) same (record { white = front; is_white = white; bytes_are = here; pairs = pairs })

        other : (x : Attribute) → one_more is_action (b ∷ rest) so x ≡ Ok (Done t) → ⊥
        other x e = at (has x.name so) (bad_id is_action x.name x.value) e
          where
            at : (v w : Bool) → (if v then malformed (b ∷ rest) else (if w then fault_at kind.ActionId (b ∷ rest) else on (so ++ (record { key = x.name; value = x.value }) ∷ [], x.rest))) ≡ Ok (Done t) → ⊥
            at true w e = cc
            at false true e = cc
            at false false e = not_done t (so ++ (record { key = x.name; value = x.value }) ∷ [], x.rest) e

        of : (u v w : Bool) → (b == 62) ≡ u → (b == 47) ≡ v
            → (if u then done (record { attributes = so; is_empty = false; rest = rest }) else (if v then (behind_byte 62 rest rest >>= λ r. done (record { attributes = so; is_empty = true; rest = r })) else (if w then (attribute (b ∷ rest) >>= one_more is_action (b ∷ rest) so) else malformed (b ∷ rest)))) ≡ Ok (Done t)
            → TagEnd so bytes t
        of true v w p q e =
            let x : Tag = record { attributes = so; is_empty = false; rest = rest } in
            read x (done_same x t e) (split ∙ ap (λ c. front ++ c ∷ rest) (eq_of b 62 p)) refl
        of false true w p q e =
            let d = bind_ok (behind_byte 62 rest rest) (λ r. done (record { attributes = so; is_empty = true; rest = r })) (Done t) e in
            let x : Tag = record { attributes = so; is_empty = true; rest = d.0 } in
            let after : rest ≡ 62 ∷ d.0 = byte_found 62 rest rest d.0 d.1 in
            read x (done_same x t d.2) (split ∙ ap (λ c. front ++ c ∷ rest) (eq_of b 47 q) ∙ ap (λ r. front ++ 47 ∷ r) after) refl
        of false false true p q e =
            let d = bind_ok (attribute (b ∷ rest)) (one_more is_action (b ∷ rest) so) (Done t) e in
            absurd (other d.0 d.2)
        of false false false p q e = absurd cc

-- a whole start tag
pub record WholeTag (is_action : Bool) (so : List Pair) (bytes : List ℕ) (t : Tag) : Type 0 where
  pub attrs : List Attr
  pub white : List ℕ
  pub are : AreAttrs so attrs
  pub fine : AreFineIds is_action attrs
  pub is_white : IsWhite white
  pub bytes_are : bytes ≡ flat_map attr_bytes attrs ++ (white ++ (tag_end t.is_empty ++ t.rest))
  pub pairs : t.attributes ≡ so ++ map attr_pair attrs

tag_first : (is_action : Bool) (so : List Pair) (bytes : List ℕ) (s : Attributes) (t : Tag) → OneAttr is_action so bytes s → WholeTag is_action s.0 s.1 t → WholeTag is_action so bytes t
tag_first is_action so bytes s t one more = record {
  attrs = one.attr ∷ more.attrs;
  white = more.white;
  are = (one.is, one.new, subst (λ p. AreAttrs p more.attrs) one.pairs more.are);
  fine = (one.fine, more.fine);
  is_white = more.is_white;
  bytes_are = one.bytes_are ∙ ap (λ r. attr_bytes one.attr ++ r) more.bytes_are ∙ sym (append_assoc (attr_bytes one.attr) (flat_map attr_bytes more.attrs) (more.white ++ (tag_end t.is_empty ++ t.rest)));
  pairs = more.pairs ∙ ap (λ p. p ++ map attr_pair more.attrs) one.pairs ∙ append_assoc so (attr_pair one.attr ∷ []) (map attr_pair more.attrs);
}

tag_last : (is_action : Bool) (so : List Pair) (bytes : List ℕ) (t : Tag) → TagEnd so bytes t → WholeTag is_action so bytes t
tag_last is_action so bytes t end = record {
  attrs = [];
  white = end.white;
  are = tt;
  fine = tt;
  is_white = end.is_white;
  bytes_are = end.bytes_are;
  pairs = end.pairs ∙ sym (append-nil so);
}

pub tag_found : (is_action : Bool) (bytes : List ℕ) (t : Tag) → tag is_action bytes ≡ Ok t → WholeTag is_action [] bytes t
unfolding tag
tag_found is_action bytes t e = steps_found (tag_step is_action) (λ s y. WholeTag is_action s.0 s.1 y)
    (λ s y last. tag_last is_action s.0 s.1 y (tag_done_found is_action s.0 s.1 y last))
    (λ s r y step more. tag_first is_action s.0 s.1 r y (tag_on_found is_action s.0 s.1 r step) more)
    (length bytes) ([], bytes) t e

-- with its end at its bytes
pub tag_bytes_found : (attrs : List Attr) (white rest : List ℕ) (is_empty : Bool) → flat_map attr_bytes attrs ++ (white ++ (tag_end is_empty ++ rest)) ≡ tag_bytes attrs white is_empty ++ rest
tag_bytes_found attrs white rest is_empty =
    ap (λ r. flat_map attr_bytes attrs ++ r) (sym (append_assoc white (tag_end is_empty) rest)) ∙ sym (append_assoc (flat_map attr_bytes attrs) (white ++ tag_end is_empty) rest)

-- a start tag with what stands after it
pub after_tag_found : (attrs : List Attr) (white left inside rest : List ℕ) (is_empty none : Bool) → is_empty ≡ none → left ≡ inside ++ rest
    → flat_map attr_bytes attrs ++ (white ++ (tag_end is_empty ++ left)) ≡ (tag_bytes attrs white none ++ inside) ++ rest
after_tag_found attrs white left inside rest is_empty none empty left_is =
    tag_bytes_found attrs white left is_empty
    ∙ ap (λ b. tag_bytes attrs white b ++ left) empty
    ∙ ap (λ r. tag_bytes attrs white none ++ r) left_is
    ∙ sym (append_assoc (tag_bytes attrs white none) inside rest)
