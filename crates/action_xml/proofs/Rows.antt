-- Elements one after the other, whatever they are.
use Rattle.std.proofs.Common.{◌≡◌, ◌≢◌, ℕ, suc, ◌+◌, ◌-◌, ◌<◌, ◌≤◌, List, [], ◌∷◌, ◌++◌, length, Bool, true, false, Option, Some, None, Ok, Result, refl, sym, ap, ◌∙◌, subst, arith, append_assoc, length-append}
use Rattle.std.specs.Prelude.{is_none, if◌then◌else◌}
use Rattle.std.specs.List.{flat_map}
use Rattle.xml_pieces.specs.declared.fault.Fault.{Fault}
use Rattle.xml_pieces.specs.Reading.{Step, On, Done, steps}
use Rattle.xml_pieces.specs.Bytes.{is_name_byte}
use Rattle.xml_pieces.specs.Texts.{Tag}
use Rattle.xml_pieces.specs.Children.{Child, End, next}
use Rattle.action_xml.specs.TextForm.{IsWhite, IsName}
use Rattle.action_xml.specs.TagForm.{Attr, attr_bytes, attr_inner, AreAttrs, tag_end, tag_bytes}
use Rattle.action_xml.specs.GapForm.{Gap, gaps_bytes, AreGaps}
use Rattle.action_xml.specs.TextElementForm.{TextElement, end_bytes, behind_name_bytes, inside_bytes, IsTextElement}
use Rattle.action_xml.specs.RowForm.{AddAll, Row, row_bytes, Parent, between_bytes, parent_bytes, SaysAll, text_child_bytes}
use Rattle.action_xml.proofs.Steps.{steps_found}
use Rattle.action_xml.proofs.TextsAgain.{steps_first, steps_last, space_ends}
use Rattle.action_xml.proofs.TextsFound.{ok_is}
use Rattle.action_xml.proofs.TextElementsAgain.{end_before}
use Rattle.action_xml.proofs.NextAgain.{child_again, end_of_parent_again}
use Rattle.action_xml.proofs.NextFound.{next_found}

abbrev pub InRow : Type 0 → Type 0
InRow D = D × List ℕ

rows_again : {D E : Type 0} (bytes_of : E → List ℕ) (Adds : D → E → D → Type 0) (step : InRow D → Result (Step (InRow D) (InRow D)) Fault)
    → ((d more : D) (x : E) (rest : List ℕ) → Adds d x more → step (d, bytes_of x ++ rest) ≡ Ok (On (more, rest)))
    → (d all : D) (xs : List E) (rest : List ℕ) (n : ℕ) → AddAll Adds d xs all
    → steps step (length xs + n) (d, flat_map bytes_of xs ++ rest) ≡ steps step n (all, rest)
rows_again {E = E} bytes_of Adds step one d all [] rest n adds =
    let k : length {A = E} [] + n ≡ n = omega arith in
    ap (λ m. steps step m (d, rest)) k ∙ ap (λ e. steps step n (e, rest)) (sym adds)
rows_again bytes_of Adds step one d all (x ∷ xs) rest n adds =
    let tail : List ℕ = flat_map bytes_of xs ++ rest in
    let k : length (x ∷ xs) + n ≡ suc (length xs + n) = omega arith in
    ap (λ m. steps step m (d, (bytes_of x ++ flat_map bytes_of xs) ++ rest)) k
    ∙ ap (λ y. steps step (suc (length xs + n)) (d, y)) (append_assoc (bytes_of x) (flat_map bytes_of xs) rest)
    ∙ steps_first step (length xs + n) (d, bytes_of x ++ tail) (adds.0, tail) (one d adds.0 x tail adds.1)
    ∙ rows_again bytes_of Adds step one adds.0 all xs rest n adds.2

rows_long : {E : Type 0} (bytes_of : E → List ℕ) → ((x : E) → 0 < length (bytes_of x)) → (xs : List E) → length xs ≤ length (flat_map bytes_of xs)
rows_long bytes_of long [] = omega arith
rows_long bytes_of long (x ∷ xs) = omega (arith, long x, rows_long bytes_of long xs, length-append (bytes_of x) (flat_map bytes_of xs))

-- a row is read again up to the end tag of its parent
pub row_again : {D E : Type 0} (bytes_of : E → List ℕ) (Adds : D → E → D → Type 0) (step : InRow D → Result (Step (InRow D) (InRow D)) Fault)
    → ((d more : D) (x : E) (rest : List ℕ) → Adds d x more → step (d, bytes_of x ++ rest) ≡ Ok (On (more, rest)))
    → ((x : E) → 0 < length (bytes_of x))
    → (d all : D) (xs : List E) (end rest : List ℕ) → 0 < length end → AddAll Adds d xs all → step (all, end) ≡ Ok (Done (all, rest))
    → steps step (length (flat_map bytes_of xs ++ end)) (d, flat_map bytes_of xs ++ end) ≡ Ok (all, rest)
row_again bytes_of Adds step one long d all xs end rest some adds last =
    let m : ℕ = length (flat_map bytes_of xs ++ end) - (length xs + 1) in
    let k : length (flat_map bytes_of xs ++ end) ≡ length xs + suc m = omega (arith, rows_long bytes_of long xs, length-append (flat_map bytes_of xs) end) in
    ap (λ n. steps step n (d, flat_map bytes_of xs ++ end)) k
    ∙ rows_again bytes_of Adds step one d all xs end (suc m) adds
    ∙ steps_last step m (all, end) (all, rest) last

-- the rest of a start tag begins with no byte of a name
pub record NoName (bytes : List ℕ) : Type 0 where
  pub first : ℕ
  pub more : List ℕ
  pub bytes_are : bytes ≡ first ∷ more
  pub other : is_name_byte first ≡ false

white_no_name : (white : List ℕ) (is_empty : Bool) (rest : List ℕ) → IsWhite white → NoName ((white ++ tag_end is_empty) ++ rest)
white_no_name [] true rest is = record { first = 47; more = 62 ∷ rest; bytes_are = refl; other = refl }
white_no_name [] false rest is = record { first = 62; more = rest; bytes_are = refl; other = refl }
white_no_name (b ∷ white) is_empty rest is = record { first = b; more = (white ++ tag_end is_empty) ++ rest; bytes_are = refl; other = space_ends b is.0 }

front_no_name : (front rest : List ℕ) → front ≢ [] → IsWhite front → NoName (front ++ rest)
front_no_name [] rest some is = absurd (some refl)
front_no_name (b ∷ front) rest some is = record { first = b; more = front ++ rest; bytes_are = refl; other = space_ends b is.0 }

pub tag_no_name : (attrs : List Attr) (white : List ℕ) (is_empty : Bool) (rest : List ℕ) → AreAttrs [] attrs → IsWhite white → NoName (tag_bytes attrs white is_empty ++ rest)
tag_no_name [] white is_empty rest are is = white_no_name white is_empty rest is
tag_no_name (a ∷ attrs) white is_empty rest are is =
    let tail : List ℕ = (attr_inner a ++ flat_map attr_bytes attrs) ++ ((white ++ tag_end is_empty) ++ rest) in
    let e : a.before ++ tail ≡ (((a.before ++ attr_inner a) ++ flat_map attr_bytes attrs) ++ (white ++ tag_end is_empty)) ++ rest = simp append_assoc in
    subst NoName e (front_no_name a.before tail are.0.before.0 are.0.before.1)

behind_no_name : (name rest : List ℕ) (e : TextElement) → IsTextElement e → NoName (behind_name_bytes name e ++ rest)
behind_no_name name rest e is =
    subst NoName (sym (append_assoc (tag_bytes e.attrs e.white (is_none e.inside)) (inside_bytes name e.end_white e.inside) rest)) (tag_no_name e.attrs e.white (is_none e.inside) (inside_bytes name e.end_white e.inside ++ rest) is.attrs is.white.0)

-- an element whose rest begins with no byte of a name comes next behind its gaps
pub child_next : (parent name behind : List ℕ) (gaps : List Gap) → AreGaps gaps → IsName name → NoName behind → next parent (gaps_bytes gaps ++ 60 ∷ (name ++ behind)) ≡ Ok (Child name (60 ∷ (name ++ behind)) behind)
child_next parent name behind gaps are is other =
    ap (λ r. next parent (gaps_bytes gaps ++ 60 ∷ (name ++ r))) other.bytes_are
    ∙ child_again parent name gaps other.first other.more are is other.other
    ∙ ap (λ r. Ok (Child name (60 ∷ (name ++ r)) r)) (sym other.bytes_are)

pub child_split : (gaps : List Gap) (name behind rest : List ℕ) → (gaps_bytes gaps ++ 60 ∷ (name ++ behind)) ++ rest ≡ gaps_bytes gaps ++ 60 ∷ (name ++ (behind ++ rest))
child_split gaps name behind rest = append_assoc (gaps_bytes gaps) (60 ∷ (name ++ behind)) rest ∙ ap (λ r. gaps_bytes gaps ++ 60 ∷ r) (append_assoc name behind rest)

pub text_child_next : (parent name rest : List ℕ) (gaps : List Gap) (e : TextElement) → AreGaps gaps → IsName name → IsTextElement e
    → next parent (text_child_bytes gaps name e ++ rest) ≡ Ok (Child name (60 ∷ (name ++ (behind_name_bytes name e ++ rest))) (behind_name_bytes name e ++ rest))
text_child_next parent name rest gaps e are is element =
    ap (next parent) (child_split gaps name (behind_name_bytes name e) rest) ∙ child_next parent name (behind_name_bytes name e ++ rest) gaps are is (behind_no_name name rest e element)

pub child_long : (gaps : List Gap) (bytes : List ℕ) → 0 < length (gaps_bytes gaps ++ 60 ∷ bytes)
child_long gaps bytes = omega (arith, length-append (gaps_bytes gaps) (60 ∷ bytes))

pub end_next : (parent white rest : List ℕ) (gaps : List Gap) → AreGaps gaps → IsName parent → IsWhite white → next parent ((gaps_bytes gaps ++ end_bytes parent white) ++ rest) ≡ Ok (End rest)
end_next parent white rest gaps are is is_white =
    ap (next parent) (append_assoc (gaps_bytes gaps) (end_bytes parent white) rest ∙ ap (λ r. gaps_bytes gaps ++ r) (end_before parent white rest)) ∙ end_of_parent_again parent white gaps rest are is is_white

pub end_long : (parent white rest : List ℕ) (gaps : List Gap) → 0 < length ((gaps_bytes gaps ++ end_bytes parent white) ++ rest)
end_long parent white rest gaps = omega (arith, length-append (gaps_bytes gaps ++ end_bytes parent white) rest, length-append (gaps_bytes gaps) (end_bytes parent white))

-- what stands between the tags of an element is read again, after its start tag
pub between_again : {D E : Type 0} (bytes_of : E → List ℕ) (Adds : D → E → D → Type 0) (name : List ℕ) (step : InRow D → Result (Step (InRow D) (InRow D)) Fault)
    → ((d more : D) (x : E) (rest : List ℕ) → Adds d x more → step (d, bytes_of x ++ rest) ≡ Ok (On (more, rest)))
    → ((x : E) → 0 < length (bytes_of x))
    → ((d : D) (bytes rest : List ℕ) → next name bytes ≡ Ok (End rest) → step (d, bytes) ≡ Ok (Done (d, rest)))
    → IsName name → (none all : D) (inside : Option (Row E)) (rest : List ℕ) → SaysAll Adds none inside all
    → (if is_none inside then Ok (none, between_bytes bytes_of name inside ++ rest) else steps step (length (between_bytes bytes_of name inside ++ rest)) (none, between_bytes bytes_of name inside ++ rest)) ≡ Ok (all, rest)
between_again bytes_of Adds name step one long last is none all None rest says = ap (λ m. Ok (m, rest)) (sym says)
between_again bytes_of Adds name step one long last is none all (Some r) rest says =
    let end : List ℕ = (gaps_bytes r.last ++ end_bytes name r.end_white) ++ rest in
    let e : row_bytes bytes_of name r ++ rest ≡ flat_map bytes_of r.elements ++ end = append_assoc (flat_map bytes_of r.elements) (gaps_bytes r.last ++ end_bytes name r.end_white) rest in
    ap (λ b. steps step (length b) (none, b)) e
    ∙ row_again bytes_of Adds step one long none all r.elements end rest
    (end_long name r.end_white rest r.last) says.0 (last all end rest (end_next name r.end_white rest r.last says.1 is says.2))

-- found: the end of a row, one element, a whole row, and what stands between two tags
pub record RowEnd (parent bytes rest : List ℕ) : Type 0 where
  pub last : List Gap
  pub are : AreGaps last
  pub white : List ℕ
  pub is_white : IsWhite white
  pub bytes_are : bytes ≡ (gaps_bytes last ++ end_bytes parent white) ++ rest

pub end_found_next : (parent bytes rest : List ℕ) → next parent bytes ≡ Ok (End rest) → RowEnd parent bytes rest
end_found_next parent bytes rest e =
    let f = next_found parent bytes (End rest) e in
    record {
      last = f.gaps;
      are = f.are;
      white = f.is.0;
      is_white = f.is.1;
      bytes_are = f.bytes_are ∙ ap (λ r. gaps_bytes f.gaps ++ r) (f.is.2 ∙ sym (end_before parent f.is.0 rest)) ∙ sym (append_assoc (gaps_bytes f.gaps) (end_bytes parent f.is.0) rest);
    }

pub record OneElement {D E : Type 0} (bytes_of : E → List ℕ) (Adds : D → E → D → Type 0) (d : D) (bytes : List ℕ) (s : InRow D) : Type 0 where
  pub element : E
  pub adds : Adds d element s.0
  pub bytes_are : bytes ≡ bytes_of element ++ s.1

pub record FoundRow {D E : Type 0} (bytes_of : E → List ℕ) (Adds : D → E → D → Type 0) (parent : List ℕ) (d : D) (bytes : List ℕ) (x : InRow D) : Type 0 where
  pub elements : List E
  pub adds : AddAll Adds d elements x.0
  pub end : List ℕ
  pub bytes_are : bytes ≡ flat_map bytes_of elements ++ end
  pub end_is : RowEnd parent end x.1

pub row_found : {D E : Type 0} (bytes_of : E → List ℕ) (Adds : D → E → D → Type 0) (parent : List ℕ) (step : InRow D → Result (Step (InRow D) (InRow D)) Fault)
    → ((d : D) (bytes : List ℕ) (x : InRow D) → step (d, bytes) ≡ Ok (Done x) → (x.0 ≡ d) × RowEnd parent bytes x.1)
    → ((d : D) (bytes : List ℕ) (s : InRow D) → step (d, bytes) ≡ Ok (On s) → OneElement bytes_of Adds d bytes s)
    → (n : ℕ) (d : D) (bytes : List ℕ) (x : InRow D) → steps step n (d, bytes) ≡ Ok x → FoundRow bytes_of Adds parent d bytes x
row_found bytes_of Adds parent step last one n d bytes x e =
    steps_found step (λ s y. FoundRow bytes_of Adds parent s.0 s.1 y)
    (λ s y done. let f = last s.0 s.1 y done in record { elements = []; adds = f.0; end = s.1; bytes_are = refl; end_is = f.1 })
    (λ s t y on more. let f = one s.0 s.1 t on in record {
      elements = f.element ∷ more.elements;
      adds = (t.0, f.adds, more.adds);
      end = more.end;
      bytes_are = f.bytes_are ∙ ap (λ r. bytes_of f.element ++ r) more.bytes_are ∙ sym (append_assoc (bytes_of f.element) (flat_map bytes_of more.elements) more.end);
      end_is = more.end_is;
    })
    n (d, bytes) x e

pub record FoundInside {D E : Type 0} (bytes_of : E → List ℕ) (Adds : D → E → D → Type 0) (name : List ℕ) (none : D) (t : Tag) (x : InRow D) : Type 0 where
  pub inside : Option (Row E)
  pub says : SaysAll Adds none inside x.0
  pub empty : t.is_empty ≡ is_none inside
  pub rest_is : t.rest ≡ between_bytes bytes_of name inside ++ x.1

pub between_found : {D E : Type 0} (bytes_of : E → List ℕ) (Adds : D → E → D → Type 0) (name : List ℕ) (step : InRow D → Result (Step (InRow D) (InRow D)) Fault)
    → ((d : D) (bytes : List ℕ) (x : InRow D) → step (d, bytes) ≡ Ok (Done x) → (x.0 ≡ d) × RowEnd name bytes x.1)
    → ((d : D) (bytes : List ℕ) (s : InRow D) → step (d, bytes) ≡ Ok (On s) → OneElement bytes_of Adds d bytes s)
    → (none : D) (t : Tag) (x : InRow D) → (if t.is_empty then Ok (none, t.rest) else steps step (length t.rest) (none, t.rest)) ≡ Ok x → FoundInside bytes_of Adds name none t x
between_found {D = D} {E = E} bytes_of Adds name step last one none t x e = of t.is_empty refl e
  where
    of : (b : Bool) → t.is_empty ≡ b → (if b then Ok (none, t.rest) else steps step (length t.rest) (none, t.rest)) ≡ Ok x → FoundInside bytes_of Adds name none t x
    of true empty e =
        let same : (none, t.rest) ≡ x = ok_is (none, t.rest) x e in
        record { inside = None; says = sym (ap (λ (y : InRow D). y.0) same); empty = empty; rest_is = ap (λ (y : InRow D). y.1) same }
    of false full e =
        let f = row_found bytes_of Adds name step last one (length t.rest) none t.rest x e in
        let r : Row E = record { elements = f.elements; last = f.end_is.last; end_white = f.end_is.white } in
        record {
          inside = Some r;
          says = (f.adds, f.end_is.are, f.end_is.is_white);
          empty = full;
          rest_is = f.bytes_are ∙ ap (λ e. flat_map bytes_of f.elements ++ e) f.end_is.bytes_are
              ∙ sym (append_assoc (flat_map bytes_of f.elements) (gaps_bytes f.end_is.last ++ end_bytes name f.end_is.white) x.1);
        }

-- the rest of any element with a row begins with no byte of a name
pub parent_no_name : {E : Type 0} (bytes_of : E → List ℕ) (name : List ℕ) (p : Parent E) (rest : List ℕ) → AreAttrs [] p.attrs → IsWhite p.white → NoName (parent_bytes bytes_of name p ++ rest)
parent_no_name bytes_of name p rest are is =
    subst NoName (sym (append_assoc (tag_bytes p.attrs p.white (is_none p.inside)) (between_bytes bytes_of name p.inside) rest)) (tag_no_name p.attrs p.white (is_none p.inside) (between_bytes bytes_of name p.inside ++ rest) are is)
