-- What is read before the root and behind it has the form.
use Rattle.std.proofs.Common.{◌≡◌, ℕ, ◌+◌, ◌&&◌, ◌||◌, ◌==◌, List, [], ◌∷◌, ◌++◌, length, drop, Bool, true, false, Option, Some, None, Ok, Result, refl, sym, ap, ◌∙◌, subst, append_assoc, ◌⊎◌, inl, inr}
use Rattle.std.specs.Prelude.{if◌then◌else◌, codes}
use Rattle.std.specs.List.{flat_map}
use Rattle.xml_pieces.specs.declared.fault.Fault.{Fault}
use Rattle.xml_pieces.specs.Reading.{◌>>=◌, malformed, cut_off, Step, On, Done}
use Rattle.xml_pieces.specs.Bytes.{is_space, behind_spaces, is_next, behind_pair, begins, is_cut_word}
use Rattle.xml_pieces.specs.Markup.{declaration, is_xml, ends_target, xml_declaration, instruction, quoted, doctype_step, doctype, Prolog, prolog_declaration, prolog_markup, prolog_by, prolog_step, prolog}
use Rattle.action_xml.specs.TextForm.{IsWhite}
use Rattle.action_xml.specs.PrologForm.{NoClose, IsXml, instruction_bytes, declaration_bytes, IsDeclaration, Misc, Blank, Remark, Instruction, misc_bytes, IsMisc, miscs_bytes, AreMiscs, DoctypeBit, Bare, Quoted, doctype_bit_bytes, NoQuote, IsDoctypeBit, AreDoctypeBits, Doctype, doctype_bytes, IsDoctype}
use Rattle.action_xml.proofs.Steps.{steps_found, not_done, on_same, done_same}
use Rattle.action_xml.proofs.TextsFound.{bind_ok, ok_is, eq_of, ne_of, skip_found, next_is, begins_found, comment_found}
use Rattle.action_xml.proofs.PrologAgain.{instruction_split, xml_is, xml_found}

abbrev on : List ℕ → Result (Step (List ℕ) (List ℕ)) Fault
on s = Ok (On s)

abbrev done : List ℕ → Result (Step (List ℕ) (List ℕ)) Fault
done x = Ok (Done x)

close_grow : (b : ℕ) (inside rest : List ℕ) → NoClose inside → (b == 63 && is_next 62 (inside ++ 63 ∷ 62 ∷ rest)) ≡ false → NoClose (b ∷ inside)
close_grow b [] rest none e = tt
close_grow b (c ∷ inside) rest none e = (λ first second. of first second e, none)
  where
    of : b ≡ 63 → c ≡ 62 → (b == 63 && c == 62) ≡ false → ⊥
    of first second e = let x : (63 == 63 && 62 == 62) ≡ false = ap (λ d. d == 63 && 62 == 62) (sym first) ∙ ap (λ d. b == 63 && d == 62) (sym second) ∙ e in absurd cc

-- up to the first `?>`
pub close_found : (bytes rest : List ℕ) → behind_pair 63 62 bytes ≡ Ok rest → (inside : List ℕ) × NoClose inside × (bytes ≡ inside ++ 63 ∷ 62 ∷ rest)
close_found [] rest e = absurd cc
close_found (b ∷ bytes) rest e = of (b == 63) (is_next 62 bytes) refl refl (close_found bytes rest) e
  where
    more : ((b == 63) && is_next 62 bytes) ≡ false → (inside : List ℕ) × NoClose inside × (bytes ≡ inside ++ 63 ∷ 62 ∷ rest) → (inside : List ℕ) × NoClose inside × (b ∷ bytes ≡ inside ++ 63 ∷ 62 ∷ rest)
    more none ih = (b ∷ ih.0, close_grow b ih.0 rest ih.1 (ap (λ r. (b == 63) && is_next 62 r) (sym ih.2) ∙ none), ap (λ r. b ∷ r) ih.2)

    of : (t u : Bool) → (b == 63) ≡ t → is_next 62 bytes ≡ u
        → (behind_pair 63 62 bytes ≡ Ok rest → (inside : List ℕ) × NoClose inside × (bytes ≡ inside ++ 63 ∷ 62 ∷ rest)) → (if t && u then Ok (drop 1 bytes) else behind_pair 63 62 bytes) ≡ Ok rest
        → (inside : List ℕ) × NoClose inside × (b ∷ bytes ≡ inside ++ 63 ∷ 62 ∷ rest)
    of true true p q ih e = ([], tt, ap (λ x. x ∷ bytes) (eq_of b 63 p) ∙ ap (λ r. 63 ∷ r) (next_is 62 bytes q ∙ ap (λ r. 62 ∷ r) (ok_is (drop 1 bytes) rest e)))
    of true false p q ih e = more (ap (λ t. t && is_next 62 bytes) p ∙ q) (ih e)
    of false u p q ih e = more (ap (λ t. t && is_next 62 bytes) p) (ih e)

-- an instruction that is no XML declaration
pub record OneInstruction (bytes rest : List ℕ) : Type 0 where
  pub inside : List ℕ
  pub is : IsMisc (Instruction inside)
  pub bytes_are : 60 ∷ 63 ∷ bytes ≡ instruction_bytes inside ++ rest

instruction_found : (bytes rest : List ℕ) → instruction (60 ∷ 63 ∷ bytes) ≡ Ok rest → OneInstruction bytes rest
unfolding instruction
instruction_found bytes rest e = of (is_xml (60 ∷ 63 ∷ bytes)) refl e
  where
    of : (t : Bool) → is_xml (60 ∷ 63 ∷ bytes) ≡ t → (if t then malformed (60 ∷ 63 ∷ bytes) else behind_pair 63 62 bytes) ≡ Ok rest → OneInstruction bytes rest
    of true p e = absurd cc
    of false p e =
        let f = close_found bytes rest e in
        let no : is_xml (60 ∷ 63 ∷ (f.0 ++ 63 ∷ 62 ∷ rest)) ≡ false = ap (λ r. is_xml (60 ∷ 63 ∷ r)) (sym f.2) ∙ p in
        record {
          inside = f.0;
          is = (f.1, λ (x : IsXml f.0). let yes : is_xml (60 ∷ 63 ∷ (f.0 ++ 63 ∷ 62 ∷ rest)) ≡ true = xml_is f.0 rest x in cc);
          bytes_are = ap (λ r. 60 ∷ 63 ∷ r) f.2 ∙ sym (instruction_split f.0 rest);
        }

-- the XML declaration, where it stands
pub record OneDeclaration (bytes rest : List ℕ) : Type 0 where
  pub declared : Option (List ℕ)
  pub is : IsDeclaration declared
  pub bytes_are : bytes ≡ declaration_bytes declared ++ rest

xml_front : (bytes : List ℕ) → is_xml bytes ≡ true → bytes ≡ 60 ∷ 63 ∷ drop 2 bytes
unfolding is_xml
xml_front bytes e = of (begins (codes "<?xml") bytes) refl e
  where
    of : (t : Bool) → begins (codes "<?xml") bytes ≡ t → (t && ends_target (drop 5 bytes)) ≡ true → bytes ≡ 60 ∷ 63 ∷ drop 2 bytes
    of true p e = let f : bytes ≡ codes "<?xml" ++ drop 5 bytes = begins_found (codes "<?xml") bytes p in f ∙ ap (λ r. 60 ∷ 63 ∷ drop 2 r) (sym f)
    of false p e = absurd cc

pub declaration_found : (bytes rest : List ℕ) → xml_declaration bytes ≡ Ok rest → OneDeclaration bytes rest
unfolding xml_declaration
declaration_found bytes rest e = of (is_xml bytes) refl e
  where
    of : (t : Bool) → is_xml bytes ≡ t → (if t then behind_pair 63 62 (drop 2 bytes) else Ok bytes) ≡ Ok rest → OneDeclaration bytes rest
    of true p e =
        let f = close_found (drop 2 bytes) rest e in
        let split : bytes ≡ 60 ∷ 63 ∷ (f.0 ++ 63 ∷ 62 ∷ rest) = xml_front bytes p ∙ ap (λ r. 60 ∷ 63 ∷ r) f.2 in
        record { declared = Some f.0; is = (f.1, xml_found f.0 rest (ap is_xml (sym split) ∙ p)); bytes_are = split ∙ sym (instruction_split f.0 rest) }
    of false p e = record { declared = None; is = tt; bytes_are = ok_is bytes rest e }

-- a DOCTYPE
quoted_found : (quote : ℕ) (here bytes rest : List ℕ) → quoted quote here bytes ≡ Ok rest → (inside : List ℕ) × NoQuote quote inside × (bytes ≡ inside ++ quote ∷ rest)
quoted_found quote here [] rest e = absurd cc
quoted_found quote here (b ∷ bytes) rest e = of (b == quote) (b == 91) refl refl (quoted_found quote here bytes rest) e
  where
    of : (t u : Bool) → (b == quote) ≡ t → (b == 91) ≡ u
        → (quoted quote here bytes ≡ Ok rest → (inside : List ℕ) × NoQuote quote inside × (bytes ≡ inside ++ quote ∷ rest))
        → (if t then Ok bytes else (if u then malformed here else quoted quote here bytes)) ≡ Ok rest
        → (inside : List ℕ) × NoQuote quote inside × (b ∷ bytes ≡ inside ++ quote ∷ rest)
    of true u p q ih e = ([], tt, ap (λ x. x ∷ bytes) (eq_of b quote p) ∙ ap (λ r. quote ∷ r) (ok_is bytes rest e))
    of false true p q ih e = absurd cc
    of false false p q ih e = let f = ih e in (b ∷ f.0, (ne_of b quote p, ne_of b 91 q, f.1), ap (λ r. b ∷ r) f.2)

record DoctypeRest (bytes rest : List ℕ) : Type 0 where
  bits : List DoctypeBit
  are : AreDoctypeBits bits
  bytes_are : bytes ≡ flat_map doctype_bit_bytes bits ++ 62 ∷ rest

bit_before : (bytes tail rest : List ℕ) (b : DoctypeBit) → IsDoctypeBit b → bytes ≡ doctype_bit_bytes b ++ tail → DoctypeRest tail rest → DoctypeRest bytes rest
bit_before bytes tail rest b is split more = record {
  bits = b ∷ more.bits;
  are = (is, more.are);
  bytes_are = split ∙ ap (λ r. doctype_bit_bytes b ++ r) more.bytes_are ∙ sym (append_assoc (doctype_bit_bytes b) (flat_map doctype_bit_bytes more.bits) (62 ∷ rest));
}

quoted_before : (here bytes tail rest : List ℕ) (quote : ℕ) → (quote ≡ 34) ⊎ (quote ≡ 39) → (quoted quote here bytes >>= on) ≡ on tail → DoctypeRest tail rest → DoctypeRest (quote ∷ bytes) rest
quoted_before here bytes tail rest quote is e more =
    let b = bind_ok (quoted quote here bytes) on (On tail) e in
    let f = quoted_found quote here bytes b.0 b.1 in
    let split : quote ∷ bytes ≡ (quote ∷ (f.0 ++ quote ∷ [])) ++ tail = ap (λ r. quote ∷ r) (f.2 ∙ ap (λ r. f.0 ++ quote ∷ r) (on_same b.0 tail b.2) ∙ sym (append_assoc f.0 (quote ∷ []) tail)) in
    bit_before (quote ∷ bytes) tail rest (Quoted quote f.0) (is, f.1) split more

doctype_on : (here bytes tail rest : List ℕ) → doctype_step here bytes ≡ Ok (On tail) → DoctypeRest tail rest → DoctypeRest bytes rest
unfolding doctype_step
doctype_on here [] tail rest e more = absurd cc
doctype_on here (b ∷ bytes) tail rest e more = of (b == 62) (b == 91) (b == 34) (b == 39) refl refl refl refl e
  where
    of : (t u v w : Bool) → (b == 62) ≡ t → (b == 91) ≡ u → (b == 34) ≡ v → (b == 39) ≡ w
        → (if t then done bytes else (if u then malformed here else (if v || w then (quoted b here bytes >>= on) else on bytes))) ≡ on tail → DoctypeRest (b ∷ bytes) rest
    of true u v w p q r s e = absurd cc
    of false true v w p q r s e = absurd cc
    of false false true w p q r s e = quoted_before here bytes tail rest b (inl (eq_of b 34 r)) e more
    of false false false true p q r s e = quoted_before here bytes tail rest b (inr (eq_of b 39 s)) e more
    of false false false false p q r s e = bit_before (b ∷ bytes) tail rest (Bare b) (ne_of b 62 p, ne_of b 91 q, ne_of b 34 r, ne_of b 39 s) (ap (λ r. b ∷ r) (on_same bytes tail e)) more

doctype_last : (here bytes rest : List ℕ) → doctype_step here bytes ≡ Ok (Done rest) → DoctypeRest bytes rest
unfolding doctype_step
doctype_last here [] rest e = absurd cc
doctype_last here (b ∷ bytes) rest e = of (b == 62) (b == 91) (b == 34 || b == 39) refl e
  where
    of : (t u v : Bool) → (b == 62) ≡ t
        → (if t then done bytes else (if u then malformed here else (if v then (quoted b here bytes >>= on) else on bytes))) ≡ done rest → DoctypeRest (b ∷ bytes) rest
    of true u v p e = record { bits = []; are = tt; bytes_are = ap (λ c. c ∷ bytes) (eq_of b 62 p) ∙ ap (λ r. 62 ∷ r) (done_same bytes rest e) }
    of false true v p e = absurd cc
    of false false true p e = let b = bind_ok (quoted b here bytes) on (Done rest) e in absurd (not_done rest b.0 b.2)
    of false false false p e = absurd (not_done rest bytes e)

doctype_found : (here rest : List ℕ) → doctype here ≡ Ok rest → DoctypeRest (drop 9 here) rest
unfolding doctype
doctype_found here rest e = steps_found (doctype_step here) DoctypeRest (doctype_last here) (λ s t x step more. doctype_on here s t x step more) (length here) (drop 9 here) rest e

-- what stands before the root, with a DOCTYPE where one may come, and what ends it
pub record OneFront (may : Bool) (bytes here : List ℕ) : Type 0 where
  pub miscs : List Misc
  pub are : AreMiscs miscs
  pub doc : Option Doctype
  pub is : IsDoctype doc
  pub only : may ≡ false → doc ≡ None
  pub ends : (here ≡ []) ⊎ ((rest : List ℕ) × (here ≡ 60 ∷ rest))
  pub bytes_are : bytes ≡ miscs_bytes miscs ++ (doctype_bytes doc ++ here)

misc_before : (may : Bool) (m : Misc) (bytes tail here : List ℕ) → IsMisc m → bytes ≡ misc_bytes m ++ tail → OneFront may tail here → OneFront may bytes here
misc_before may m bytes tail here is split front = record {
  miscs = m ∷ front.miscs;
  are = (is, front.are);
  doc = front.doc;
  is = front.is;
  only = front.only;
  ends = front.ends;
  bytes_are = split ∙ ap (λ r. misc_bytes m ++ r) front.bytes_are ∙ sym (append_assoc (misc_bytes m) (miscs_bytes front.miscs) (doctype_bytes front.doc ++ here));
}

white_before : (may : Bool) (here white bytes tail : List ℕ) → IsWhite white → bytes ≡ white ++ tail → OneFront may tail here → OneFront may bytes here
white_before may here [] bytes tail is split front = subst (λ b. OneFront may b here) (sym split) front
white_before may here (w ∷ white) bytes tail is split front =
    misc_before may (Blank w) bytes (white ++ tail) here is.0 split (white_before may here white (white ++ tail) tail is.1 refl front)

doctype_before : (bytes tail here : List ℕ) → begins (codes "<!DOCTYPE") bytes ≡ true → DoctypeRest (drop 9 bytes) tail → OneFront false tail here → OneFront true bytes here
doctype_before bytes tail here is d front =
    let bits : List ℕ = flat_map doctype_bit_bytes d.bits in
    let none : front.doc ≡ None = front.only refl in
    let tail_is : tail ≡ miscs_bytes front.miscs ++ here = front.bytes_are ∙ ap (λ o. miscs_bytes front.miscs ++ (doctype_bytes o ++ here)) none in
    record {
      miscs = [];
      are = tt;
      doc = Some (record { bits = d.bits; behind = front.miscs });
      is = (d.are, front.are);
      only = λ (e : true ≡ false). absurd cc;
      ends = front.ends;
      bytes_are = begins_found (codes "<!DOCTYPE") bytes is
          ∙ ap (λ r. codes "<!DOCTYPE" ++ r) (d.bytes_are ∙ ap (λ r. bits ++ 62 ∷ r) tail_is ∙ sym (append_assoc bits (62 ∷ miscs_bytes front.miscs) here));
    }

comment_before : (may : Bool) (bytes tail here : List ℕ) → declaration bytes ≡ Ok tail → OneFront may tail here → OneFront may bytes here
comment_before may bytes tail here e front =
    let f = comment_found bytes tail e in
    misc_before may (Remark f.0) bytes tail here f.1 f.2 front

abbrev on_to : Prolog → Result (Step Prolog (List ℕ)) Fault
on_to p = Ok (On p)

abbrev done_with : List ℕ → Result (Step Prolog (List ℕ)) Fault
done_with rest = Ok (Done rest)

to_same : (x y : Prolog) → on_to x ≡ on_to y → x ≡ y
to_same x y e = cc

with_same : (x y : List ℕ) → done_with x ≡ done_with y → x ≡ y
with_same x y e = cc

not_with : (p : Prolog) (x : List ℕ) → on_to p ≡ done_with x → ⊥
not_with p x e = cc

not_to : (x : List ℕ) (p : Prolog) → done_with x ≡ on_to p → ⊥
not_to x p e = cc

-- at `<!`
declared : (may : Bool) (bytes here : List ℕ) (t : Prolog) → prolog_declaration may bytes ≡ Ok t → OneFront t.0 t.1 here → OneFront may bytes here
unfolding prolog_declaration
declared true bytes here t e front = of (begins (codes "<!DOCTYPE") bytes) (is_cut_word (codes "<!DOCTYPE") bytes) refl e
  where
    of : (u v : Bool) → begins (codes "<!DOCTYPE") bytes ≡ u
        → (if u then (doctype bytes >>= λ rest. Ok (false, rest)) else (if v then cut_off else (declaration bytes >>= λ rest. Ok (true, rest)))) ≡ Ok t → OneFront true bytes here
    of true v p e =
        let b = bind_ok (doctype bytes) (λ rest. Ok (false, rest)) t e in
        let same : (false, b.0) ≡ t = ok_is (false, b.0) t b.2 in
        doctype_before bytes b.0 here p (doctype_found bytes b.0 b.1) (subst (λ (s : Prolog). OneFront s.0 s.1 here) (sym same) front)
    of false true p e = absurd cc
    of false false p e =
        let b = bind_ok (declaration bytes) (λ rest. Ok (true, rest)) t e in
        let same : (true, b.0) ≡ t = ok_is (true, b.0) t b.2 in
        comment_before true bytes b.0 here b.1 (subst (λ (s : Prolog). OneFront s.0 s.1 here) (sym same) front)
declared false bytes here t e front =
    let b = bind_ok (declaration bytes) (λ rest. Ok (false, rest)) t e in
    let same : (false, b.0) ≡ t = ok_is (false, b.0) t b.2 in
    comment_before false bytes b.0 here b.1 (subst (λ (s : Prolog). OneFront s.0 s.1 here) (sym same) front)

-- at `<?`
instructed : (may : Bool) (bytes here : List ℕ) (t : Prolog) → (instruction (60 ∷ 63 ∷ bytes) >>= λ rest. on_to (may, rest)) ≡ on_to t → OneFront t.0 t.1 here → OneFront may (60 ∷ 63 ∷ bytes) here
instructed may bytes here t e front =
    let b = bind_ok (instruction (60 ∷ 63 ∷ bytes)) (λ rest. on_to (may, rest)) (On t) e in
    let same : (may, b.0) ≡ t = to_same (may, b.0) t b.2 in
    let f = instruction_found bytes b.0 b.1 in
    misc_before may (Instruction f.inside) (60 ∷ 63 ∷ bytes) b.0 here f.is f.bytes_are (subst (λ (s : Prolog). OneFront s.0 s.1 here) (sym same) front)

-- at `<`
markup_on : (may : Bool) (bytes here : List ℕ) (t : Prolog) → prolog_markup may (60 ∷ bytes) bytes ≡ on_to t → OneFront t.0 t.1 here → OneFront may (60 ∷ bytes) here
markup_on may [] here t e front = absurd (not_to (60 ∷ []) t e)
markup_on may (c ∷ bytes) here t e front = of (c == 33) (c == 63) refl e
  where
    of : (u v : Bool) → (c == 63) ≡ v
        → (if u then (prolog_declaration may (60 ∷ c ∷ bytes) >>= on_to) else (if v then (instruction (60 ∷ c ∷ bytes) >>= λ rest. on_to (may, rest)) else done_with (60 ∷ c ∷ bytes))) ≡ on_to t
        → OneFront may (60 ∷ c ∷ bytes) here
    of true v p e =
        let b = bind_ok (prolog_declaration may (60 ∷ c ∷ bytes)) on_to (On t) e in
        declared may (60 ∷ c ∷ bytes) here b.0 b.1 (subst (λ (s : Prolog). OneFront s.0 s.1 here) (sym (to_same b.0 t b.2)) front)
    of false true p e =
        let same : c ≡ 63 = eq_of c 63 p in
        subst (λ d. OneFront may (60 ∷ d ∷ bytes) here) (sym same) (instructed may bytes here t (ap (λ d. instruction (60 ∷ d ∷ bytes) >>= λ rest. on_to (may, rest)) (sym same) ∙ e) front)
    of false false p e = absurd (not_to (60 ∷ c ∷ bytes) t e)

markup_done : (may : Bool) (bytes here : List ℕ) → prolog_markup may (60 ∷ bytes) bytes ≡ done_with here → here ≡ 60 ∷ bytes
markup_done may [] here e = sym (with_same (60 ∷ []) here e)
markup_done may (c ∷ bytes) here e = of (c == 33) (c == 63) e
  where
    of : (u v : Bool)
        → (if u then (prolog_declaration may (60 ∷ c ∷ bytes) >>= on_to) else (if v then (instruction (60 ∷ c ∷ bytes) >>= λ rest. on_to (may, rest)) else done_with (60 ∷ c ∷ bytes))) ≡ done_with here
        → here ≡ 60 ∷ c ∷ bytes
    of true v e = let b = bind_ok (prolog_declaration may (60 ∷ c ∷ bytes)) on_to (Done here) e in absurd (not_with b.0 here b.2)
    of false true e = let b = bind_ok (instruction (60 ∷ c ∷ bytes)) (λ rest. on_to (may, rest)) (Done here) e in absurd (not_with (may, b.0) here b.2)
    of false false e = sym (with_same (60 ∷ c ∷ bytes) here e)

front_on : (p t : Prolog) (here : List ℕ) → prolog_step p ≡ Ok (On t) → OneFront t.0 t.1 here → OneFront p.0 p.1 here
unfolding prolog_step
front_on p t here e front = let f = skip_found is_space p.1 in by f.0 f.1 (behind_spaces p.1) f.2 e
  where
    by : (white : List ℕ) → IsWhite white → (rest : List ℕ) → p.1 ≡ white ++ rest → prolog_by p.0 rest ≡ on_to t → OneFront p.0 p.1 here
    by white is [] split e = absurd (not_to [] t e)
    by white is (b ∷ rest) split e = of (b == 60) refl e
      where
        of : (u : Bool) → (b == 60) ≡ u → (if u then prolog_markup p.0 (b ∷ rest) rest else malformed (b ∷ rest)) ≡ on_to t → OneFront p.0 p.1 here
        of true q e =
            let same : b ≡ 60 = eq_of b 60 q in
            let m = markup_on p.0 rest here t (ap (λ c. prolog_markup p.0 (c ∷ rest) rest) (sym same) ∙ e) front in
            white_before p.0 here white p.1 (60 ∷ rest) is (split ∙ ap (λ c. white ++ c ∷ rest) same) m
        of false q e = absurd cc

nothing_before : (may : Bool) (here : List ℕ) → (here ≡ []) ⊎ ((rest : List ℕ) × (here ≡ 60 ∷ rest)) → OneFront may here here
nothing_before may here ends = record { miscs = []; are = tt; doc = None; is = tt; only = λ (e : may ≡ false). refl; ends = ends; bytes_are = refl }

front_done : (p : Prolog) (here : List ℕ) → prolog_step p ≡ Ok (Done here) → OneFront p.0 p.1 here
unfolding prolog_step
front_done p here e = let f = skip_found is_space p.1 in by f.0 f.1 (behind_spaces p.1) f.2 e
  where
    by : (white : List ℕ) → IsWhite white → (rest : List ℕ) → p.1 ≡ white ++ rest → prolog_by p.0 rest ≡ done_with here → OneFront p.0 p.1 here
    by white is [] split e =
        let same : [] ≡ here = with_same [] here e in
        white_before p.0 here white p.1 here is (split ∙ ap (λ r. white ++ r) same) (nothing_before p.0 here (inl (sym same)))
    by white is (b ∷ rest) split e = of (b == 60) refl e
      where
        of : (u : Bool) → (b == 60) ≡ u → (if u then prolog_markup p.0 (b ∷ rest) rest else malformed (b ∷ rest)) ≡ done_with here → OneFront p.0 p.1 here
        of true q e =
            let same : b ≡ 60 = eq_of b 60 q in
            let m : here ≡ 60 ∷ rest = markup_done p.0 rest here (ap (λ c. prolog_markup p.0 (c ∷ rest) rest) (sym same) ∙ e) in
            white_before p.0 here white p.1 here is (split ∙ ap (λ c. white ++ c ∷ rest) same ∙ ap (λ r. white ++ r) (sym m)) (nothing_before p.0 here (inr (rest, m)))
        of false q e = absurd cc

pub front_found : (may : Bool) (bytes here : List ℕ) → prolog may bytes ≡ Ok here → OneFront may bytes here
unfolding prolog
front_found may bytes here e = steps_found prolog_step (λ s x. OneFront s.0 s.1 x) front_done (λ s t x step front. front_on s t x step front) (length bytes + 1) (may, bytes) here e
