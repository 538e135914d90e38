-- What stands before the root and behind it is read again.
use Rattle.std.proofs.Common.{◌≡◌, ◌≢◌, ℕ, zero, suc, ◌+◌, ◌<◌, ◌≤◌, ◌&&◌, ◌==◌, List, [], ◌∷◌, ◌++◌, length, drop, Bool, true, false, Option, Some, None, Ok, Result, refl, sym, ap, ◌∙◌, subst, arith, append_assoc, append-nil, length-append, ◌⊎◌, inl, inr}
use Rattle.std.specs.Prelude.{if◌then◌else◌, codes, ◌||◌}
use Rattle.std.specs.List.{flat_map}
use Rattle.std.proofs.lemmas.Bool.{ne_eqb}
use Rattle.std.proofs.lemmas.Bool.Decides.{Decides-eqb}
use Rattle.xml_pieces.specs.declared.fault.Fault.{Fault}
use Rattle.xml_pieces.specs.Reading.{◌>>=◌, malformed, Step, On, Done, go_on, steps}
use Rattle.xml_pieces.specs.Bytes.{is_space, behind_spaces, behind_pair, begins}
use Rattle.xml_pieces.specs.Markup.{declaration, ends_target, is_xml, instruction, quoted, doctype_step, doctype, Prolog, prolog_declaration, prolog_by, prolog_step, prolog}
use Rattle.action_xml.specs.TextForm.{comment_bytes}
use Rattle.action_xml.specs.PrologForm.{NoClose, EndsWord, IsXml, instruction_bytes, Misc, Blank, Remark, Instruction, miscs_bytes, AreMiscs, DoctypeBit, Bare, Quoted, doctype_bit_bytes, NoQuote, IsDoctypeBit, AreDoctypeBits, Doctype, doctype_bytes, IsDoctype}
use Rattle.action_xml.proofs.Steps.{Leads, leads_none, leads_first, leads_done}
use Rattle.action_xml.proofs.TextsAgain.{comment_again}
use Rattle.action_xml.proofs.TextsFound.{begins_found, eq_of, ne_of}

not_closed : (b c : ℕ) → (b ≡ 63 → c ≢ 62) → (b == 63 && c == 62) ≡ false
not_closed b c none = of (b == 63) (c == 62) refl refl
  where
    of : (t u : Bool) → (b == 63) ≡ t → (c == 62) ≡ u → (t && u) ≡ false
    of true true p q = absurd (none (eq_of b 63 p) (eq_of c 62 q))
    of true false p q = refl
    of false u p q = refl

and_false : (t : Bool) → (t && false) ≡ false
and_false true = refl
and_false false = refl

-- up to the first `?>`
pub close_again : (inside rest : List ℕ) → NoClose inside → behind_pair 63 62 (inside ++ 63 ∷ 62 ∷ rest) ≡ Ok rest
close_again [] rest none = refl
close_again (b ∷ []) rest none = ap (λ t. if t then Ok (62 ∷ rest) else Ok rest) (and_false (b == 63))
close_again (b ∷ c ∷ inside) rest none =
    ap (λ t. if t then Ok (inside ++ 63 ∷ 62 ∷ rest) else behind_pair 63 62 (c ∷ (inside ++ 63 ∷ 62 ∷ rest))) (not_closed b c none.0)
    ∙ close_again (c ∷ inside) rest none.1

pub instruction_split : (inside rest : List ℕ) → instruction_bytes inside ++ rest ≡ 60 ∷ 63 ∷ (inside ++ 63 ∷ 62 ∷ rest)
instruction_split inside rest = ap (λ r. 60 ∷ 63 ∷ r) (append_assoc inside (codes "?>") rest)

-- the word `xml`
word_ends : (more rest : List ℕ) → EndsWord more → ends_target (more ++ 63 ∷ 62 ∷ rest) ≡ true
word_ends [] rest ends = refl
word_ends (b ∷ more) rest ends = of ends
  where
    of : (is_space b ≡ true) ⊎ (b ≡ 63) → (is_space b || b == 63) ≡ true
    of (inl e) = ap (λ t. t || b == 63) e
    of (inr e) = ap (λ c. is_space c || c == 63) e

pub xml_is : (inside rest : List ℕ) → IsXml inside → is_xml (60 ∷ 63 ∷ (inside ++ 63 ∷ 62 ∷ rest)) ≡ true
unfolding is_xml
xml_is inside rest is = ap (λ w. is_xml (60 ∷ 63 ∷ (w ++ 63 ∷ 62 ∷ rest))) is.inside_is ∙ word_ends is.more rest is.ends

target_ends : (more rest : List ℕ) → ends_target (more ++ 63 ∷ 62 ∷ rest) ≡ true → EndsWord more
target_ends [] rest e = tt
target_ends (b ∷ more) rest e = of (is_space b) (b == 63) refl refl e
  where
    of : (t u : Bool) → is_space b ≡ t → (b == 63) ≡ u → (t || u) ≡ true → (is_space b ≡ true) ⊎ (b ≡ 63)
    of true u p q e = inl p
    of false true p q e = inr (eq_of b 63 q)
    of false false p q e = absurd cc

no_xml : (inside rest tail : List ℕ) → inside ++ 63 ∷ 62 ∷ rest ≡ 120 ∷ 109 ∷ 108 ∷ tail → (more : List ℕ) × (inside ≡ codes "xml" ++ more) × (more ++ 63 ∷ 62 ∷ rest ≡ tail)
no_xml [] rest tail e = absurd (ne_of 63 120 refl cc)
no_xml (a ∷ []) rest tail e = absurd (ne_of 63 109 refl cc)
no_xml (a ∷ b ∷ []) rest tail e = absurd (ne_of 63 108 refl cc)
no_xml (a ∷ b ∷ c ∷ more) rest tail e =
    let x : a ≡ 120 = cc in
    let m : b ≡ 109 = cc in
    let l : c ≡ 108 = cc in
    let t : more ++ 63 ∷ 62 ∷ rest ≡ tail = cc in
    (more, (ap (λ x. x ∷ b ∷ c ∷ more) x ∙ ap (λ x. 120 ∷ x ∷ c ∷ more) m ∙ ap (λ x. 120 ∷ 109 ∷ x ∷ more) l), t)

pub xml_found : (inside rest : List ℕ) → is_xml (60 ∷ 63 ∷ (inside ++ 63 ∷ 62 ∷ rest)) ≡ true → IsXml inside
unfolding is_xml
xml_found inside rest e = of (begins (codes "<?xml") here) (ends_target (drop 5 here)) refl refl e
  where
    here : List ℕ
    here = 60 ∷ 63 ∷ (inside ++ 63 ∷ 62 ∷ rest)

    of : (t u : Bool) → begins (codes "<?xml") here ≡ t → ends_target (drop 5 here) ≡ u → (t && u) ≡ true → IsXml inside
    of true true p q e =
        let split : 60 ∷ 63 ∷ (inside ++ 63 ∷ 62 ∷ rest) ≡ 60 ∷ 63 ∷ 120 ∷ 109 ∷ 108 ∷ drop 5 here = begins_found (codes "<?xml") here p in
        let tail : inside ++ 63 ∷ 62 ∷ rest ≡ 120 ∷ 109 ∷ 108 ∷ drop 5 here = cc in
        let f = no_xml inside rest (drop 5 here) tail in
        record { more = f.0; inside_is = f.1; ends = target_ends f.0 rest (ap ends_target f.2 ∙ q) }
    of true false p q e = absurd cc
    of false u p q e = absurd cc

pub not_xml : (inside rest : List ℕ) → ¬ (IsXml inside) → is_xml (60 ∷ 63 ∷ (inside ++ 63 ∷ 62 ∷ rest)) ≡ false
not_xml inside rest other = of (is_xml (60 ∷ 63 ∷ (inside ++ 63 ∷ 62 ∷ rest))) refl
  where
    of : (t : Bool) → is_xml (60 ∷ 63 ∷ (inside ++ 63 ∷ 62 ∷ rest)) ≡ t → t ≡ false
    of true e = absurd (other (xml_found inside rest e))
    of false e = refl

-- an instruction that is no XML declaration
instruction_again : (inside rest : List ℕ) → NoClose inside → ¬ (IsXml inside) → instruction (60 ∷ 63 ∷ (inside ++ 63 ∷ 62 ∷ rest)) ≡ Ok rest
unfolding instruction
instruction_again inside rest none other = rw (not_xml inside rest other) (close_again inside rest none)

-- DOCTYPE
same_byte : (b : ℕ) → (b == b) ≡ true
same_byte b = (Decides-eqb b b).1 refl

quoted_again : (quote : ℕ) (here inside rest : List ℕ) → NoQuote quote inside → quoted quote here (inside ++ quote ∷ rest) ≡ Ok rest
quoted_again quote here [] rest none = ap (λ t. if t then Ok rest else (if quote == 91 then malformed here else quoted quote here rest)) (same_byte quote)
quoted_again quote here (b ∷ inside) rest none =
    ap (λ t. if t then Ok (inside ++ quote ∷ rest) else (if b == 91 then malformed here else quoted quote here (inside ++ quote ∷ rest))) (ne_eqb b quote none.0)
    ∙ ap (λ t. if t then malformed here else quoted quote here (inside ++ quote ∷ rest)) (ne_eqb b 91 none.1)
    ∙ quoted_again quote here inside rest none.2

quoted_bit : (quote : ℕ) (here inside rest : List ℕ) → (quote ≡ 34) ⊎ (quote ≡ 39) → NoQuote quote inside → doctype_step here (quote ∷ (inside ++ quote ∷ rest)) ≡ Ok (On rest)
unfolding doctype_step
quoted_bit quote here inside rest (inl e) none =
    ap (λ q. doctype_step here (q ∷ (inside ++ quote ∷ rest))) e ∙ ap (λ r. r >>= λ x. Ok (On x)) (ap (λ q. quoted q here (inside ++ quote ∷ rest)) (sym e) ∙ quoted_again quote here inside rest none)
quoted_bit quote here inside rest (inr e) none =
    ap (λ q. doctype_step here (q ∷ (inside ++ quote ∷ rest))) e ∙ ap (λ r. r >>= λ x. Ok (On x)) (ap (λ q. quoted q here (inside ++ quote ∷ rest)) (sym e) ∙ quoted_again quote here inside rest none)

doctype_bit_again : (here rest : List ℕ) (b : DoctypeBit) → IsDoctypeBit b → doctype_step here (doctype_bit_bytes b ++ rest) ≡ Ok (On rest)
unfolding doctype_step
doctype_bit_again here rest (Bare b) is = rw (ne_eqb b 62 is.0, ne_eqb b 91 is.1, ne_eqb b 34 is.2, ne_eqb b 39 is.3) refl
doctype_bit_again here rest (Quoted quote inside) is =
    ap (λ r. doctype_step here (quote ∷ r)) (append_assoc inside (quote ∷ []) rest) ∙ quoted_bit quote here inside rest is.0 is.1

doctype_bits_lead : (here rest : List ℕ) (bits : List DoctypeBit) → AreDoctypeBits bits → Leads (doctype_step here) (length bits) (flat_map doctype_bit_bytes bits ++ rest) rest
doctype_bits_lead here rest [] are = leads_none (doctype_step here) rest
doctype_bits_lead here rest (b ∷ bits) are =
    let tail : List ℕ = flat_map doctype_bit_bytes bits ++ rest in
    let split : (doctype_bit_bytes b ++ flat_map doctype_bit_bytes bits) ++ rest ≡ doctype_bit_bytes b ++ tail = append_assoc (doctype_bit_bytes b) (flat_map doctype_bit_bytes bits) rest in
    subst (λ s. Leads (doctype_step here) (suc (length bits)) s rest) (sym split)
    (leads_first (doctype_step here) (length bits) (doctype_bit_bytes b ++ tail) tail rest (doctype_bit_again here tail b are.0) (doctype_bits_lead here rest bits are.1))

doctype_bit_long : (b : DoctypeBit) → 0 < length (doctype_bit_bytes b)
doctype_bit_long (Bare b) = omega arith
doctype_bit_long (Quoted quote inside) = omega arith

doctype_bits_long : (bits : List DoctypeBit) → length bits ≤ length (flat_map doctype_bit_bytes bits)
doctype_bits_long [] = omega arith
doctype_bits_long (b ∷ bits) = omega (arith, doctype_bit_long b, doctype_bits_long bits, length-append (doctype_bit_bytes b) (flat_map doctype_bit_bytes bits))

doctype_end : (here rest : List ℕ) → doctype_step here (62 ∷ rest) ≡ Ok (Done rest)
unfolding doctype_step
doctype_end here rest = refl

pub doctype_again : (rest : List ℕ) (bits : List DoctypeBit) → AreDoctypeBits bits → doctype (codes "<!DOCTYPE" ++ (flat_map doctype_bit_bytes bits ++ 62 ∷ rest)) ≡ Ok rest
unfolding doctype
doctype_again rest bits are =
    let inside : List ℕ = flat_map doctype_bit_bytes bits ++ 62 ∷ rest in
    let here : List ℕ = codes "<!DOCTYPE" ++ inside in
    leads_done (doctype_step here) (length bits) (length here) inside (62 ∷ rest) rest (doctype_bits_lead here (62 ∷ rest) bits are) (doctype_end here rest)
    (omega (arith, doctype_bits_long bits, length-append (flat_map doctype_bit_bytes bits) (62 ∷ rest), length-append (codes "<!DOCTYPE") inside))

-- one thing after the other, up to the root or the end of the file
blank_passed : (may : Bool) (n b : ℕ) (rest : List ℕ) → is_space b ≡ true → steps prolog_step n (may, b ∷ rest) ≡ steps prolog_step n (may, rest)
unfolding steps prolog_step
blank_passed may zero b rest is = refl
blank_passed may (suc n) b rest is = ap (λ r. prolog_by may r >>= go_on (steps prolog_step n)) (ap (λ t. if t then behind_spaces rest else b ∷ rest) is)

abbrev flagged : Bool → List ℕ → Result Prolog Fault
flagged may rest = Ok (may, rest)

abbrev on_to : Prolog → Result (Step Prolog (List ℕ)) Fault
on_to p = Ok (On p)

comment_step : (may : Bool) (inside rest : List ℕ) → declaration (comment_bytes inside ++ rest) ≡ Ok rest → prolog_step (may, comment_bytes inside ++ rest) ≡ Ok (On (may, rest))
unfolding prolog_step prolog_declaration
comment_step true inside rest e = ap (λ r. (r >>= flagged true) >>= on_to) e
comment_step false inside rest e = ap (λ r. (r >>= flagged false) >>= on_to) e

instruction_step : (may : Bool) (inside rest : List ℕ) → instruction (60 ∷ 63 ∷ (inside ++ 63 ∷ 62 ∷ rest)) ≡ Ok rest → prolog_step (may, 60 ∷ 63 ∷ (inside ++ 63 ∷ 62 ∷ rest)) ≡ Ok (On (may, rest))
unfolding prolog_step
instruction_step may inside rest e = ap (λ r. r >>= λ x. on_to (may, x)) e

doctype_step_on : (rest : List ℕ) (bits : List DoctypeBit) → AreDoctypeBits bits → prolog_step (true, codes "<!DOCTYPE" ++ (flat_map doctype_bit_bytes bits ++ 62 ∷ rest)) ≡ Ok (On (false, rest))
unfolding prolog_step prolog_declaration
doctype_step_on rest bits are = ap (λ r. (r >>= flagged false) >>= on_to) (doctype_again rest bits are)

-- how many steps these take
misc_steps : List Misc → ℕ
misc_steps [] = 0
misc_steps (Blank b ∷ miscs) = misc_steps miscs
misc_steps (Remark inside ∷ miscs) = suc (misc_steps miscs)
misc_steps (Instruction inside ∷ miscs) = suc (misc_steps miscs)

leads_over : (k m : ℕ) (s t u : Prolog) → Leads prolog_step k s t → Leads prolog_step m t u → Leads prolog_step (k + m) s u
leads_over k m s t u first then_on n =
    let e : (k + m) + n ≡ k + (m + n) = omega arith in
    ap (λ j. steps prolog_step j s) e ∙ first (m + n) ∙ then_on n

miscs_lead : (may : Bool) (rest : List ℕ) (miscs : List Misc) → AreMiscs miscs → Leads prolog_step (misc_steps miscs) (may, miscs_bytes miscs ++ rest) (may, rest)
unfolding misc_steps
miscs_lead may rest [] are = leads_none prolog_step (may, rest)
miscs_lead may rest (Blank b ∷ miscs) are = λ n. blank_passed may (misc_steps miscs + n) b (miscs_bytes miscs ++ rest) are.0 ∙ miscs_lead may rest miscs are.1 n
miscs_lead may rest (Remark inside ∷ miscs) are =
    let tail : List ℕ = miscs_bytes miscs ++ rest in
    let split : (comment_bytes inside ++ miscs_bytes miscs) ++ rest ≡ comment_bytes inside ++ tail = append_assoc (comment_bytes inside) (miscs_bytes miscs) rest in
    subst (λ (s : List ℕ). Leads prolog_step (suc (misc_steps miscs)) (may, s) (may, rest)) (sym split)
    (leads_first prolog_step (misc_steps miscs) (may, comment_bytes inside ++ tail) (may, tail) (may, rest) (comment_step may inside tail (comment_again inside tail are.0)) (miscs_lead may rest miscs are.1))
miscs_lead may rest (Instruction inside ∷ miscs) are =
    let tail : List ℕ = miscs_bytes miscs ++ rest in
    let split : (instruction_bytes inside ++ miscs_bytes miscs) ++ rest ≡ 60 ∷ 63 ∷ (inside ++ 63 ∷ 62 ∷ tail) = append_assoc (instruction_bytes inside) (miscs_bytes miscs) rest ∙ instruction_split inside tail in
    subst (λ (s : List ℕ). Leads prolog_step (suc (misc_steps miscs)) (may, s) (may, rest)) (sym split)
    (leads_first prolog_step (misc_steps miscs) (may, 60 ∷ 63 ∷ (inside ++ 63 ∷ 62 ∷ tail)) (may, tail) (may, rest) (instruction_step may inside tail (instruction_again inside tail are.0.0 are.0.1)) (miscs_lead may rest miscs are.1))

miscs_long : (miscs : List Misc) → misc_steps miscs ≤ length (miscs_bytes miscs)
unfolding misc_steps
miscs_long [] = omega arith
miscs_long (Blank b ∷ miscs) = omega (arith, miscs_long miscs)
miscs_long (Remark inside ∷ miscs) = omega (arith, miscs_long miscs, length-append (comment_bytes inside) (miscs_bytes miscs))
miscs_long (Instruction inside ∷ miscs) = omega (arith, miscs_long miscs, length-append (instruction_bytes inside) (miscs_bytes miscs))

-- up to what ends it
pub miscs_again : (may : Bool) (here : List ℕ) (miscs : List Misc) → AreMiscs miscs → prolog_step (may, here) ≡ Ok (Done here) → prolog may (miscs_bytes miscs ++ here) ≡ Ok here
unfolding prolog
miscs_again may here miscs are end =
    leads_done prolog_step (misc_steps miscs) (length (miscs_bytes miscs ++ here) + 1) (may, miscs_bytes miscs ++ here) (may, here) here
    (miscs_lead may here miscs are) end (omega (arith, miscs_long miscs, length-append (miscs_bytes miscs) here))

end_of_file : (may : Bool) → prolog_step (may, []) ≡ Ok (Done [])
unfolding prolog_step
end_of_file may = refl

-- behind the root, up to the end of the file
pub behind_root_again : (miscs : List Misc) → AreMiscs miscs → prolog false (miscs_bytes miscs) ≡ Ok []
behind_root_again miscs are = ap (prolog false) (sym (append-nil (miscs_bytes miscs))) ∙ miscs_again false [] miscs are (end_of_file false)

-- before the root, with a DOCTYPE or without one
pub before_root_again : (here : List ℕ) (miscs : List Misc) (d : Option Doctype) → AreMiscs miscs → IsDoctype d → ((may : Bool) → prolog_step (may, here) ≡ Ok (Done here))
    → prolog true (miscs_bytes miscs ++ (doctype_bytes d ++ here)) ≡ Ok here
unfolding prolog
before_root_again here miscs None are is end = miscs_again true here miscs are (end true)
before_root_again here miscs (Some d) are is end =
    let behind : List ℕ = miscs_bytes d.behind ++ here in
    let bits : List ℕ = flat_map doctype_bit_bytes d.bits in
    let inside : List ℕ = bits ++ 62 ∷ behind in
    let doc : List ℕ = codes "<!DOCTYPE" ++ inside in
    let bytes : List ℕ = miscs_bytes miscs ++ doc in
    let split : doctype_bytes (Some d) ++ here ≡ doc = ap (λ r. codes "<!DOCTYPE" ++ r) (append_assoc bits (62 ∷ miscs_bytes d.behind) here) in
    let more : Leads prolog_step (suc (misc_steps d.behind)) (true, doc) (false, here) =
    leads_first prolog_step (misc_steps d.behind) (true, doc) (false, behind) (false, here) (doctype_step_on behind d.bits is.0) (miscs_lead false here d.behind is.1) in
    let lt : misc_steps miscs + suc (misc_steps d.behind) < length bytes + 1 =
    omega (arith, miscs_long miscs, miscs_long d.behind, length-append (miscs_bytes miscs) doc, length-append (codes "<!DOCTYPE") inside, length-append bits (62 ∷ behind), length-append (miscs_bytes d.behind) here) in
    ap (λ r. prolog true (miscs_bytes miscs ++ r)) split
    ∙ leads_done prolog_step (misc_steps miscs + suc (misc_steps d.behind)) (length bytes + 1) (true, bytes) (false, here) here
    (leads_over (misc_steps miscs) (suc (misc_steps d.behind)) (true, bytes) (true, doc) (false, here) (miscs_lead true doc miscs are) more) (end false) lt
