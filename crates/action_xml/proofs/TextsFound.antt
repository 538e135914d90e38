-- What is read has the form.
use Rattle.std.proofs.Common.{◌≡◌, ◌≢◌, ℕ, zero, suc, ◌&&◌, ◌||◌, ◌==◌, List, [], ◌∷◌, ◌++◌, length, take, drop, Bool, true, false, Option, Some, None, Ok, Err, Result, refl, sym, ap, ◌∙◌, subst, append_assoc, append-nil}
use Rattle.std.specs.Prelude.{if◌then◌else◌, codes, bytes_eq, unwrap_or, is_some}
use Rattle.std.proofs.lemmas.Bool.Decides.{Decides-eqb}
use Rattle.std.proofs.lemmas.Slice.Eq.{bytes_eq-Decides}
use Rattle.std.proofs.lemmas.List.{take-append-drop}
use Rattle.pk_types.specs.Text.{IsText, text_fault_of}
use Rattle.pk_types.specs.declared.text.TextFault.{TextFault}
use Rattle.pk_types.specs.declared.text.TextFault.TheVariants as text_fault
use Rattle.xml_pieces.specs.declared.fault.Fault.{Fault}
use Rattle.xml_pieces.specs.declared.fault.XmlFaultKind.TheVariants as kind
use Rattle.xml_pieces.specs.Reading.{◌>>=◌, fault_at, malformed, cut_off, Step, On, Done, go_on, steps}
use Rattle.xml_pieces.specs.Bytes.{is_space, behind_spaces, is_name_start, is_name_byte, behind_name, skip, before, named, name, is_next, behind_pair, behind_byte, begins, is_cut_word}
use Rattle.xml_pieces.specs.References.{Reading, is_body, referred, reference, reference_by, stands_for, with_text, with_reference}
use Rattle.xml_pieces.specs.Markup.{comment, declaration, end_tag}
use Rattle.xml_pieces.specs.Texts.{without_lf, with_plain, judged, as_text, text_markup, text_step, whole_text}
use Rattle.action_xml.specs.TextForm.{Each, IsWhite, NoDashes, comment_bytes, Bit, Byte, CrLf, Cr, Refer, Note, bit_bytes, bits_bytes, bit_text, bits_text, IsBit, AreBits, IsReference}
use Rattle.action_xml.proofs.Steps.{ok, not_on, not_done, on_same, done_same}
use Rattle.action_xml.proofs.TextsAgain.{before_again}

abbrev pub on : Reading → Result (Step Reading Reading) Fault
on s = Ok (On s)

abbrev pub done : Reading → Result (Step Reading Reading) Fault
done x = Ok (Done x)

pub bind_ok : {A B : Type 0} (r : Result A Fault) (f : A → Result B Fault) (y : B) → (r >>= f) ≡ Ok y → (x : A) × (r ≡ Ok x) × (f x ≡ Ok y)
bind_ok (Ok x) f y e = (x, refl, e)
bind_ok (Err d) f y e = absurd cc

pub ok_is : {A : Type 0} (x y : A) → ok x ≡ ok y → x ≡ y
ok_is x y e = cc

pub eq_of : (a b : ℕ) → (a == b) ≡ true → a ≡ b
eq_of a b e = (Decides-eqb a b).0 e

pub ne_of : (a b : ℕ) → (a == b) ≡ false → a ≢ b
ne_of a b e same = let t : (a == b) ≡ true = (Decides-eqb a b).1 same in absurd cc

pub skip_found : (test : ℕ → Bool) (bytes : List ℕ) → (front : List ℕ) × Each test front × (bytes ≡ front ++ skip test bytes)
skip_found test [] = ([], tt, refl)
skip_found test (b ∷ bytes) = of (test b) refl (skip_found test bytes)
  where
    of : (t : Bool) → test b ≡ t → (front : List ℕ) × Each test front × (bytes ≡ front ++ skip test bytes)
        → (front : List ℕ) × Each test front × (b ∷ bytes ≡ front ++ (if t then skip test bytes else b ∷ bytes))
    of true e ih = (b ∷ ih.0, (e, ih.1), ap (λ r. b ∷ r) ih.2)
    of false e ih = ([], tt, refl)

pub next_is : (c : ℕ) (bytes : List ℕ) → is_next c bytes ≡ true → bytes ≡ c ∷ drop 1 bytes
next_is c [] e = absurd cc
next_is c (b ∷ bytes) e = ap (λ x. x ∷ bytes) (eq_of b c e)

dashes_grow : (b : ℕ) (inside rest : List ℕ) → NoDashes inside → (b == 45 && is_next 45 (inside ++ 45 ∷ 45 ∷ rest)) ≡ false → NoDashes (b ∷ inside)
dashes_grow b [] rest none e = of (b == 45) refl e
  where
    of : (t : Bool) → (b == 45) ≡ t → (t && true) ≡ false → b ≢ 45
    of true p q = absurd cc
    of false p q = ne_of b 45 p
dashes_grow b (c ∷ inside) rest none e = (λ first. of (b == 45) (c == 45) ((Decides-eqb b 45).1 first) refl e, none)
  where
    of : (t u : Bool) → t ≡ true → (c == 45) ≡ u → (t && u) ≡ false → c ≢ 45
    of true true p q r = absurd cc
    of true false p q r = ne_of c 45 q
    of false u p q r = absurd cc

pub dashes_found : (bytes rest : List ℕ) → behind_pair 45 45 bytes ≡ Ok rest → (inside : List ℕ) × NoDashes inside × (bytes ≡ inside ++ 45 ∷ 45 ∷ rest)
dashes_found [] rest e = absurd cc
dashes_found (b ∷ bytes) rest e = of (b == 45) (is_next 45 bytes) refl refl (dashes_found bytes rest) e
  where
    more : ((b == 45) && is_next 45 bytes) ≡ false → (inside : List ℕ) × NoDashes inside × (bytes ≡ inside ++ 45 ∷ 45 ∷ rest) → (inside : List ℕ) × NoDashes inside × (b ∷ bytes ≡ inside ++ 45 ∷ 45 ∷ rest)
    more none ih = (b ∷ ih.0, dashes_grow b ih.0 rest ih.1 (ap (λ r. (b == 45) && is_next 45 r) (sym ih.2) ∙ none), ap (λ r. b ∷ r) ih.2)

    of : (t u : Bool) → (b == 45) ≡ t → is_next 45 bytes ≡ u
        → (behind_pair 45 45 bytes ≡ Ok rest → (inside : List ℕ) × NoDashes inside × (bytes ≡ inside ++ 45 ∷ 45 ∷ rest)) → (if t && u then Ok (drop 1 bytes) else behind_pair 45 45 bytes) ≡ Ok rest
        → (inside : List ℕ) × NoDashes inside × (b ∷ bytes ≡ inside ++ 45 ∷ 45 ∷ rest)
    of true true p q ih e = ([], tt, ap (λ x. x ∷ bytes) (eq_of b 45 p) ∙ ap (λ r. 45 ∷ r) (next_is 45 bytes q ∙ ap (λ r. 45 ∷ r) (ok_is (drop 1 bytes) rest e)))
    of true false p q ih e = more (ap (λ t. t && is_next 45 bytes) p ∙ q) (ih e)
    of false u p q ih e = more (ap (λ t. t && is_next 45 bytes) p) (ih e)

pub byte_found : (c : ℕ) (place bytes rest : List ℕ) → behind_byte c place bytes ≡ Ok rest → bytes ≡ c ∷ rest
unfolding behind_byte
byte_found c place [] rest e = absurd cc
byte_found c place (b ∷ bytes) rest e = of (b == c) refl e
  where
    of : (t : Bool) → (b == c) ≡ t → (if t then Ok bytes else malformed place) ≡ Ok rest → b ∷ bytes ≡ c ∷ rest
    of true p e = ap (λ x. x ∷ bytes) (eq_of b c p) ∙ ap (λ r. c ∷ r) (ok_is bytes rest e)
    of false p e = absurd cc

pub begins_found : (word bytes : List ℕ) → begins word bytes ≡ true → bytes ≡ word ++ drop (length word) bytes
begins_found word bytes e =
    let is : word ≡ take (length word) bytes = (bytes_eq-Decides word (take (length word) bytes)).0 e in
    sym (take-append-drop (length word) bytes) ∙ ap (λ w. w ++ drop (length word) bytes) (sym is)

-- a comment
pub comment_found : (here rest : List ℕ) → declaration here ≡ Ok rest → (inside : List ℕ) × NoDashes inside × (here ≡ comment_bytes inside ++ rest)
unfolding declaration comment
comment_found here rest e = of (begins (codes "<!--") here) (begins (codes "<![CDATA[") here) (is_cut_word (codes "<!--") here || is_cut_word (codes "<![CDATA[") here) refl e
  where
    of : (t u v : Bool) → begins (codes "<!--") here ≡ t
        → (if t then (behind_pair 45 45 (drop 4 here) >>= λ r. behind_byte 62 here r) else (if u then fault_at kind.Cdata here else (if v then cut_off else malformed here))) ≡ Ok rest
        → (inside : List ℕ) × NoDashes inside × (here ≡ comment_bytes inside ++ rest)
    of true u v p e =
        let b = bind_ok (behind_pair 45 45 (drop 4 here)) (λ r. behind_byte 62 here r) rest e in
        let d = dashes_found (drop 4 here) b.0 b.1 in
        let q = byte_found 62 here b.0 rest b.2 in (
          d.0,
          d.1,
          begins_found (codes "<!--") here p
              ∙ ap (λ r. codes "<!--" ++ r) (d.2 ∙ ap (λ r. d.0 ++ 45 ∷ 45 ∷ r) q ∙ sym (append_assoc d.0 (codes "-->") rest)),
        )
    of false true v p e = absurd cc
    of false false true p e = absurd cc
    of false false false p e = absurd cc

-- a reference
pub record OneReference (bytes : List ℕ) (x : List ℕ × List ℕ) : Type 0 where
  pub body : List ℕ
  pub is : IsReference body
  pub bytes_are : bytes ≡ body ++ 59 ∷ x.1
  pub text : x.0 ≡ unwrap_or (referred body) []

pub reference_found : (bytes : List ℕ) (x : List ℕ × List ℕ) → reference (38 ∷ bytes) ≡ Ok x → OneReference bytes x
unfolding reference
reference_found bytes x e = let f = skip_found is_body bytes in of f.0 f.1 (skip is_body bytes) f.2 e
  where
    stood : (front rest : List ℕ) → Each is_body front → bytes ≡ front ++ 59 ∷ rest → (o : Option (List ℕ)) → referred front ≡ o → stands_for (38 ∷ bytes) rest o ≡ Ok x → OneReference bytes x
    stood front rest each split (Some t) is e =
        let same : (t, rest) ≡ x = ok_is (t, rest) x e in
        record {
          body = front;
          is = record { chars = each; stands = ap is_some is };
          bytes_are = split ∙ ap (λ (y : List ℕ × List ℕ). front ++ 59 ∷ y.1) same;
          text = sym (ap (λ o. unwrap_or o []) is ∙ ap (λ (y : List ℕ × List ℕ). y.0) same);
        }
    stood front rest each split None is e = absurd cc

    at : (front rest : List ℕ) (b : ℕ) (t : Bool) → Each is_body front → bytes ≡ front ++ b ∷ rest → (b == 59) ≡ t
        → (if t then stands_for (38 ∷ bytes) rest (referred (before (b ∷ rest) bytes)) else malformed (38 ∷ bytes)) ≡ Ok x → OneReference bytes x
    at front rest b true each split p e =
        let front_is : before (b ∷ rest) bytes ≡ front = ap (before (b ∷ rest)) split ∙ before_again front (b ∷ rest) in
        stood front rest each (split ∙ ap (λ c. front ++ c ∷ rest) (eq_of b 59 p)) (referred front) refl (ap (λ w. stands_for (38 ∷ bytes) rest (referred w)) (sym front_is) ∙ e)
    at front rest b false each split p e = absurd cc

    of : (front : List ℕ) → Each is_body front → (r : List ℕ) → bytes ≡ front ++ r → reference_by (38 ∷ bytes) r ≡ Ok x → OneReference bytes x
    of front each [] split e = absurd cc
    of front each (b ∷ rest) split e = at front rest b (b == 59) each split refl e

-- a step in a text takes one piece
pub record OneBit (so bytes : List ℕ) (t : Reading) : Type 0 where
  pub bit : Bit
  pub is : IsBit bit t.1
  pub bytes_are : bytes ≡ bit_bytes bit ++ t.1
  pub text : t.0 ≡ so ++ bit_text bit

bit_at : (so bytes : List ℕ) (x t : Reading) (b : Bit) → x ≡ t → IsBit b x.1 → bytes ≡ bit_bytes b ++ x.1 → x.0 ≡ so ++ bit_text b → OneBit so bytes t
bit_at so bytes x t b same is split text = subst (OneBit so bytes) same (record { bit = b; is = is; bytes_are = split; text = text })

plain_found : (so bytes : List ℕ) (b : ℕ) (t : Reading) → b ≢ 60 → b ≢ 38 → with_plain so b bytes ≡ t → OneBit so (b ∷ bytes) t
plain_found so bytes b t lt amp e = of (b == 13) refl e
  where
    second : (bytes : List ℕ) → b ≡ 13 → (so ++ 10 ∷ [], without_lf bytes) ≡ t → OneBit so (b ∷ bytes) t
    second [] cr e = bit_at so (b ∷ []) (so ++ 10 ∷ [], []) t Cr e tt (ap (λ x. x ∷ []) cr) refl
    second (c ∷ bytes) cr e = lf (c == 10) refl e
      where
        lf : (u : Bool) → (c == 10) ≡ u → (so ++ 10 ∷ [], if u then bytes else c ∷ bytes) ≡ t → OneBit so (b ∷ c ∷ bytes) t
        lf true q e = bit_at so (b ∷ c ∷ bytes) (so ++ 10 ∷ [], bytes) t CrLf e tt (ap (λ x. x ∷ c ∷ bytes) cr ∙ ap (λ x. 13 ∷ x ∷ bytes) (eq_of c 10 q)) refl
        lf false q e = bit_at so (b ∷ c ∷ bytes) (so ++ 10 ∷ [], c ∷ bytes) t Cr e (ne_of c 10 q) (ap (λ x. x ∷ c ∷ bytes) cr) refl

    of : (u : Bool) → (b == 13) ≡ u → (so ++ (if u then 10 else b) ∷ [], if u then without_lf bytes else bytes) ≡ t → OneBit so (b ∷ bytes) t
    of true p e = second bytes (eq_of b 13 p) e
    of false p e = bit_at so (b ∷ bytes) (so ++ b ∷ [], bytes) t (Byte b) e (lt, amp, ne_of b 13 p) refl refl

markup_found : (wanted place so bytes : List ℕ) (t : Reading) → text_markup wanted place so (60 ∷ bytes) bytes ≡ Ok (On t) → OneBit so (60 ∷ bytes) t
markup_found wanted place so [] t e = absurd cc
markup_found wanted place so (c ∷ bytes) t e = of (c == 33) (c == 47) (c == 63) e
  where
    here : List ℕ
    here = 60 ∷ c ∷ bytes

    of : (u v w : Bool)
        → (if u then (declaration here >>= λ rest. on (so, rest)) else (if v then (end_tag wanted here >>= λ rest. as_text place so >>= λ text. done (text, rest)) else (if w then malformed here else (name here (c ∷ bytes) >>= λ n. fault_at kind.Element here)))) ≡ Ok (On t)
        → OneBit so here t
    of true v w e =
        let b = bind_ok (declaration here) (λ rest. on (so, rest)) (On t) e in
        let f = comment_found here b.0 b.1 in
        bit_at so here (so, b.0) t (Note f.0) (on_same (so, b.0) t b.2) f.1 f.2 (sym (append-nil so))
    of false true w e =
        let b = bind_ok (end_tag wanted here) (λ rest. as_text place so >>= λ text. done (text, rest)) (On t) e in
        let d = bind_ok (as_text place so) (λ text. done (text, b.0)) (On t) b.2 in
        absurd (not_on (d.0, b.0) t d.2)
    of false false true e = absurd cc
    of false false false e = let b = bind_ok (name here (c ∷ bytes)) (λ n. fault_at kind.Element here) (On t) e in absurd cc

with_found : (so bytes : List ℕ) (t : Reading) → with_reference so (38 ∷ bytes) ≡ Ok t → OneBit so (38 ∷ bytes) t
with_found so bytes t e = of (reference (38 ∷ bytes)) refl e
  where
    of : (r : Result (List ℕ × List ℕ) Fault) → reference (38 ∷ bytes) ≡ r → with_text so r ≡ Ok t → OneBit so (38 ∷ bytes) t
    of (Ok x) is e =
        let f = reference_found bytes x is in
        bit_at so (38 ∷ bytes) (so ++ x.0, x.1) t (Refer f.body) (ok_is (so ++ x.0, x.1) t e) f.is
        (ap (λ r. 38 ∷ r) (f.bytes_are ∙ sym (append_assoc f.body (59 ∷ []) x.1))) (ap (λ w. so ++ w) f.text)
    of (Err d) is e = absurd cc

pub bit_found : (wanted place so bytes : List ℕ) (t : Reading) → text_step wanted place (so, bytes) ≡ Ok (On t) → OneBit so bytes t
unfolding text_step
bit_found wanted place so [] t e = absurd cc
bit_found wanted place so (b ∷ bytes) t e = of (b == 38) (b == 60) refl refl e
  where
    of : (u v : Bool) → (b == 38) ≡ u → (b == 60) ≡ v
        → (if u then (with_reference so (b ∷ bytes) >>= λ r. Ok (On r)) else (if v then text_markup wanted place so (b ∷ bytes) bytes else Ok (On (with_plain so b bytes)))) ≡ Ok (On t)
        → OneBit so (b ∷ bytes) t
    of true v p q e =
        let same : b ≡ 38 = eq_of b 38 p in
        let d = bind_ok (with_reference so (b ∷ bytes)) (λ r. Ok (On r)) (On t) e in
        let r : with_reference so (38 ∷ bytes) ≡ Ok t = ap (λ c. with_reference so (c ∷ bytes)) (sym same) ∙ d.1 ∙ ap ok (on_same d.0 t d.2) in
        subst (λ c. OneBit so (c ∷ bytes) t) (sym same) (with_found so bytes t r)
    of false true p q e =
        let same : b ≡ 60 = eq_of b 60 q in
        subst (λ c. OneBit so (c ∷ bytes) t) (sym same) (markup_found wanted place so bytes t (ap (λ c. text_markup wanted place so (c ∷ bytes) bytes) (sym same) ∙ e))
    of false false p q e = plain_found so bytes b t (ne_of b 60 q) (ne_of b 38 p) (on_same (with_plain so b bytes) t e)

named_found : (bytes r : List ℕ) (n : List ℕ × List ℕ) (front : List ℕ) → bytes ≡ front ++ r → named bytes r ≡ Ok n → bytes ≡ n.0 ++ n.1
named_found bytes [] n front split e = absurd cc
named_found bytes (c ∷ rest) n front split e =
    let same : (before (c ∷ rest) bytes, c ∷ rest) ≡ n = ok_is (before (c ∷ rest) bytes, c ∷ rest) n e in
    let f : before (c ∷ rest) bytes ≡ front = ap (before (c ∷ rest)) split ∙ before_again front (c ∷ rest) in
    subst (λ (y : List ℕ × List ℕ). bytes ≡ y.0 ++ y.1) same (split ∙ ap (λ w. w ++ c ∷ rest) (sym f))

name_found : (place bytes : List ℕ) (n : List ℕ × List ℕ) → name place bytes ≡ Ok n → bytes ≡ n.0 ++ n.1
unfolding name
name_found place [] n e = absurd cc
name_found place (b ∷ bytes) n e = let f = skip_found is_name_byte (b ∷ bytes) in of (is_name_start b) f.0 f.2 e
  where
    of : (t : Bool) (front : List ℕ) → b ∷ bytes ≡ front ++ behind_name (b ∷ bytes) → (if t then named (b ∷ bytes) (behind_name (b ∷ bytes)) else malformed place) ≡ Ok n → b ∷ bytes ≡ n.0 ++ n.1
    of true front split e = named_found (b ∷ bytes) (behind_name (b ∷ bytes)) n front split e
    of false front split e = absurd cc

-- an end tag of that name
pub end_found : (wanted bytes rest : List ℕ) → end_tag wanted (60 ∷ 47 ∷ bytes) ≡ Ok rest → (white : List ℕ) × IsWhite white × (bytes ≡ wanted ++ (white ++ 62 ∷ rest))
unfolding end_tag
end_found wanted bytes rest e =
    let n = bind_ok (name (60 ∷ 47 ∷ bytes) bytes) (λ n. if bytes_eq n.0 wanted then behind_byte 62 (behind_spaces n.1) (behind_spaces n.1) else fault_at kind.Mismatch (60 ∷ 47 ∷ bytes)) rest e in
    of n.0 (name_found (60 ∷ 47 ∷ bytes) bytes n.0 n.1) (bytes_eq n.0.0 wanted) refl n.2
  where
    of : (n : List ℕ × List ℕ) → bytes ≡ n.0 ++ n.1 → (t : Bool) → bytes_eq n.0 wanted ≡ t
        → (if t then behind_byte 62 (behind_spaces n.1) (behind_spaces n.1) else fault_at kind.Mismatch (60 ∷ 47 ∷ bytes)) ≡ Ok rest
        → (white : List ℕ) × IsWhite white × (bytes ≡ wanted ++ (white ++ 62 ∷ rest))
    of n split true p e =
        let f = skip_found is_space n.1 in
        let b : behind_spaces n.1 ≡ 62 ∷ rest = byte_found 62 (behind_spaces n.1) (behind_spaces n.1) rest e in
        let w : n.0 ≡ wanted = (bytes_eq-Decides n.0 wanted).0 p in
        (f.0, f.1, split ∙ ap (λ y. y ++ n.1) w ∙ ap (λ r. wanted ++ r) (f.2 ∙ ap (λ r. f.0 ++ r) b))
    of n split false p e = absurd cc

judged_found : (place so x : List ℕ) (o : Option TextFault) → judged place so o ≡ Ok x → (o ≡ None) × (so ≡ x)
judged_found place so x None e = (refl, ok_is so x e)
judged_found place so x (Some (text_fault.TooLong n)) e = absurd cc
judged_found place so x (Some (text_fault.BadByte n)) e = absurd cc
judged_found place so x (Some text_fault.NoMemory) e = absurd cc

pub text_found : (place so x : List ℕ) → as_text place so ≡ Ok x → IsText so × (so ≡ x)
unfolding as_text
text_found place so x e = judged_found place so x (text_fault_of so) e

-- the end of a text
pub record TextEnd (wanted so bytes : List ℕ) (x : Reading) : Type 0 where
  pub white : List ℕ
  pub is : IsWhite white
  pub bytes_are : bytes ≡ codes "</" ++ (wanted ++ (white ++ 62 ∷ x.1))
  pub text : x.0 ≡ so
  pub is_text : IsText so

markup_last : (wanted place so bytes : List ℕ) (x : Reading) → text_markup wanted place so (60 ∷ bytes) bytes ≡ Ok (Done x) → TextEnd wanted so (60 ∷ bytes) x
markup_last wanted place so [] x e = absurd cc
markup_last wanted place so (c ∷ bytes) x e = of (c == 33) (c == 47) (c == 63) refl e
  where
    here : List ℕ
    here = 60 ∷ c ∷ bytes

    ended : (rest text : List ℕ) → c ≡ 47 → end_tag wanted here ≡ Ok rest → as_text place so ≡ Ok text → (text, rest) ≡ x → TextEnd wanted so here x
    ended rest text slash end judged same =
        let e : end_tag wanted (60 ∷ 47 ∷ bytes) ≡ Ok rest = ap (λ d. end_tag wanted (60 ∷ d ∷ bytes)) (sym slash) ∙ end in
        let f = end_found wanted bytes rest e in
        let t = text_found place so text judged in
        subst (TextEnd wanted so here) same (record {
          white = f.0;
          is = f.1;
          bytes_are = ap (λ d. 60 ∷ d ∷ bytes) slash ∙ ap (λ r. 60 ∷ 47 ∷ r) f.2;
          text = sym t.1;
          is_text = t.0;
        })

    of : (u v w : Bool) → (c == 47) ≡ v
        → (if u then (declaration here >>= λ rest. on (so, rest)) else (if v then (end_tag wanted here >>= λ rest. as_text place so >>= λ text. done (text, rest)) else (if w then malformed here else (name here (c ∷ bytes) >>= λ n. fault_at kind.Element here)))) ≡ Ok (Done x)
        → TextEnd wanted so here x
    of true v w p e = let b = bind_ok (declaration here) (λ rest. on (so, rest)) (Done x) e in absurd (not_done x (so, b.0) b.2)
    of false true w p e =
        let b = bind_ok (end_tag wanted here) (λ rest. as_text place so >>= λ text. done (text, rest)) (Done x) e in
        let d = bind_ok (as_text place so) (λ text. done (text, b.0)) (Done x) b.2 in
        ended b.0 d.0 (eq_of c 47 p) b.1 d.1 (done_same (d.0, b.0) x d.2)
    of false false true p e = absurd cc
    of false false false p e = let b = bind_ok (name here (c ∷ bytes)) (λ n. fault_at kind.Element here) (Done x) e in absurd cc

last_found : (wanted place so bytes : List ℕ) (x : Reading) → text_step wanted place (so, bytes) ≡ Ok (Done x) → TextEnd wanted so bytes x
unfolding text_step
last_found wanted place so [] x e = absurd cc
last_found wanted place so (b ∷ bytes) x e = of (b == 38) (b == 60) refl e
  where
    of : (u v : Bool) → (b == 60) ≡ v
        → (if u then (with_reference so (b ∷ bytes) >>= on) else (if v then text_markup wanted place so (b ∷ bytes) bytes else on (with_plain so b bytes))) ≡ Ok (Done x)
        → TextEnd wanted so (b ∷ bytes) x
    of true v q e = let d = bind_ok (with_reference so (b ∷ bytes)) on (Done x) e in absurd (not_done x d.0 d.2)
    of false true q e =
        let same : b ≡ 60 = eq_of b 60 q in
        subst (λ c. TextEnd wanted so (c ∷ bytes) x) (sym same) (markup_last wanted place so bytes x (ap (λ c. text_markup wanted place so (c ∷ bytes) bytes) (sym same) ∙ e))
    of false false q e = absurd (not_done x (with_plain so b bytes) e)

-- a whole text
pub record WholeText (wanted so bytes : List ℕ) (x : Reading) : Type 0 where
  pub bits : List Bit
  pub white : List ℕ
  pub is_white : IsWhite white
  pub are : AreBits bits (codes "</" ++ (wanted ++ (white ++ 62 ∷ x.1)))
  pub bytes_are : bytes ≡ bits_bytes bits ++ (codes "</" ++ (wanted ++ (white ++ 62 ∷ x.1)))
  pub text : x.0 ≡ so ++ bits_text bits
  pub is_text : IsText x.0

bit_first : (wanted so bytes : List ℕ) (t x : Reading) → OneBit so bytes t → WholeText wanted t.0 t.1 x → WholeText wanted so bytes x
bit_first wanted so bytes t x one more =
    let end : List ℕ = codes "</" ++ (wanted ++ (more.white ++ 62 ∷ x.1)) in
    record {
      bits = one.bit ∷ more.bits;
      white = more.white;
      is_white = more.is_white;
      are = (subst (IsBit one.bit) more.bytes_are one.is, more.are);
      bytes_are = one.bytes_are ∙ ap (λ r. bit_bytes one.bit ++ r) more.bytes_are ∙ sym (append_assoc (bit_bytes one.bit) (bits_bytes more.bits) end);
      text = more.text ∙ ap (λ w. w ++ bits_text more.bits) one.text ∙ append_assoc so (bit_text one.bit) (bits_text more.bits);
      is_text = more.is_text;
    }

steps_found : (wanted place so bytes : List ℕ) (n : ℕ) (x : Reading) → steps (text_step wanted place) n (so, bytes) ≡ Ok x → WholeText wanted so bytes x
unfolding steps
steps_found wanted place so bytes zero x e = absurd cc
steps_found wanted place so bytes (suc n) x e =
    let b = bind_ok (text_step wanted place (so, bytes)) (go_on (steps (text_step wanted place) n)) x e in
    of b.0 b.1 (λ so bytes e. steps_found wanted place so bytes n x e) b.2
  where
    of : (s : Step Reading Reading) → text_step wanted place (so, bytes) ≡ Ok s
        → ((so bytes : List ℕ) → steps (text_step wanted place) n (so, bytes) ≡ Ok x → WholeText wanted so bytes x)
        → go_on (steps (text_step wanted place) n) s ≡ Ok x → WholeText wanted so bytes x
    of (On t) is ih e = bit_first wanted so bytes t x (bit_found wanted place so bytes t is) (ih t.0 t.1 e)
    of (Done y) is ih e =
        let same : y ≡ x = ok_is y x e in
        let f = last_found wanted place so bytes x (is ∙ ap done same) in
        record {
          bits = [];
          white = f.white;
          is_white = f.is;
          are = tt;
          bytes_are = f.bytes_are;
          text = f.text ∙ sym (append-nil so);
          is_text = subst IsText (sym f.text) f.is_text;
        }

pub whole_found : (wanted place bytes : List ℕ) (x : Reading) → whole_text wanted place bytes ≡ Ok x → WholeText wanted [] bytes x
unfolding whole_text
whole_found wanted place bytes x e = steps_found wanted place [] bytes (length bytes) x e
