-- Items by the runs between `\` and `;`.
use Rattle.std.proofs.Common.{◌≡◌, ◌≢◌, ℕ, suc, ◌+◌, ◌<◌, ◌==◌, Bool, true, false, cond, inl, inr, List, [], ◌∷◌, ◌++◌, length, take, drop, get_or, Some, None, refl, ap, sym, ◌∙◌, subst, arith, append_assoc, append-nil, length-append, add-one, drop-cons}
use Rattle.std.specs.Prelude.{if◌then◌else◌, not}
use Rattle.std.proofs.lemmas.Bool.{ne_eqb}
use Rattle.std.proofs.lemmas.Bool.Decides.{Decides-eqb}
use Rattle.std.proofs.lemmas.List.{take-append-drop, take_more}
use Rattle.keyfile_text.proofs.Cleans.{clean-cut, clean-append, clean-byte}
use Rattle.pk_types.specs.Pieces.{onto_first}
use Rattle.keyfile_text.specs.Bytes.{is_empty, trim, IsClean}
use Rattle.keyfile_text.specs.Escapes.{escaped}
use Rattle.keyfile_text.specs.Items.{decoded_onto, pieces_behind, kept, items_of}
use Rattle.keyfile_text.specs.Runs.{IsSpecial, IsPlain, TakesEscape}

-- bytes put before the first piece
abbrev pub prepend : List ℕ → List (List ℕ) → List (List ℕ)
prepend [] pieces = pieces
prepend (b ∷ bytes) pieces = onto_first b (prepend bytes pieces)

prepend-append : (a b : List ℕ) (pieces : List (List ℕ)) → prepend (a ++ b) pieces ≡ prepend a (prepend b pieces)
prepend-append [] b pieces = refl
prepend-append (x ∷ a) b pieces = ap (onto_first x) (prepend-append a b pieces)

prepend-piece : (a : List ℕ) (pieces : List (List ℕ)) → prepend a ([] ∷ pieces) ≡ a ∷ pieces
prepend-piece [] pieces = refl
prepend-piece (x ∷ a) pieces = ap (onto_first x) (prepend-piece a pieces)

plain_byte : (b : ℕ) (rest : List ℕ) → b ≢ 92 → b ≢ 59 → pieces_behind false (b ∷ rest) ≡ onto_first b (pieces_behind false rest)
plain_byte b rest slash semicolon =
    ap (λ t. if t then pieces_behind true rest else if b == 59 then [] ∷ pieces_behind false rest else onto_first b (pieces_behind false rest)) (ne_eqb b 92 slash)
    ∙ ap (λ t. if t then [] ∷ pieces_behind false rest else onto_first b (pieces_behind false rest)) (ne_eqb b 59 semicolon)

plain_run : (run rest : List ℕ) → IsPlain run → pieces_behind false (run ++ rest) ≡ prepend run (pieces_behind false rest)
plain_run [] rest plain = refl
plain_run (b ∷ run) rest plain = plain_byte b (run ++ rest) plain.0 plain.1 ∙ ap (onto_first b) (plain_run run rest plain.2)

kept-append : (a b : List (List ℕ)) → kept (a ++ b) ≡ kept a ++ kept b
kept-append [] b = refl
kept-append (x ∷ a) b = of (not (is_empty (trim x))) (kept-append a b)
  where
    of : (t : Bool) → kept (a ++ b) ≡ kept a ++ kept b → cond t (trim x ∷ kept (a ++ b)) (kept (a ++ b)) ≡ cond t (trim x ∷ kept a) (kept a) ++ kept b
    of true ih = ap (λ r. trim x ∷ r) ih
    of false ih = ih

-- the items so far, and those to come
abbrev pub ItemsSo : List (List ℕ) → List ℕ → List ℕ → List ℕ → Type 0
ItemsSo items item rest value = items ++ kept (prepend item (pieces_behind false rest)) ≡ items_of value

-- the bytes before a `;` end an item
pub item_ends : (items new : List (List ℕ)) (item whole run rest behind value : List ℕ) (special : ℕ) → ItemsSo items item rest value → rest ≡ run ++ special ∷ behind → IsPlain run → special ≡ 59
    → whole ≡ item ++ run → new ≡ items ++ kept (whole ∷ []) → ItemsSo new [] behind value
item_ends items new item whole run rest behind value special so rest_is plain is whole_is push =
    ap (λ n. n ++ kept (pieces_behind false behind)) (push ∙ ap (λ w. items ++ kept (w ∷ [])) whole_is)
    ∙ append_assoc items (kept ((item ++ run) ∷ [])) (kept (pieces_behind false behind))
    ∙ ap (λ r. items ++ r) (
    sym (kept-append ((item ++ run) ∷ []) (pieces_behind false behind))
    ∙ ap kept (
    sym (prepend-piece (item ++ run) (pieces_behind false behind))
    ∙ prepend-append item run ([] ∷ pieces_behind false behind)
    ∙ ap (prepend item) (sym (ap (pieces_behind false) (rest_is ∙ ap (λ s. run ++ s ∷ behind) is) ∙ plain_run run (59 ∷ behind) plain))
    )
    )
    ∙ so

-- and a `\` gives the item one byte more
pub item_gains : (items : List (List ℕ)) (item whole new run rest behind later value : List ℕ) (special : ℕ) → ItemsSo items item rest value → rest ≡ run ++ special ∷ behind → IsPlain run → special ≡ 92
    → whole ≡ item ++ run → TakesEscape behind later whole new → ItemsSo items new later value
item_gains items item whole new run rest behind later value special so rest_is plain is whole_is takes =
    ap (λ r. items ++ kept r) (
    ap (λ n. prepend n (pieces_behind false later)) (takes.gains ∙ ap (λ w. w ++ takes.byte ∷ []) whole_is)
    ∙ prepend-append (item ++ run) (takes.byte ∷ []) (pieces_behind false later)
    ∙ ap (prepend (item ++ run)) (sym takes.pieces)
    ∙ prepend-append item run (pieces_behind true behind)
    ∙ ap (prepend item) (sym (ap (pieces_behind false) (rest_is ∙ ap (λ s. run ++ s ∷ behind) is) ∙ plain_run run (92 ∷ behind) plain))
    )
    ∙ so

-- the last item
pub last_item : (items new : List (List ℕ)) (item whole rest value : List ℕ) → ItemsSo items item rest value → IsPlain rest → whole ≡ item ++ rest → new ≡ items ++ kept (whole ∷ [])
    → new ≡ items_of value
last_item items new item whole rest value so plain whole_is push =
    push
    ∙ ap (λ w. items ++ kept (w ∷ [])) whole_is
    ∙ ap (λ r. items ++ kept r) (
    sym (prepend-piece (item ++ rest) [])
    ∙ prepend-append item rest ([] ∷ [])
    ∙ ap (prepend item) (sym (ap (pieces_behind false) (sym (append-nil rest)) ∙ plain_run rest [] plain))
    )
    ∙ so

-- what an escape stands for is an ASCII byte that is not 0, and so is the byte that names it
pub escape_ascii : (b d : ℕ) → Some d ≡ escaped b → (b < 128) × (d < 128) × (d ≢ 0)
escape_ascii b d e = of (b == 115) (b == 110) (b == 116) (b == 114) (b == 92) (b == 59) refl refl refl refl refl refl e
  where
    at : (n m : ℕ) → (b == n) ≡ true → Some d ≡ Some m → n < 128 → m < 128 → 0 < m → (b < 128) × (d < 128) × (d ≢ 0)
    at n m t s low high some =
        let b_is : b ≡ n = (Decides-eqb b n).0 t in
        let d_is : d ≡ m = cc in
        (omega arith, omega arith, λ z. omega arith)

    of : (x1 x2 x3 x4 x5 x6 : Bool) → (b == 115) ≡ x1 → (b == 110) ≡ x2 → (b == 116) ≡ x3 → (b == 114) ≡ x4 → (b == 92) ≡ x5 → (b == 59) ≡ x6
        → Some d ≡ (if x1 then Some 32 else if x2 then Some 10 else if x3 then Some 9 else if x4 then Some 13 else if x5 then Some 92 else if x6 then Some 59 else None)
        → (b < 128) × (d < 128) × (d ≢ 0)
    of true x2 x3 x4 x5 x6 p1 p2 p3 p4 p5 p6 e = at 115 32 p1 e (omega arith) (omega arith) (omega arith)
    of false true x3 x4 x5 x6 p1 p2 p3 p4 p5 p6 e = at 110 10 p2 e (omega arith) (omega arith) (omega arith)
    of false false true x4 x5 x6 p1 p2 p3 p4 p5 p6 e = at 116 9 p3 e (omega arith) (omega arith) (omega arith)
    of false false false true x5 x6 p1 p2 p3 p4 p5 p6 e = at 114 13 p4 e (omega arith) (omega arith) (omega arith)
    of false false false false true x6 p1 p2 p3 p4 p5 p6 e = at 92 92 p5 e (omega arith) (omega arith) (omega arith)
    of false false false false false true p1 p2 p3 p4 p5 p6 e = at 59 59 p6 e (omega arith) (omega arith) (omega arith)
    of false false false false false false p1 p2 p3 p4 p5 p6 e = absurd (cc)

pub escape_takes : (behind later old new : List ℕ) (b d : ℕ) → behind ≡ b ∷ later → Some d ≡ escaped b → new ≡ old ++ d ∷ [] → TakesEscape behind later old new
escape_takes behind later old new b d is e push =
    let ascii = escape_ascii b d e in
    record {
      byte = d;
      gains = push;
      pieces = ap (pieces_behind true) is ∙ ap (λ o. decoded_onto b o (pieces_behind false later)) (sym e);
      ascii = ascii.1;
      some = ascii.2;
      clean = λ clean. (clean-cut behind [] later b is ascii.0 clean).1;
      shorter = omega (arith, ap length is);
    }

IsPlain-push : (run : List ℕ) (b : ℕ) → IsPlain run → b ≢ 92 → b ≢ 59 → IsPlain (run ++ b ∷ [])
IsPlain-push [] b plain slash semicolon = (slash, semicolon, tt)
IsPlain-push (x ∷ run) b plain slash semicolon = (plain.0, plain.1, IsPlain-push run b plain.2 slash semicolon)

pub plain_more : (bytes : List ℕ) (i b : ℕ) → i < length bytes → get_or bytes i 0 ≡ b → IsPlain (take i bytes) → b ≢ 92 → b ≢ 59 → IsPlain (take (i + 1) bytes)
plain_more bytes i b lt here plain slash semicolon =
    subst IsPlain (sym (take_more bytes i 0 lt ∙ ap (λ x. take i bytes ++ x ∷ []) here)) (IsPlain-push (take i bytes) b plain slash semicolon)

pub run_cut : (bytes front behind : List ℕ) (i b : ℕ) → i < length bytes → get_or bytes i 0 ≡ b → front ≡ take i bytes → behind ≡ drop (i + 1) bytes → bytes ≡ front ++ b ∷ behind
run_cut bytes front behind i b lt here f a =
    sym (take-append-drop i bytes)
    ∙ ap (λ r. take i bytes ++ r) (drop-cons bytes i 0 lt ∙ ap (λ x. x ∷ drop (suc i) bytes) here ∙ ap (λ n. b ∷ drop n bytes) (sym (add-one i)))
    ∙ ap (λ r. r ++ b ∷ drop (i + 1) bytes) (sym f) ∙ ap (λ r. front ++ b ∷ r) (sym a)

pub so_at_first : (items : List (List ℕ)) (item rest value : List ℕ) → items ≡ [] → item ≡ [] → rest ≡ value → ItemsSo items item rest value
so_at_first items item rest value no_items no_bytes all =
    ap (λ i. i ++ kept (prepend item (pieces_behind false rest))) no_items
    ∙ ap (λ b. kept (prepend b (pieces_behind false rest))) no_bytes
    ∙ ap (λ r. kept (pieces_behind false r)) all

special_low : (b : ℕ) → IsSpecial b → b < 128
special_low b (inl e) = omega arith
special_low b (inr e) = omega arith

pub clean_parts : (rest run behind : List ℕ) (special : ℕ) → rest ≡ run ++ special ∷ behind → IsSpecial special → IsClean rest → IsClean run × IsClean behind
clean_parts rest run behind special e is clean = clean-cut rest run behind special e (special_low special is) clean

pub clean_joined : (bytes whole item run : List ℕ) → bytes ≡ whole → whole ≡ item ++ run → IsClean item → IsClean run → IsClean bytes
clean_joined bytes whole item run e f left right = subst IsClean (sym (e ∙ f)) (clean-append item run left right)

pub shorter_parts : (rest run behind : List ℕ) (special : ℕ) → rest ≡ run ++ special ∷ behind → length rest ≡ length run + (length behind + 1)
shorter_parts rest run behind special e = ap length e ∙ length-append run (special ∷ behind) ∙ omega arith

pub not_semicolon : (b : ℕ) → IsSpecial b → b ≢ 59 → b ≡ 92
not_semicolon b (inl e) other = e
not_semicolon b (inr e) other = absurd (other e)

pub clean_gained : (behind later old new : List ℕ) → TakesEscape behind later old new → IsClean old → IsClean new
clean_gained behind later old new takes clean = subst IsClean (sym takes.gains) (clean-append old (takes.byte ∷ []) clean (clean-byte takes.byte takes.ascii takes.some))
