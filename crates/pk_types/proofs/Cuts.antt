-- How the pieces and the lines of bytes follow from cuts.
use Rattle.std.proofs.Common.{◌≡◌, ◌≢◌, ◌++◌, [], ◌∷◌, ◌+◌, ◌<◌, List, ℕ, suc, refl, sym, ◌∙◌, ap, take, drop, length, get_or, arith, map, append_assoc, append-nil, Bor, add-one, drop-cons, eq-eqb, true, false, ◌==◌}
use Rattle.std.proofs.lemmas.List.{map-append, get_or-take, length-take, take-append-drop, nil_from_length}
use Rattle.std.proofs.lemmas.Bool.{ne_eqb, eqb-true}
use Rattle.pk_types.specs.Pieces.{Lacks, lines_of, pieces_of, IsCut}

-- A separator that stands at no place stands nowhere.
pub lacks_by_index : (separator : ℕ) (bytes : List ℕ) → ((k : ℕ) → k < length bytes → get_or bytes k 0 ≢ separator) → Lacks separator bytes
lacks_by_index separator [] none = tt
lacks_by_index separator (x ∷ xs) none = (none 0 (omega arith), lacks_by_index separator xs (λ k lt. none (suc k) (omega arith)))

-- The same, where the search came to the end.
pub lacks_all : (separator : ℕ) (bytes : List ℕ) (at : ℕ) → at ≡ length bytes → ((k : ℕ) → k < at → get_or bytes k 0 ≢ separator) → Lacks separator bytes
lacks_all separator bytes at e none = lacks_by_index separator bytes (λ k lt. none k (omega arith))

lacks_take : (separator : ℕ) (bytes : List ℕ) (at : ℕ) → at < length bytes → ((k : ℕ) → k < at → get_or bytes k 0 ≢ separator) → Lacks separator (take at bytes)
lacks_take separator bytes at lt none =
    lacks_by_index separator (take at bytes) (λ k below.
    let less : k < at = omega (arith, length-take at bytes) in rw (get_or-take at bytes k 0 less) (none k less))

-- The parts before and behind the first place are a cut.
pub cut_is : (separator : ℕ) (bytes front after : List ℕ) (at : ℕ) → at < length bytes → ((k : ℕ) → k < at → get_or bytes k 0 ≢ separator)
    → get_or bytes at 0 ≡ separator → front ≡ take at bytes → after ≡ drop (at + 1) bytes → IsCut separator bytes front after
cut_is separator bytes front after at lt none here f a =
    let rest : drop at bytes ≡ separator ∷ after = drop-cons bytes at 0 lt ∙ rw (here, a, add-one) refl in
    record {
      whole = sym (take-append-drop at bytes) ∙ ap (λ r. take at bytes ++ r) rest ∙ ap (λ p. p ++ separator ∷ after) (sym f);
      first = rw f (lacks_take separator bytes at lt none);
    }

-- A separator that stands in neither part stands nowhere in both together.
pub lacks_append : (separator : ℕ) (xs ys : List ℕ) → Lacks separator xs → Lacks separator ys → Lacks separator (xs ++ ys)
lacks_append separator [] ys p q = q
lacks_append separator (x ∷ xs) ys p q = (p.0, lacks_append separator xs ys p.1 q)

-- The first piece ends at the first separator.
pub pieces_of-cut : (separator : ℕ) (piece rest : List ℕ) → Lacks separator piece → pieces_of separator (piece ++ separator ∷ rest) ≡ piece ∷ pieces_of separator rest
pieces_of-cut separator [] rest lacks = rw (eq-eqb separator separator refl) refl
pieces_of-cut separator (x ∷ xs) rest lacks = rw (ne_eqb x separator lacks.0, pieces_of-cut separator xs rest lacks.1) refl

-- Bytes without a separator are one piece.
pub pieces_of-last : (separator : ℕ) (piece : List ℕ) → Lacks separator piece → pieces_of separator piece ≡ piece ∷ []
pieces_of-last separator [] lacks = refl
pieces_of-last separator (x ∷ xs) lacks = rw (ne_eqb x separator lacks.0, pieces_of-last separator xs lacks.1) refl

-- The first line ends at the first LF.
pub lines_of-cut : (line rest : List ℕ) → Lacks 10 line → lines_of (line ++ 10 ∷ rest) ≡ line ∷ lines_of rest
lines_of-cut [] rest lacks = refl
lines_of-cut (x ∷ xs) rest lacks = rw (ne_eqb x 10 lacks.0, lines_of-cut xs rest lacks.1) refl

-- Bytes without LF are one line, unless there are none.
pub lines_of-last : (line : List ℕ) → Lacks 10 line → line ≢ [] → lines_of line ≡ line ∷ []
lines_of-last [] lacks some = absurd (some refl)
lines_of-last (x ∷ []) lacks some = rw (ne_eqb x 10 lacks.0) refl
lines_of-last (x ∷ y ∷ ys) lacks some = rw (ne_eqb x 10 lacks.0, lines_of-last (y ∷ ys) lacks.1 (λ e. cc)) refl

abbrev pub now_of : Bor (List ℕ) → List ℕ
now_of piece = piece.now

-- One more piece was pushed.
pub pieces_more : (separator : ℕ) (old new : List (Bor (List ℕ))) (piece : Bor (List ℕ)) (bytes rest after : List ℕ) → new ≡ old ++ piece ∷ []
    → IsCut separator rest piece.now after → map now_of old ++ pieces_of separator rest ≡ pieces_of separator bytes
    → map now_of new ++ pieces_of separator after ≡ pieces_of separator bytes
pieces_more separator old new piece bytes rest after push cut same =
    rw (push, map-append now_of old (piece ∷ []), append_assoc (map now_of old) (piece.now ∷ []) (pieces_of separator after), ← pieces_of-cut separator piece.now after cut.first, ← cut.whole) same

-- The last piece was pushed.
pub pieces_end : (separator : ℕ) (old new : List (Bor (List ℕ))) (piece : Bor (List ℕ)) (bytes : List ℕ) → new ≡ old ++ piece ∷ []
    → Lacks separator piece.now → map now_of old ++ pieces_of separator piece.now ≡ pieces_of separator bytes
    → map now_of new ≡ pieces_of separator bytes
pieces_end separator old new piece bytes push lacks same =
    rw (push, map-append now_of old (piece ∷ []), ← pieces_of-last separator piece.now lacks) same

-- One more line was pushed.
pub lines_more : (old new : List (Bor (List ℕ))) (line : Bor (List ℕ)) (bytes rest after : List ℕ) → new ≡ old ++ line ∷ []
    → IsCut 10 rest line.now after → map now_of old ++ lines_of rest ≡ lines_of bytes → map now_of new ++ lines_of after ≡ lines_of bytes
lines_more old new line bytes rest after push cut same =
    rw (push, map-append now_of old (line ∷ []), append_assoc (map now_of old) (line.now ∷ []) (lines_of after), ← lines_of-cut line.now after cut.first, ← cut.whole) same

-- The last line was pushed, which the end of the bytes ended.
pub lines_end : (old new : List (Bor (List ℕ))) (line : Bor (List ℕ)) (bytes : List ℕ) → new ≡ old ++ line ∷ []
    → Lacks 10 line.now → line.now ≢ [] → map now_of old ++ lines_of line.now ≡ lines_of bytes → map now_of new ≡ lines_of bytes
lines_end old new line bytes push lacks some same =
    rw (push, map-append now_of old (line ∷ []), ← lines_of-last line.now lacks some) same

-- There was no last line, since LF ended the bytes.
pub lines_none : (old : List (Bor (List ℕ))) (rest bytes : List ℕ) → rest ≡ [] → map now_of old ++ lines_of rest ≡ lines_of bytes → map now_of old ≡ lines_of bytes
lines_none old rest bytes e same = sym (append-nil (map now_of old)) ∙ rw e at same

-- Bytes whose length was tested.
pub some_bytes : (bytes : List ℕ) → false ≡ (length bytes == 0) → bytes ≢ []
some_bytes [] e none = cc
some_bytes (x ∷ xs) e none = cc

pub no_bytes : (bytes : List ℕ) → true ≡ (length bytes == 0) → bytes ≡ []
no_bytes bytes e = nil_from_length bytes (eqb-true (length bytes) 0 (sym e))
