-- The first line, by its LF.
use Rattle.std.proofs.Common.{◌≡◌, ◌≢◌, ℕ, ◌==◌, List, [], ◌∷◌, ◌++◌, length, ◌+◌, take, drop, true, false, refl, ap, sym, ◌∙◌, subst, arith, append_assoc, length-append}
use Rattle.std.proofs.lemmas.List.{take_at, drop_at, take_all, drop_all}
use Rattle.std.specs.Prelude.{if◌then◌else◌}
use Rattle.std.proofs.lemmas.Bool.{ne_eqb}
use Rattle.pk_types.specs.Pieces.{Lacks, IsCut, onto_first}
use Rattle.keyfile_text.specs.Bytes.{IsClean}
use Rattle.keyfile_text.proofs.Cleans.{clean-cut, clean-append, clean-byte}
use Rattle.keyfile_text.specs.Lines.{raw_lines}

pub raw_lines-line : (line rest : List ℕ) → Lacks 10 line → raw_lines (line ++ 10 ∷ rest) ≡ (line ++ 10 ∷ []) ∷ raw_lines rest
raw_lines-line [] rest lacks = refl
raw_lines-line (b ∷ line) rest lacks =
    ap (λ t. if t then (10 ∷ []) ∷ raw_lines (line ++ 10 ∷ rest) else onto_first b (raw_lines (line ++ 10 ∷ rest))) (ne_eqb b 10 lacks.0)
    ∙ ap (onto_first b) (raw_lines-line line rest lacks.1)

pub raw_lines-last : (line : List ℕ) → Lacks 10 line → line ≢ [] → raw_lines line ≡ line ∷ []
raw_lines-last [] lacks some = absurd (some refl)
raw_lines-last (b ∷ []) lacks some = ap (λ t. if t then (10 ∷ []) ∷ [] else (b ∷ []) ∷ []) (ne_eqb b 10 lacks.0)
raw_lines-last (b ∷ c ∷ line) lacks some =
    ap (λ t. if t then (10 ∷ []) ∷ raw_lines (c ∷ line) else onto_first b (raw_lines (c ∷ line))) (ne_eqb b 10 lacks.0)
    ∙ ap (onto_first b) (raw_lines-last (c ∷ line) lacks.1 (λ e. cc))

-- the first line with its LF, and what follows
pub line_split : (bytes front rest line behind : List ℕ) → IsCut 10 bytes front rest → line ≡ take (length front + 1) bytes → behind ≡ drop (length front + 1) bytes
    → (line ≡ front ++ 10 ∷ []) × (behind ≡ rest)
line_split bytes front rest line behind cut l b =
    let whole : bytes ≡ (front ++ 10 ∷ []) ++ rest = cut.whole ∙ sym (append_assoc front (10 ∷ []) rest) in
    let len : length (front ++ 10 ∷ []) ≡ length front + 1 = length-append front (10 ∷ []) in (
      l ∙ ap (take (length front + 1)) whole ∙ take_at (front ++ 10 ∷ []) rest (length front + 1) len,
      b ∙ ap (drop (length front + 1)) whole ∙ drop_at (front ++ 10 ∷ []) rest (length front + 1) len,
    )

pub first_raw_line : (bytes front rest line behind : List ℕ) → IsCut 10 bytes front rest → line ≡ take (length front + 1) bytes → behind ≡ drop (length front + 1) bytes
    → raw_lines bytes ≡ line ∷ raw_lines behind
first_raw_line bytes front rest line behind cut l b =
    let parts = line_split bytes front rest line behind cut l b in
    ap raw_lines cut.whole ∙ raw_lines-line front rest cut.first ∙ ap (λ x. x ∷ raw_lines rest) (sym parts.0) ∙ ap (λ r. line ∷ raw_lines r) (sym parts.1)

pub first_clean : (bytes front rest line behind : List ℕ) → IsCut 10 bytes front rest → line ≡ take (length front + 1) bytes → behind ≡ drop (length front + 1) bytes
    → IsClean bytes → IsClean line × IsClean behind
first_clean bytes front rest line behind cut l b clean =
    let parts = line_split bytes front rest line behind cut l b in
    let cleans = clean-cut bytes front rest 10 cut.whole (omega arith) clean in (
      subst IsClean (sym parts.0) (clean-append front (10 ∷ []) cleans.0 (clean-byte 10 (omega arith) (λ z. omega arith))),
      subst IsClean (sym parts.1) cleans.1,
    )

-- the last line, without LF
pub last_raw_line : (bytes line behind : List ℕ) → Lacks 10 bytes → (false ≡ (length bytes == 0)) → line ≡ take (length bytes) bytes → behind ≡ drop (length bytes) bytes
    → raw_lines bytes ≡ line ∷ raw_lines behind
last_raw_line bytes line behind lacks some l b =
    raw_lines-last bytes lacks (λ e. let z : (length bytes == 0) ≡ true = ap (λ r. length r == 0) e in absurd (cc (z, some)))
    ∙ ap (λ x. x ∷ []) (sym (take_all (length bytes) bytes (omega arith)) ∙ sym l)
    ∙ ap (λ r. line ∷ raw_lines r) (sym (drop_all (length bytes) bytes (omega arith)) ∙ sym b)
