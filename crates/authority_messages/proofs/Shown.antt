-- The parts of a reply to a check tell the verdict.
use Rattle.std.proofs.Common.{◌≡◌, ℕ, List, [], ◌∷◌, ◌++◌, Bool, true, false, refl, ap, sym, ◌∙◌, append_assoc}
use Rattle.std.specs.Prelude.{map, if◌then◌else◌}
use Rattle.pk_types.specs.declared.values.Pair.{Pair}
use Rattle.dbus_values.specs.Parts.{Piece}
use Rattle.dbus_values.specs.Parts as part
use Rattle.dbus_values.specs.Trees.{all_pieces}
use Rattle.dbus_values.specs.Form.{shown_of}
use Rattle.dbus_values.specs.Next.{Seen}
use Rattle.authority_model.specs.declared.verdict.Verdict.{Verdict}
use Rattle.authority_model.specs.Details.{details_of}
use Rattle.authority_messages.specs.Values.{row, pair, authorization_result}
use Rattle.authority_messages.specs.Outgoing.{under, return_to}

-- a BOOLEAN as a number
abbrev bit : Bool → ℕ
bit b = if b then 1 else 0

same_bit : (a b : Bool) → bit a ≡ bit b → a ≡ b
same_bit true true e = refl
same_bit false false e = refl
same_bit true false e = absurd (cc)
same_bit false true e = absurd (cc)

abbrev inside : List Pair → List Piece
inside ps = all_pieces (row (map pair ps))

same_pairs : (ps qs : List Pair) (r s : List Piece) → inside ps ++ part.Leave 97 ∷ r ≡ inside qs ++ part.Leave 97 ∷ s → ps ≡ qs
same_pairs [] [] r s e = refl
same_pairs [] (q ∷ qs) r s e = absurd (cc)
same_pairs (p ∷ ps) [] r s e = absurd (cc)
same_pairs (p ∷ ps) (q ∷ qs) r s e =
    let key : p.key ≡ q.key = cc in
    let value : p.value ≡ q.value = cc in
    let rest : inside ps ++ part.Leave 97 ∷ r ≡ inside qs ++ part.Leave 97 ∷ s = cc in
    let pairs : ps ≡ qs = same_pairs ps qs r s rest in
    ap (λ (k : List ℕ). record { key = k; value = p.value } ∷ ps) key ∙ ap (λ (v : List ℕ). record { key = q.key; value = v } ∷ ps) value ∙ ap (λ (xs : List Pair). q ∷ xs) pairs

abbrev behind : List Piece → List Piece
behind xs = (((xs ++ part.Leave 97 ∷ []) ++ []) ++ part.Leave 40 ∷ []) ++ []

behind_is : (xs : List Piece) → behind xs ≡ xs ++ part.Leave 97 ∷ part.Leave 40 ∷ []
behind_is xs = simp append_assoc

parts_of : (v : Verdict) → all_pieces (row (authorization_result v ∷ [])) ≡ part.Enter 40 ∷ part.Number 98 (bit v.yes) ∷ part.Number 98 (bit v.challenge) ∷ part.Enter 97 ∷ behind (inside (details_of v))
parts_of v = refl

pub told : (v w : Verdict) (answered other serial later : ℕ) → shown_of (under serial (return_to answered (authorization_result v ∷ []))) ≡ shown_of (under later (return_to other (authorization_result w ∷ [])))
    → (v.yes ≡ w.yes) × (v.challenge ≡ w.challenge) × (details_of v ≡ details_of w)
told v w answered other serial later e =
    let parts = sym (parts_of v) ∙ ap (λ (s : Seen). s.parts) e ∙ parts_of w in
    let yes : bit v.yes ≡ bit w.yes = cc parts in
    let challenge : bit v.challenge ≡ bit w.challenge = cc parts in
    let rest : behind (inside (details_of v)) ≡ behind (inside (details_of w)) = cc parts in
    (same_bit v.yes w.yes yes, same_bit v.challenge w.challenge challenge, same_pairs (details_of v) (details_of w) (part.Leave 40 ∷ []) (part.Leave 40 ∷ []) (sym (behind_is (inside (details_of v))) ∙ rest ∙ behind_is (inside (details_of w))))
