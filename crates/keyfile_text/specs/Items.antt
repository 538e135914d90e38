-- The items of a list value.
use Rattle.std.specs.Prelude.{ℕ, ◌==◌, Bool, true, false, not, List, [], ◌∷◌, Option, Some, None, map, filter, if◌then◌else◌}
use Rattle.pk_types.specs.Pieces.{onto_first}
use Rattle.keyfile_text.specs.Bytes.{is_empty, trim}
use Rattle.keyfile_text.specs.Escapes.{escaped}

-- behind a `\` (92): what the escape stands for, or else the `\` and the byte themselves
abbrev pub decoded_onto : ℕ → Option ℕ → List (List ℕ) → List (List ℕ)
decoded_onto b (Some stands_for) pieces = onto_first stands_for pieces
decoded_onto b None pieces = onto_first 92 (onto_first b pieces)

-- the pieces between each `;` (59) that is no part of an escape, with their escapes decoded, where the value stands behind a `\` or behind none
abbrev pub pieces_behind : Bool → List ℕ → List (List ℕ)
pieces_behind false [] = [] ∷ []
pieces_behind true [] = (92 ∷ []) ∷ []
pieces_behind true (b ∷ value) = decoded_onto b (escaped b) (pieces_behind false value)
pieces_behind false (b ∷ value) =
    if b == 92 then pieces_behind true value
    else if b == 59 then [] ∷ pieces_behind false value
    else onto_first b (pieces_behind false value)

-- the pieces without blanks at their ends, those that are then empty left out
abbrev pub kept : List (List ℕ) → List (List ℕ)
kept pieces = filter (λ item. not (is_empty item)) (map trim pieces)

abbrev pub items_of : List ℕ → List (List ℕ)
items_of value = kept (pieces_behind false value)
