-- The bytes of a reply to a check, part by part.
use Rattle.std.specs.Prelude.{ℕ, ◌+◌, Bool, false, if◌then◌else◌, List, [], ◌∷◌, ◌++◌, length, map}
use Rattle.std.specs.Int.{w32}
use Rattle.pk_types.specs.declared.values.Pair.{Pair}
use Rattle.dbus_values.specs.Trees.{bytes_of, all_marshalled}
use Rattle.authority_messages.specs.Values.{row, pair}

-- details one after the other, of which the first stands at this place of the message, and where they end
abbrev pub details_bytes : ℕ → List Pair → List ℕ
details_bytes at ps = all_marshalled false at (row (map pair ps))

abbrev pub details_end : ℕ → List Pair → ℕ
details_end at ps = at + length (details_bytes at ps)

abbrev pub number : ℕ → List ℕ
number n = bytes_of false w32 n

-- the bytes before the body: the start, REPLY_SERIAL and SIGNATURE `(bba{ss})`
abbrev pub first_bytes : ℕ → ℕ → ℕ → List ℕ
first_bytes serial answered body =
    108 ∷ 2 ∷ 1 ∷ 1 ∷ (number body ++ (number serial ++ (23 ∷ 0 ∷ 0 ∷ 0 ∷ 5 ∷ 1 ∷ 117 ∷ 0 ∷ (number answered ++ (8 ∷ 1 ∷ 103 ∷ 0 ∷ 9 ∷ 40 ∷ 98 ∷ 98 ∷ 97 ∷ 123 ∷ 115 ∷ 115 ∷ 125 ∷ 41 ∷ 0 ∷ 0 ∷ [])))))

-- the two truths, the size of the details, and the padding before them
abbrev pub truth_bytes : Bool → Bool → ℕ → List ℕ
truth_bytes allowed challenge size = number (if allowed then 1 else 0) ++ (number (if challenge then 1 else 0) ++ (number size ++ number 0))
