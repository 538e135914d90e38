-- The pieces of a printed line.
use Rattle.std.proofs.Common.{◌≡◌, ◌<◌, ◌++◌, ◌∷◌, ◌+◌, [], List, ℕ, length, take, slice_index_or, sym, ap, ◌∙◌, arith}
use Rattle.std.proofs.lemmas.List.{flat_map_more, take_more}
use Rattle.std.proofs.lemmas.Grind.{common_steps}
use Rattle.authority_model.specs.declared.journal.Item.{Item}
use Rattle.journal_scan.specs.declared.counts.Counts.{Counts}
use Rattle.journal_scan.specs.declared.counts.Tally.{Tally}
use Rattle.journal_scan.specs.Counts.{tally_of}
use Rattle.journal_scan.specs.Orderly.{AreCounts}
use Rattle.service_slots.specs.declared.line.Line.{Line}
use Rattle.authority_service.specs.Lines.{connection_line, connection_lines}

-- the row of a number in the counts of a journal is what is counted of that connection
pub row_of : (past : List Item) (counts : Counts) (number : ℕ) (tally : Tally) → AreCounts past counts → number < length counts.tallies.items → tally ≡ slice_index_or counts.tallies.items number tally
    → tally ≡ tally_of past number
row_of past counts number tally are within found = found ∙ are.tallies.each number tally within

-- three pieces were written, one after another
pub joined : (t0 t1 t2 t3 name number space uid word rest : List ℕ) → t1 ≡ t0 ++ (name ++ (number ++ (space ++ (uid ++ space)))) → t2 ≡ t1 ++ word → t3 ≡ t2 ++ rest
    → t3 ≡ t0 ++ (name ++ (number ++ (space ++ (uid ++ (space ++ (word ++ rest))))))
joined t0 t1 t2 t3 name number space uid word rest first second third = grind (arith, common_steps)

-- one more line was written behind the lines before it
pub lines_more : (past : List Item) (lines : List Line) (index : ℕ) (line : Line) (t0 t1 t2 : List ℕ) → index < length lines → line ≡ slice_index_or lines index line
    → t1 ≡ t0 ++ connection_lines past (take index lines) → t2 ≡ t1 ++ connection_line line (tally_of past line.number) → t2 ≡ t0 ++ connection_lines past (take (index + 1) lines)
lines_more past lines index line t0 t1 t2 within here before next =
    let f = λ (l : Line). connection_line l (tally_of past l.number) in
    let taken : take index lines ++ line ∷ [] ≡ take (index + 1) lines = ap (λ (l : Line). take index lines ++ l ∷ []) here ∙ sym (take_more lines index line within) in
    next ∙ ap (λ (t : List ℕ). t ++ f line) before ∙ flat_map_more f t0 (take index lines) line ∙ ap (λ (l : List Line). t0 ++ connection_lines past l) taken
