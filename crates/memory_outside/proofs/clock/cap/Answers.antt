use Rattle.std.proofs.Common.{◌≡◌, ◌<◌, ◌∙◌, ℕ, List, length, set, get_or, sym, ap, arith}
use Rattle.std.proofs.lemmas.List.Edits.{map_over_more}
use Rattle.std.proofs.lemmas.Option.{get_or_from_slice_get, slice_get-get_or}
use Rattle.memory_outside.specs.Readings.{capped}
use Rattle.memory_outside.proofs.clock.cap.Goals as goal

-- Within a list an element is the same whatever stands for one behind the end.
get_or-within : (xs : List ℕ) (i : ℕ) → i < length xs → get_or xs i 0 ≡ get_or xs i (get_or xs i 0)
get_or-within xs i within = sym (get_or_from_slice_get xs i (get_or xs i 0) (get_or xs i 0) (slice_get-get_or xs i 0 within))

pub loop-number-preserved : goal.loop-number-preserved
loop-number-preserved c =
    let within : c.loop-number.number-index < length c.loop-number.numbers = omega arith in
    ap (λ (n : ℕ). set c.loop-number.numbers c.loop-number.number-index n) c.min.ensures
    ∙ map_over_more capped c.args.numbers.now _ _ _ c.loop-number-test.true c.loop-number.invariant
    (get_or-within c.loop-number.numbers c.loop-number.number-index within)
