-- Each entry and each output counts at least 64 bytes.
use Rattle.std.proofs.Common.{◌≡◌, ℕ, ◌+◌, ◌*◌, ◌^◌, ◌<◌, ◌≤◌, List, [], ◌∷◌, ◌⊎◌, inl, inr, length, arith}
use Rattle.std.proofs.Math.Nat.{min-eq_left, min-eq_right}
use Rattle.std.proofs.lemmas.Bool.{cases_lt}
use Rattle.std.proofs.lemmas.List.Sums.{sum_by-cons}
use Rattle.std.specs.Prelude.{sum_by}
use Rattle.authority_model.specs.declared.journal.Entry.{Entry}
use Rattle.authority_model.specs.declared.journal.History.{History}
use Rattle.authority_model.specs.declared.message.Output.{Output}
use Rattle.authority_model.specs.Costs.{bytes_of, capped, cost_of_entry, cost_of_event, cost_of_output}
use Rattle.authority_laws.specs.Counted.{outputs_in}

-- a cost below the cap counts whole
uncapped : (c : ℕ) → capped c < 2 ^ 62 → capped c ≡ c
uncapped c below = of (cases_lt c (2 ^ 62))
  where
    of : (c < 2 ^ 62) ⊎ (2 ^ 62 ≤ c) → capped c ≡ c
    of (inl small) = min-eq_left (omega arith)
    of (inr large) = let cap : capped c ≡ 2 ^ 62 = min-eq_right large in absurd (omega (arith, cap, below))

-- each output costs at least 64
outputs_cost : (outputs : List Output) → 64 * length outputs ≤ sum_by cost_of_output outputs
outputs_cost [] = omega arith
outputs_cost (o ∷ outputs) =
    let first = sum_by-cons cost_of_output o outputs in
    let rest = outputs_cost outputs in
    omega (arith, first, rest)

-- an entry costs at least 64, and 64 for each of its outputs
pub entry_costs : (e : Entry) → cost_of_entry e < 2 ^ 62 → 64 + 64 * length e.outputs ≤ cost_of_entry e
entry_costs e below =
    let whole = uncapped (64 + cost_of_event e.event + sum_by cost_of_output e.outputs) below in
    let outputs = outputs_cost e.outputs in
    omega (arith, whole, outputs)

-- the same of all entries together
entries_cost : (entries : List Entry) → sum_by cost_of_entry entries < 2 ^ 62 → 64 * (length entries + sum_by (λ e. length e.outputs) entries) ≤ sum_by cost_of_entry entries
entries_cost [] below = omega arith
entries_cost (e ∷ entries) below =
    let first = sum_by-cons cost_of_entry e entries in
    let count = sum_by-cons (λ (e : Entry). length e.outputs) e entries in
    let one = entry_costs e (omega (arith, first, below)) in
    let rest = entries_cost entries (omega (arith, first, below)) in
    omega (arith, first, count, one, rest)

-- Below the cap, a history counts at least 64 bytes for each entry and each output.
pub counted : (h : History) → bytes_of h < 2 ^ 62 → 64 * (length h.entries + outputs_in h) ≤ bytes_of h
counted h below =
    let entries = entries_cost h.entries (omega (arith, below)) in
    omega (arith, entries)
