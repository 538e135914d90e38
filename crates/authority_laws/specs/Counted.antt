-- What a history holds, as it is counted.
use Rattle.std.specs.Prelude.{ℕ, length, sum_by}
use Rattle.authority_model.specs.declared.journal.History.{History}

-- how many outputs a history has
abbrev pub outputs_in : History → ℕ
outputs_in h = sum_by (λ e. length e.outputs) h.entries
