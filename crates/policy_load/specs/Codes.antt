-- The numbers of the causes.
use Rattle.std.specs.Prelude.{ℕ}
use Rattle.policy_load.specs.declared.refused.LoadRefused.{LoadRefused}
use Rattle.policy_load.specs.declared.refused.LoadRefused.TheVariants as refused

abbrev pub code_of : LoadRefused → ℕ
code_of (refused.TreeFault count) = 1
code_of (refused.Limit which count) = 2
code_of (refused.BadTable file why) = 3
code_of refused.NoMemory = 4
