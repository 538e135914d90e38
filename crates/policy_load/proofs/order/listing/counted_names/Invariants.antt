use Rattle.std.proofs.Common.{◌≡◌, ◌++◌, nat_eq}
use Rattle.std.specs.Prelude.{filter}
use Rattle.std.specs.List.{ends_with}
use Rattle.policy_load.specs.Turns.{ending_of, report_name}
use Rattle.policy_load.proofs.order.listing.counted_names.Given as goal

-- the names so far, and those to come
abbrev pub invariant-loop-name : goal.invariant-loop-name
invariant-loop-name l = l.counted ++ filter (λ name. ends_with nat_eq name (ending_of l.kind)) l.name-iterator.rest.items ≡ report_name l.unnamed ++ filter (λ name. ends_with nat_eq name (ending_of l.kind)) l.initial.name-iterator.rest.items
