use Rattle.std.proofs.Common.{rules, ◌==◌, not}
use Rattle.std.specs.Prelude.{filter}
use Rattle.std.proofs.lemmas.Fn.{filter_same}
use Rattle.peer_changes.proofs.live.no_longer_live.Goals as goal

pub returns : goal.returns
returns c = record { items = filter_same _ _ _ (λ x b f' k. search rules) _ _ c.retain.ensures.filtered }
