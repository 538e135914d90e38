use Rattle.std.proofs.Common.{ap, map, ◌∙◌}
use Rattle.keyfile_text.specs.Maps.{pair_in}
use Rattle.keyfile_text.proofs.Merges.{set_key-insert}
use Rattle.keyfile_text.proofs.grouping.set_key_in.Goals as goal

pub returns : goal.returns
returns c = record { set = ap (map pair_in) c.in_ok-insert.ensures.entries ∙ set_key-insert c.args.pairs.now.entries c.args.key c.args.value }
