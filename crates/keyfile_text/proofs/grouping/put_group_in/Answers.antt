use Rattle.std.proofs.Common.{ap, map, ◌∙◌}
use Rattle.keyfile_text.specs.Maps.{group_in}
use Rattle.keyfile_text.proofs.Merges.{put_group-insert}
use Rattle.keyfile_text.proofs.grouping.put_group_in.Goals as goal

pub returns : goal.returns
returns c = record { put = ap (map group_in) c.in_ok-insert.ensures.entries ∙ put_group-insert c.args.groups.now.entries c.args.name c.args.pairs }
