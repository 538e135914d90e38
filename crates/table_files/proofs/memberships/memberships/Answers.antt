-- One more row has its members, and the names of the users are those that are asked for.
use Rattle.std.proofs.Common.{◌<◌, ◌++◌, length, map, ap, ◌∙◌, arith}
use Rattle.std.proofs.lemmas.List.{take_all}
use Rattle.table_files.specs.Sets.{has_name}
use Rattle.table_files.specs.Groups.{members_of}
use Rattle.table_files.specs.Kept.{listing_in, gid_of_each, gids_of_each}
use Rattle.table_files.proofs.GidSteps.{row_step}
use Rattle.table_files.proofs.memberships.memberships.Goals as goal

pub loop-row-preserved : goal.loop-row-preserved
loop-row-preserved c = record {
  names_stay = c.in_ok-all-2.ensures.names ∙ c.loop-row.invariant.names_stay;
  kept = λ name has.
      let less : c.loop-row.row-index < length c.args.rows.now = omega arith in
      c.in_ok-all-2.ensures.kept name (ap (λ names. has_name names name) c.loop-row.invariant.names_stay ∙ has)
      ∙ ap (λ gids. gids ++ gid_of_each name c.row-item.result.gid (members_of c.row-item.result.members.now)) (c.loop-row.invariant.kept name has)
      ∙ row_step name c.args.rows.now c.loop-row.row-index c.row-item.result less c.row-item.is;
}

pub returns : goal.returns
returns c = record {
  kept = λ name there.
      c.loop-row.invariant.kept name (ap (λ names. has_name names name) c.in_ok-all.ensures.names ∙ c.in_ok-names_of.ensures.names name ∙ there)
      ∙ ap (λ rows. gids_of_each name (map listing_in rows)) (take_all c.loop-row.row-index c.args.rows.now (omega arith));
}
