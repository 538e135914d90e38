-- One more member has its gid.
use Rattle.std.proofs.Common.{ℕ, ◌<◌, ◌++◌, ◌∷◌, List, [], length, get_or, Bor, ap, ◌∙◌, arith}
use Rattle.table_files.specs.Sets.{has_name}
use Rattle.table_files.specs.Kept.{kept_gids, gid_of_each}
use Rattle.table_files.proofs.GidSteps.{member_step}
use Rattle.table_files.proofs.kept.Memberships.with_row.Goals as goal

pub loop-member-preserved : goal.loop-member-preserved
loop-member-preserved c = record {
  names_stay = c.in_ok-all.ensures.names ∙ c.loop-member.invariant.names_stay;
  kept = λ name has.
      let members = c.deref-member-items.result.now in
      let i = c.loop-member.member-index in
      let d : Bor (List ℕ) = record { ref_ptr = (0, 0); now = [] } in
      let less : i < length members = omega arith in
      c.in_ok-all.ensures.kept name (ap (λ names. has_name names name) c.loop-member.invariant.names_stay ∙ has)
      ∙ ap (λ gids. gids ++ gid_of_each name c.args.row.now.gid ((get_or members i d).now ∷ [])) (c.loop-member.invariant.kept name has)
      ∙ member_step name c.args.row.now.gid (kept_gids c.args.self name) members i d less;
}
