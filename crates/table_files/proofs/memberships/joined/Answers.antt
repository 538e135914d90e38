-- One more user is in its groups.
use Rattle.std.proofs.Common.{◌<◌, ◌++◌, ◌∷◌, [], length, map, ap, ◌∙◌, arith}
use Rattle.table_files.specs.Kept.{listing_in, kept_gids}
use Rattle.table_files.proofs.GidSteps.{user_step}
use Rattle.table_files.proofs.memberships.joined.Goals as goal

pub loop-user-preserved : goal.loop-user-preserved
loop-user-preserved c =
    let users = c.args.users.now in
    let copy = c.in_ok-with_more.field-0 in
    let less : c.loop-user.user-index < length users = omega arith in
    c.in_ok-try_push.ensures.ok
    ∙ ap (λ joined. joined ++ copy ∷ []) c.loop-user.invariant
    ∙ user_step (map listing_in c.args.rows.now) users c.loop-user.user-index c.user-item.result copy c.of-gids.result.now less c.user-item.is
    (λ there. c.of-gids.ensures.gids ∙ ap (kept_gids c.in_ok-memberships.memberships) c.bytes.ensures.bytes ∙ c.in_ok-memberships.ensures.kept c.user-item.result.name there)
    c.in_ok-with_more.ensures.user
