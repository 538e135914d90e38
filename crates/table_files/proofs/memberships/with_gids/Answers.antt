-- A gid that the set has not goes last in both, and another one nowhere.
use Rattle.std.proofs.Common.{◌≡◌, ◌<◌, ◌==◌, ◌++◌, ◌∷◌, [], length, get_or, ap, sym, ◌∙◌, arith}
use Rattle.std.specs.List.{list_any}
use Rattle.std.proofs.lemmas.Grind.{get_or_default_zero}
use Rattle.table_files.proofs.GidSteps.{gid_added, gid_pushed, gid_passed_over, gids_stay, fold_step}
use Rattle.table_files.proofs.memberships.with_gids.Goals as goal
use Rattle.table_files.proofs.memberships.with_gids.Goals.{then-branch+in_ok-try_push, else-branch}

pub loop-gid-preserved : goal.loop-gid-preserved
loop-gid-preserved c =
    let keys = c.loop-gid.set.keys in
    let new = c.insert.new.self.keys in
    let gids = c.loop-gid.gids in
    let more = c.args.more.now in
    let i = c.loop-gid.gid-index in
    let gid = get_or more i 0 in
    let less : i < length more = omega arith in
    let fold = fold_step c.args.own.now more gids i gid less (sym (get_or_default_zero more i gid less)) c.loop-gid.invariant.folded in
    elim c.if-branch.branch [
      | then-branch+in_ok-try_push w ↦
          let is : c.if-branch.gids ≡ gids ++ gid ∷ [] = w.gids-is ∙ w.in_ok-try_push.ensures.ok in
          record {
            same = λ g.
                gid_added keys new gids gid c.in_ok-insert.field-0 c.loop-gid.invariant.same c.in_ok-insert.ensures.keys c.in_ok-insert.ensures.added w.if-branch.true g
                ∙ ap (list_any (λ n. g == n)) (sym is);
            folded = is ∙ gid_pushed keys new gids gid c.in_ok-insert.field-0 c.loop-gid.invariant.same c.in_ok-insert.ensures.keys c.in_ok-insert.ensures.added w.if-branch.true ∙ fold;
          }
      | else-branch w ↦
          record {
            same = λ g.
                gid_passed_over keys new gids gid c.in_ok-insert.field-0 c.loop-gid.invariant.same c.in_ok-insert.ensures.keys c.in_ok-insert.ensures.added w.if-branch.false g
                ∙ ap (list_any (λ n. g == n)) (sym w.gids-is);
            folded = w.gids-is ∙ gids_stay keys new gids gid c.in_ok-insert.field-0 c.loop-gid.invariant.same c.in_ok-insert.ensures.keys c.in_ok-insert.ensures.added w.if-branch.false ∙ fold;
          }
    ]
