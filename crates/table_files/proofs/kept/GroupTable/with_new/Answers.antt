-- The keys of the new row go last.
use Rattle.std.proofs.Common.{refl, sym, ◌∙◌}
use Rattle.table_files.specs.Kept.{listing_in}
use Rattle.table_files.proofs.Keys.{both_pushed}
use Rattle.table_files.proofs.GroupRows.{stands-rows}
use Rattle.table_files.proofs.kept.GroupTable.with_new.Goals as goal

pub invariant_of-result : goal.invariant_of-result
invariant_of-result c =
    let both = both_pushed c.args.self.rows.items (λ r. r.gid) (λ r. r.name.now) c.args.self.gids.keys c.insert.new.self.keys c.args.self.names.keys c.insert-2.new.self.keys
    c.args.row.now.name c.args.row.now c.push.new.self.items c.args.self.gids_stand c.args.self.names_stand refl
    (sym (stands-rows (listing_in c.args.row.now).group c.args.self.rows.items) ∙ c.requires)
    c.in_ok-insert.ensures.keys c.in_ok-insert-2.ensures.keys c.in_ok-push.ensures.items in
    record {
      gids_stand = both.0;
      names_stand = both.1;
    }
