-- The keys of the new row go last.
use Rattle.std.proofs.Common.{refl, ap, ◌∙◌, ◌++◌, ◌∷◌, []}
use Rattle.table_files.specs.Kept.{user_in}
use Rattle.table_files.proofs.Keys.{both_pushed}
use Rattle.table_files.proofs.kept.UserTable.with_new.Goals as goal

pub invariant_of-result : goal.invariant_of-result
invariant_of-result c =
    let both = both_pushed c.args.self.users (λ r. r.uid) (λ r. r.name) c.args.self.uids.keys c.insert.new.self.keys c.args.self.names.keys c.insert-2.new.self.keys
    c.args.row.now.name (user_in c.args.row.now) c.try_push.new.self c.args.self.uids_stand c.args.self.names_stand refl c.requires.new
    c.in_ok-insert.ensures.keys c.in_ok-insert-2.ensures.keys
    (c.in_ok-try_push.ensures.ok ∙ ap (λ r. c.args.self.users ++ r ∷ []) c.in_ok-user.ensures.user) in
    record {
      uids_stand = both.0;
      names_stand = both.1;
    }
