-- The id of the new session goes last.
use Rattle.std.proofs.Common.{refl, ap, ◌∙◌, ◌++◌, ◌∷◌, []}
use Rattle.table_files.specs.Kept.{session_at}
use Rattle.table_files.proofs.Keys.{now_of, name_pushed}
use Rattle.table_files.proofs.kept.SessionTable.with_new.Goals as goal

pub invariant_of-result : goal.invariant_of-result
invariant_of-result c = record {
  ids_stand = name_pushed c.args.self.sessions now_of (λ s. s.id) c.args.self.ids.keys c.insert.new.self.keys c.args.row.now.id (session_at c.args.row.now) c.try_push.new.self
      c.args.self.ids_stand refl c.requires.new c.in_ok-insert.ensures.keys
      (c.in_ok-try_push.ensures.ok ∙ ap (λ s. c.args.self.sessions ++ s ∷ []) c.in_ok-session.ensures.session);
}
