-- The id of the new action goes last.
use Rattle.std.proofs.Common.{sym, ap, ◌∙◌}
use Rattle.table_files.proofs.Keys.{name_pushed}
use Rattle.policy_load.specs.Joins.{has_id}
use Rattle.policy_load.proofs.files.kept.ActionTable.with_new.Goals as goal

pub invariant_of-result : goal.invariant_of-result
invariant_of-result c =
    let is = c.in_ok-from_slice.ensures.items ∙ c.bytes.ensures.bytes in record {
      ids_stand = name_pushed c.args.self.actions (λ id. id.items) (λ a. a.id) c.args.self.ids.keys c.insert.new.self.keys c.in_ok-from_slice.field-0 c.args.action c.try_push.new.self
          c.args.self.ids_stand (sym is) (ap (λ id. has_id id c.args.self.actions) is ∙ c.requires) c.in_ok-insert.ensures.keys c.in_ok-try_push.ensures.ok;
    }
