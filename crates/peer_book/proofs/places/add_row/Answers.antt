use Rattle.std.proofs.Common.{◌≡◌, ◌∙◌, sym, None}
use Rattle.std.specs.Prelude.{nat_eq}
use Rattle.std.specs.Map.{lookup}
use Rattle.indexmap.proofs.CallerLemmas.{insert_entry-new}
use Rattle.peer_book.proofs.Widening.{kept_added, none_from}
use Rattle.peer_book.proofs.places.add_row.Goals as goal

pub returns-in_ok-insert-clause-kept : goal.returns-in_ok-insert-clause-kept
returns-in_ok-insert-clause-kept c =
    let absent : lookup (nat_eq c.args.receiver) c.args.rows.now.entries ≡ None = none_from (lookup (nat_eq c.args.receiver) c.args.rows.now.entries) (sym c.contains_key.ensures ∙ c.if-not-contains_key.true) in
    kept_added c.args.rows.now.entries c.insert.new.self.entries c.args.receiver c.new.result absent
    (c.in_ok-insert.ensures.entries ∙ insert_entry-new nat_eq c.args.rows.now c.args.receiver c.new.result absent) c.new.ensures.empty c.in_ok-insert.ensures.updates.0
