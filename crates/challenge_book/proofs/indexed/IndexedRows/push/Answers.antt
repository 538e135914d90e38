use Rattle.std.proofs.Common.{◌<◌, ℕ, cond, sym, ap, ◌∙◌, subst, List, Some, arith}
use Rattle.std.specs.Prelude.{not, ◌&&◌, ◌==◌, bytes_eq}
use Rattle.std.specs.Cow.{cow_slice_items}
use Rattle.pk_types.specs.Decimals.{is_empty}
use Rattle.authority_model.specs.declared.pending.Pending.{Pending}
use Rattle.entry_changes.specs.Changes.{IsFresh}
use Rattle.challenge_book.specs.Rows.{Rows}
use Rattle.challenge_book.specs.Keys.{AreIndexed, entry_of_cookie, entry_named}
use Rattle.challenge_book.proofs.Finding.{fresh_entry}
use Rattle.challenge_book.proofs.Counting.{few_counted}
use Rattle.challenge_book.proofs.Keying.{has_room, opened}
use Rattle.challenge_book.proofs.indexed.IndexedRows.push.Goals as goal

pub push-requires-clause-fresh : goal.push-requires-clause-fresh
push-requires-clause-fresh c = fresh_entry c.args.row c.self.inside.rows.items (subst (λ (x : Rows). IsFresh c.args.row x.items) (sym c.self.view_is) c.requires.fresh)

pub count_up-requires-clause-few : goal.count_up-requires-clause-few
count_up-requires-clause-few c = omega (arith, few_counted c.args.row.asker_uid c.self.inside.rows.items c.self.inside.by_user.entries c.self.invariant.users_are, has_room _ _ _ (subst (λ (x : Rows). 0 < x.room) (sym c.self.view_is) c.requires.room))

pub invariant_of-self : goal.invariant_of-self
invariant_of-self c =
    subst (λ (xs : List Pending). AreIndexed xs c.put_cookie.new.index.entries c.put_asked.new.index.entries c.put_named.new.index.entries c.count_up.new.self.entries) (sym c.push.ensures.items)
    (opened c.self.inside.rows.items c.args.row c.self.inside.by_cookie.entries c.put_cookie.new.index.entries c.self.inside.by_agent.entries c.put_asked.new.index.entries c.self.inside.by_cancel.entries c.put_named.new.index.entries c.self.inside.by_user.entries c.count_up.new.self.entries
    c.self.invariant (subst (λ (x : Rows). IsFresh c.args.row x.items) (sym c.self.view_is) c.requires.fresh)
    (has_room _ _ _ (subst (λ (x : Rows). 0 < x.room) (sym c.self.view_is) c.requires.room))
    (λ q. c.put_cookie.ensures.puts q ∙ ap (λ (z : List ℕ). cond (bytes_eq z (cow_slice_items q)) (Some c.args.row.entry) (entry_of_cookie c.self.inside.by_cookie.entries q)) c.requires.keys.cookie)
    c.put_asked.ensures.puts
    (λ q. c.put_named.ensures.puts q ∙ ap (λ (z : List ℕ). cond (not (is_empty z) && ((c.args.row.asker == q.0) && bytes_eq z (cow_slice_items q.1))) (Some c.args.row.entry) (entry_named c.self.inside.by_cancel.entries q)) c.requires.keys.cancel)
    c.count_up.ensures.more)
