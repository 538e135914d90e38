use Rattle.std.proofs.Common.{ℕ, cond, sym, ap, ◌∙◌, subst, List, None}
use Rattle.std.specs.Prelude.{◌&&◌, ◌==◌, bytes_eq}
use Rattle.std.specs.Cow.{cow_slice_items}
use Rattle.authority_model.specs.declared.pending.Pending.{Pending}
use Rattle.challenge_book.specs.Keys.{AreIndexed, entry_of_cookie, entry_named}
use Rattle.challenge_book.proofs.Finding.{unfound}
use Rattle.challenge_book.proofs.Counting.{some_counted}
use Rattle.challenge_book.proofs.Keying.{closed}
use Rattle.challenge_book.proofs.indexed.IndexedRows.take.Goals as goal

pub invariant_of-self : goal.invariant_of-self
invariant_of-self c = subst (λ (xs : List Pending). AreIndexed xs c.self.inside.by_cookie.entries c.self.inside.by_agent.entries c.self.inside.by_cancel.entries c.self.inside.by_user.entries) (sym (c.take.ensures.items ∙ unfound c.args.entry c.self.inside.rows.items c.in_default.ensures.row)) c.self.invariant

pub count_down-requires : goal.count_down-requires
count_down-requires c = record { some = some_counted c.args.entry c.in-Some.filed.row c.self.inside.rows.items c.self.inside.by_user.entries c.self.invariant.apart (sym c.in-Some.ensures.row) c.self.invariant.users_are }

pub invariant_of-self-2 : goal.invariant_of-self-2
invariant_of-self-2 c =
    subst (λ (xs : List Pending). AreIndexed xs c.take_cookie.new.index.entries c.take_asked.new.index.entries c.take_named.new.index.entries c.count_down.new.self.entries) (sym c.take.ensures.items)
    (closed c.self.inside.rows.items c.args.entry c.in-Some.filed.row c.self.inside.by_cookie.entries c.take_cookie.new.index.entries c.self.inside.by_agent.entries c.take_asked.new.index.entries c.self.inside.by_cancel.entries c.take_named.new.index.entries c.self.inside.by_user.entries c.count_down.new.self.entries
    c.self.invariant (sym c.in-Some.ensures.row)
    (λ q. c.take_cookie.ensures.takes q ∙ ap (λ (z : List ℕ). cond (bytes_eq z (cow_slice_items q)) None (entry_of_cookie c.self.inside.by_cookie.entries q)) (c.as_bytes.ensures.value ∙ c.in-Some.ensures.text))
    c.take_asked.ensures.takes
    (λ q. c.take_named.ensures.takes q ∙ ap (λ (z : List ℕ). cond ((c.in-Some.filed.row.asker == q.0) && bytes_eq z (cow_slice_items q.1)) None (entry_named c.self.inside.by_cancel.entries q)) c.bytes.ensures.bytes)
    c.count_down.ensures.fewer)
