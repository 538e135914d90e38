use Rattle.std.proofs.Common.{sym, subst, ap, ◌∙◌, ◌≡◌, List, ℕ}
use Rattle.std.specs.List.Sorted.{IsStrictlySortedBy}
use Rattle.std.specs.Ordering.{nat_cmp}
use Rattle.authority_model.specs.Peers.{insert_rising}
use Rattle.peer_book.specs.Rows.{Numbers}
use Rattle.peer_book.proofs.Rising.{sorted_put, put_searched, put_found}
use Rattle.peer_book.proofs.live.Rising.put.Goals as goal

put : (c : goal.In-Ok) → c.insert.new.self.items ≡ insert_rising c.args.number c.self.inside.numbers.items
put c = c.in-Ok.ensures.items ∙ put_searched c.self.inside.numbers.items c.deref.result.now c.args.number c.in-Err.place c.deref.ensures.value c.self.invariant c.in-Err.ensures.position

pub invariant_of-self : goal.invariant_of-self
invariant_of-self c = subst (λ (xs : List ℕ). IsStrictlySortedBy nat_cmp xs) (sym (put c)) (sorted_put c.args.number c.self.inside.numbers.items c.self.invariant)

pub returns-in-Ok : goal.returns-in-Ok
returns-in-Ok c = record { items = put c ∙ ap (λ (x : Numbers). insert_rising c.args.number x.items) c.self.view_is }

pub returns-in_default : goal.returns-in_default
returns-in_default c = record {
  items =
      let stays = put_found c.self.inside.numbers.items c.deref.result.now c.args.number c.in_default.field-0 c.deref.ensures.value c.self.invariant c.in_default.ensures.position in
      sym (ap (λ (x : Numbers). x.items) c.self.view_is) ∙ stays ∙ ap (λ (x : Numbers). insert_rising c.args.number x.items) c.self.view_is;
}
