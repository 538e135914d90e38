use Rattle.std.proofs.Common.{rules, sym, subst, ap, ◌∙◌, ◌≡◌, ◌==◌, not, List, ℕ}
use Rattle.std.specs.Prelude.{filter}
use Rattle.std.specs.List.Sorted.{IsStrictlySortedBy}
use Rattle.std.specs.Ordering.{nat_cmp}
use Rattle.std.proofs.lemmas.Fn.{filter_same}
use Rattle.peer_book.specs.Rows.{Numbers}
use Rattle.peer_book.proofs.Rising.{sorted_left}
use Rattle.peer_book.proofs.live.Rising.take_out.Goals as goal

pub invariant_of-self : goal.invariant_of-self
invariant_of-self c =
    let left : c.retain.new.self.items ≡ filter (λ n. not (n == c.args.number)) c.self.inside.numbers.items = filter_same _ _ _ (λ x b f' k. search rules) _ _ c.retain.ensures.filtered in
    subst (λ (xs : List ℕ). IsStrictlySortedBy nat_cmp xs) (sym left) (sorted_left (λ n. not (n == c.args.number)) c.self.inside.numbers.items c.self.invariant)

pub returns : goal.returns
returns c = record {
  items =
      let left : c.retain.new.self.items ≡ filter (λ n. not (n == c.args.number)) c.self.inside.numbers.items = filter_same _ _ _ (λ x b f' k. search rules) _ _ c.retain.ensures.filtered in
      left ∙ ap (λ (x : Numbers). filter (λ n. not (n == c.args.number)) x.items) c.self.view_is;
}
