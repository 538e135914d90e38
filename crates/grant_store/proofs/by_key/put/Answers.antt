use Rattle.std.proofs.Common.{ℕ, ◌==◌, ◌++◌, ◌∷◌, [], List, not, filter, sym, ap, ◌∙◌}
use Rattle.grant_store.proofs.Writing.{lent, numbers_there, numbers_written}
use Rattle.grant_store.proofs.by_key.put.Goals as goal

pub returns : goal.returns
returns c =
    let change : List ℕ → List ℕ = λ ns. filter (λ n. not (n == c.args.number)) ns ++ c.args.number ∷ [] in
    let later = c.get_mut.follows.lender c.put.new.self in
    let found = sym c.in-Some.ensures.value in
    record {
      put = numbers_written change c.args.key.now c.put.new.self c.args.lists.now.entries later.entries (lent c.args.lists.now later c.args.key.now c.in-Some.numbers.now c.put.new.self found (c.get_mut.follows.holds c.put.new.self))
          (c.put.ensures.items ∙ ap change (numbers_there c.args.key.now c.in-Some.numbers.now c.args.lists.now.entries found));
    }
