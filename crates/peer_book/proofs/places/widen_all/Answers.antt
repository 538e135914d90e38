use Rattle.std.proofs.Common.{◌≡◌, ℕ, List, Some, nat_eq, subst}
use Rattle.std.specs.Prelude.{◌⊎◌}
use Rattle.std.specs.Map.{lookup}
use Rattle.peer_book.specs.Places.{CanTake}
use Rattle.peer_book.proofs.Widening.{kept_both, can_more}
use Rattle.peer_book.proofs.places.widen_all.Goals as goal

pub loop-receiver-preserved : goal.loop-receiver-preserved
loop-receiver-preserved c =
    let old = c.loop-receiver.rows.entries in
    let new = c.widen_one.new.rows.entries in
    let tally = c.args.tally.now.entries in
    record {
      kept = kept_both c.args.rows.now.entries old new c.loop-receiver.invariant.kept c.widen_one.ensures.kept;
      made = can_more old new tally c.next.new.self c.in-Some.receiver.now c.in-Some.more.now c.widen_one.ensures.kept c.in_ok-widen_one.ensures.ok
          (subst (λ (xs : List (ℕ × ℕ)). (q n : ℕ) → lookup (nat_eq q) tally ≡ Some n → (lookup (nat_eq q) xs ≡ Some n) ⊎ CanTake old q n) c.in-Some.ensures.steps c.loop-receiver.invariant.made);
    }
