use Rattle.std.proofs.Common.{◌≡◌, ℕ, Bool, rules, subst, arith}
use Rattle.std.specs.Prelude.{find, drop, nat_le}
use Rattle.std.specs.List.{slice_index_or}
use Rattle.std.proofs.lemmas.Bool.{false_from_ne_true, leb-true}
use Rattle.std.proofs.lemmas.Fn.{always_returns_same}
use Rattle.std.proofs.lemmas.List.Sorted.{IsPartitionedBy-leb}
use Rattle.authority_model.specs.declared.verdict.GrantRow.{GrantRow}
use Rattle.grant_store.specs.Rows.{Rows}
use Rattle.grant_store.proofs.Turns.{under_numbers, find_behind}
use Rattle.grant_store.proofs.rows.GrantRows.first_live.Goals as goal

pub returns-then-self-clause-rest : goal.returns-then-self-clause-rest
returns-then-self-clause-rest c test later =
    let rows = c.self.inside.rows.entries in
    let expired : ℕ × GrantRow → Bool = λ e. nat_le e.1.expires c.args.moment in
    let parted = IsPartitionedBy-leb (λ (e : ℕ × GrantRow). e.1.expires) rows c.args.moment (under_numbers rows (c.self.invariant.1 c.if-self.true)) in
    let point = c.partition_point.ensures.partitioned expired (always_returns_same _ _ _ (λ a r q k. search rules)) parted in
    subst (λ (x : Rows). find test (drop c.partition_point.result x.items) ≡ find test x.items) c.self.view_is
    (find_behind test rows c.partition_point.result (λ k d low high. false_from_ne_true (test (slice_index_or rows k d).1) (λ is. omega (arith, later (slice_index_or rows k d).1 is, leb-true (slice_index_or rows k d).1.expires c.args.moment (point.0 k d low high)))))
