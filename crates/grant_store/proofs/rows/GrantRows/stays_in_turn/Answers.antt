use Rattle.std.proofs.Common.{◌-◌, ◌≤◌, length, sym, subst}
use Rattle.std.specs.List.{slice_index_or}
use Rattle.std.proofs.lemmas.Bool.{leb-true}
use Rattle.std.proofs.lemmas.List.Sorted.{IsNonDecreasingBy-push}
use Rattle.authority_model.specs.declared.verdict.GrantRow.{GrantRow}
use Rattle.grant_store.specs.Rows.{Rows, AreInTurn}
use Rattle.grant_store.proofs.Turns.{last_value}
use Rattle.grant_store.proofs.rows.GrantRows.stays_in_turn.Goals as goal

pub returns-in-Some : goal.returns-in-Some
returns-in-Some c = record {
  turn = λ later. IsNonDecreasingBy-push (λ (g : GrantRow). g.expires) c.args.self.now.items c.args.row.now (subst (λ (x : Rows). AreInTurn x.items) c.self.view_is (c.self.invariant.1 c.if-self.true)) (λ d some.
      subst (λ (x : Rows). (slice_index_or x.items (length x.items - 1) d).expires ≤ c.args.row.now.expires) c.self.view_is
      (subst (λ (y : GrantRow). y.expires ≤ c.args.row.now.expires) (sym (last_value c.self.inside.rows.entries (c.in-Some._id.now, c.in-Some.last.now) d c.in-Some.ensures.entry)) (leb-true c.in-Some.last.now.expires c.args.row.now.expires later)));
}
