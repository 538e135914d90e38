use Rattle.std.proofs.Common.{rules, ◌≡◌, ℕ, Bool, not, filter, sym, ap, ◌∙◌, subst}
use Rattle.std.specs.Map.{values_of}
use Rattle.std.proofs.lemmas.Bool.{and_left, not_from_false}
use Rattle.std.proofs.lemmas.List.Kept.{IsNonDecreasingBy-filter}
use Rattle.indexmap.proofs.CallerLemmas.{filter-RetainsPairs}
use Rattle.authority_model.specs.declared.verdict.GrantRow.{GrantRow}
use Rattle.authority_model.specs.Worlds.{lists_key}
use Rattle.authority_model.specs.Items.{is_load}
use Rattle.entry_changes.specs.Changes.{unlisted}
use Rattle.key_index.specs.Keyed.{AreKeyed}
use Rattle.key_index.proofs.Keyed.{Each-filter, values_filter, filter_all}
use Rattle.grant_store.specs.Rows.{Rows, AreInTurn}
use Rattle.grant_store.proofs.rows.GrantRows.end.Goals as goal

pub invariant_of-self : goal.invariant_of-self
invariant_of-self c =
    let passes : ℕ × GrantRow → Bool = λ e. not (unlisted c.args.entry.now c.args.world.now e.1.key) in
    let kept = filter-RetainsPairs _ passes _ (λ k v b w g call. search rules) _ _ c.retain.ensures.filtered in
    let keyed = subst (AreKeyed (λ (k : ℕ). k) (λ (g : GrantRow). g.id)) (sym kept) (Each-filter (λ (e : ℕ × GrantRow). e.0 ≡ e.1.id) passes c.self.inside.rows.entries c.self.invariant.0) in
    let left : GrantRow → Bool = λ g. not (unlisted c.args.entry.now c.args.world.now g.key) in
    (keyed, λ is. subst AreInTurn (sym (ap values_of kept ∙ values_filter left c.self.inside.rows.entries)) (IsNonDecreasingBy-filter (λ (g : GrantRow). g.expires) left (values_of c.self.inside.rows.entries) (c.self.invariant.1 is)))

pub returns-clause-items : goal.returns-clause-items
returns-clause-items c =
    let passes : GrantRow → Bool = λ g. not (unlisted c.args.entry.now c.args.world.now g.key) in
    let kept = filter-RetainsPairs _ (λ (e : ℕ × GrantRow). passes e.1) _ (λ k v b w g call. search rules) _ _ c.retain.ensures.filtered in
    ap values_of kept ∙ values_filter passes c.self.inside.rows.entries ∙ ap (λ (x : Rows). filter passes x.items) c.self.view_is

pub returns-then-not-is_load-clause-items : goal.returns-then-not-is_load-clause-items
returns-then-not-is_load-clause-items c =
    filter_all _ (λ g. not_from_false (unlisted c.args.entry.now c.args.world.now g.key) (and_left (is_load c.args.entry.now.event) (not (lists_key c.args.world.now g.key)) (sym c.if-not-is_load.ensures.load))) c.args.self.now.items
