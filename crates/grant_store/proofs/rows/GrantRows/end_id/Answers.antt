use Rattle.std.proofs.Common.{rules, ◌≡◌, ℕ, ◌==◌, Bool, not, filter, sym, ap, ◌∙◌, subst}
use Rattle.std.specs.Map.{values_of}
use Rattle.std.proofs.lemmas.List.Kept.{IsNonDecreasingBy-filter}
use Rattle.indexmap.proofs.CallerLemmas.{filter-RetainsPairs}
use Rattle.authority_model.specs.declared.verdict.GrantRow.{GrantRow}
use Rattle.key_index.specs.Keyed.{AreKeyed}
use Rattle.key_index.proofs.Keyed.{Each-filter, values_filter}
use Rattle.grant_store.specs.Rows.{Rows, AreInTurn}
use Rattle.grant_store.proofs.rows.GrantRows.end_id.Goals as goal

pub invariant_of-self : goal.invariant_of-self
invariant_of-self c =
    let passes : ℕ × GrantRow → Bool = λ e. not (e.1.id == c.args.id) in
    let kept = filter-RetainsPairs _ passes _ (λ k v b w g call. search rules) _ _ c.retain.ensures.filtered in
    let keyed = subst (AreKeyed (λ (k : ℕ). k) (λ (g : GrantRow). g.id)) (sym kept) (Each-filter (λ (e : ℕ × GrantRow). e.0 ≡ e.1.id) passes c.self.inside.rows.entries c.self.invariant.0) in
    let left : GrantRow → Bool = λ g. not (g.id == c.args.id) in
    (keyed, λ is. subst AreInTurn (sym (ap values_of kept ∙ values_filter left c.self.inside.rows.entries)) (IsNonDecreasingBy-filter (λ (g : GrantRow). g.expires) left (values_of c.self.inside.rows.entries) (c.self.invariant.1 is)))

pub returns : goal.returns
returns c =
    let passes : GrantRow → Bool = λ g. not (g.id == c.args.id) in
    let kept = filter-RetainsPairs _ (λ (e : ℕ × GrantRow). passes e.1) _ (λ k v b w g call. search rules) _ _ c.retain.ensures.filtered in
    record { items = ap values_of kept ∙ values_filter passes c.self.inside.rows.entries ∙ ap (λ (x : Rows). filter passes x.items) c.self.view_is }
