use Rattle.std.proofs.Common.{rules, ◌≡◌, Bool, not, filter, sym, ap, ◌∙◌, subst, arith}
use Rattle.std.specs.Map.{values_of}
use Rattle.indexmap.proofs.CallerLemmas.{filter-RetainsPairs}
use Rattle.authority_model.specs.declared.pending.Agent.{Agent}
use Rattle.authority_model.specs.Keys.{same_key}
use Rattle.key_index.specs.declared.keys.KeyOf.{KeyOf}
use Rattle.key_index.specs.Held.{key_held}
use Rattle.key_index.specs.Keyed.{AreKeyed}
use Rattle.key_index.proofs.Keyed.{Each-filter, values_filter}
use Rattle.agent_registry.specs.Rows.{Rows}
use Rattle.agent_registry.proofs.rows.AgentRows.end_key.Goals as goal

pub invariant_of-self : goal.invariant_of-self
invariant_of-self c =
    let passes : KeyOf × Agent → Bool = λ e. not (same_key e.1.key c.args.key.now) in
    let kept = filter-RetainsPairs _ passes _ (λ k v b w g call. search rules) _ _ c.retain.ensures.filtered in
    (subst (AreKeyed key_held (λ (a : Agent). a.key)) (sym kept) (Each-filter (λ (e : KeyOf × Agent). key_held e.0 ≡ e.1.key) passes c.self.inside.rows.entries c.self.invariant.0), omega (arith, c.retain.ensures.bound, c.self.invariant.1))

pub returns : goal.returns
returns c =
    let passes : Agent → Bool = λ a. not (same_key a.key c.args.key.now) in
    let kept = filter-RetainsPairs _ (λ (e : KeyOf × Agent). passes e.1) _ (λ k v b w g call. search rules) _ _ c.retain.ensures.filtered in
    record { items = ap values_of kept ∙ values_filter passes c.self.inside.rows.entries ∙ ap (λ (x : Rows). filter passes x.items) c.self.view_is }
