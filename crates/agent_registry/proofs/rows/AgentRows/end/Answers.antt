use Rattle.std.proofs.Common.{rules, ◌≡◌, Bool, filter, sym, ap, ◌∙◌, subst, arith}
use Rattle.std.specs.Map.{values_of}
use Rattle.indexmap.proofs.CallerLemmas.{filter-RetainsPairs}
use Rattle.authority_model.specs.declared.pending.Agent.{Agent}
use Rattle.key_index.specs.declared.keys.KeyOf.{KeyOf}
use Rattle.key_index.specs.Held.{key_held}
use Rattle.key_index.specs.Keyed.{AreKeyed}
use Rattle.key_index.proofs.Keyed.{Each-filter, values_filter, filter_all}
use Rattle.agent_registry.proofs.Ending.{all_stay}
use Rattle.agent_registry.specs.Rows.{Rows, stays}
use Rattle.agent_registry.proofs.rows.AgentRows.end.Goals as goal

pub invariant_of-self : goal.invariant_of-self
invariant_of-self c =
    let passes : KeyOf × Agent → Bool = λ e. stays c.args.entry.now c.args.world.now e.1 in
    let kept = filter-RetainsPairs _ passes _ (λ k v b w g call. search rules) _ _ c.retain.ensures.filtered in
    (subst (AreKeyed key_held (λ (a : Agent). a.key)) (sym kept) (Each-filter (λ (e : KeyOf × Agent). key_held e.0 ≡ e.1.key) passes c.self.inside.rows.entries c.self.invariant.0), omega (arith, c.retain.ensures.bound, c.self.invariant.1))

pub returns-clause-items : goal.returns-clause-items
returns-clause-items c =
    let passes : Agent → Bool = stays c.args.entry.now c.args.world.now in
    let kept = filter-RetainsPairs _ (λ (e : KeyOf × Agent). passes e.1) _ (λ k v b w g call. search rules) _ _ c.retain.ensures.filtered in
    ap values_of kept ∙ values_filter passes c.self.inside.rows.entries ∙ ap (λ (x : Rows). filter passes x.items) c.self.view_is

pub returns-then-not-is_load-clause-items : goal.returns-then-not-is_load-clause-items
returns-then-not-is_load-clause-items c = filter_all (stays c.args.entry.now c.args.world.now) (all_stay c.args.entry.now c.args.world.now (sym c.if-not-is_depart.ensures.depart) (sym c.if-not-is_load.ensures.load)) c.args.self.now.items
