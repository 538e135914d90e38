use Rattle.std.proofs.Common.{◌≡◌, false, sym, ap, ◌∙◌, Option, Some, None}
use Rattle.std.specs.Prelude.{is_some, slice_get}
use Rattle.std.specs.Option.{option_copied}
use Rattle.authority_model.specs.declared.pending.Agent.{Agent}
use Rattle.authority_model.specs.Keys.{key_seen}
use Rattle.authority_model.specs.Agents.{agent_of}
use Rattle.key_index.proofs.Keyed.{found_by}
use Rattle.agent_registry.specs.Rows.{Rows}
use Rattle.agent_registry.proofs.rows.AgentRows.of_key.Goals as goal

-- an option that has no value
nothing : {A : Type 0} (o : Option A) → false ≡ is_some o → o ≡ None
nothing None e = cc
nothing (Some x) e = absurd (cc)

pub returns-in_err-i : goal.returns-in_err-i
returns-in_err-i c =
    let found = found_by (λ (a : Agent). a.key) c.borrowed.result (key_seen c.args.key) c.borrowed.ensures.key c.self.inside.rows.entries c.self.invariant.0 in
    record { row = ap option_copied c.from_residual.ensures ∙ sym (nothing _ c.in_err-i.ensures.found) ∙ found ∙ ap (λ (x : Rows). agent_of (key_seen c.args.key) x.items) c.self.view_is }

pub returns : goal.returns
returns c =
    let found = found_by (λ (a : Agent). a.key) c.borrowed.result (key_seen c.args.key) c.borrowed.ensures.key c.self.inside.rows.entries c.self.invariant.0 in
    record { row = c.nth.ensures.row ∙ ap (λ (x : Rows). slice_get x.items c.in_ok-i.i) (sym c.self.view_is) ∙ c.in_ok-i.ensures.value ∙ found ∙ ap (λ (x : Rows). agent_of (key_seen c.args.key) x.items) c.self.view_is }
