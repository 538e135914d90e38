use Rattle.std.proofs.Common.{◌≡◌, ◌<◌, ◌+◌, ◌++◌, ◌∷◌, [], length, sym, ap, ◌∙◌, subst, arith}
use Rattle.std.specs.Map.{values_of}
use Rattle.std.proofs.lemmas.List.{map_push, length_push}
use Rattle.indexmap.proofs.CallerLemmas.{insert_entry-new}
use Rattle.authority_model.specs.declared.pending.Agent.{Agent}
use Rattle.authority_model.specs.Agents.{agent_of}
use Rattle.key_index.specs.declared.keys.KeyOf.{KeyOf}
use Rattle.key_index.specs.contracts.keys.KeyOfPartialEq.TheImpl as derived
use Rattle.key_index.specs.Held.{key_held}
use Rattle.key_index.specs.Keyed.{AreKeyed}
use Rattle.key_index.proofs.Keyed.{found_by, keyed_push}
use Rattle.agent_registry.specs.Rows.{Rows}
use Rattle.agent_registry.proofs.rows.AgentRows.push.Goals as goal

pub invariant_of-self : goal.invariant_of-self
invariant_of-self c =
    let none = found_by (λ (a : Agent). a.key) c.args.key c.args.agent.key c.requires.key c.self.inside.rows.entries c.self.invariant.0 ∙ ap (λ (x : Rows). agent_of c.args.agent.key x.items) c.self.view_is ∙ c.requires.fresh in
    let grown = c.in-Ok.ensures.entries ∙ insert_entry-new derived.ghosts.eq c.self.inside.rows c.args.key c.args.agent none in
    let room = subst (λ (x : Rows). 0 < x.room) (sym c.self.view_is) c.requires.room in
    let longer : length c.insert.new.self.entries ≡ length c.self.inside.rows.entries + 1 = ap length grown ∙ length_push c.self.inside.rows.entries (c.args.key, c.args.agent) in
    let keyed = keyed_push key_held (λ (a : Agent). a.key) c.self.inside.rows.entries c.args.key c.args.agent c.self.invariant.0 c.requires.key in
    (subst (AreKeyed key_held (λ (a : Agent). a.key)) (sym grown) keyed, omega (arith, longer, room, c.self.invariant.1))

pub returns : goal.returns
returns c =
    let none = found_by (λ (a : Agent). a.key) c.args.key c.args.agent.key c.requires.key c.self.inside.rows.entries c.self.invariant.0 ∙ ap (λ (x : Rows). agent_of c.args.agent.key x.items) c.self.view_is ∙ c.requires.fresh in
    let grown = c.in-Ok.ensures.entries ∙ insert_entry-new derived.ghosts.eq c.self.inside.rows c.args.key c.args.agent none in
    record { items = ap values_of grown ∙ map_push (λ (e : KeyOf × Agent). e.1) c.self.inside.rows.entries (c.args.key, c.args.agent) ∙ ap (λ (x : Rows). x.items ++ c.args.agent ∷ []) c.self.view_is }
