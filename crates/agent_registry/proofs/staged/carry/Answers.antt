use Rattle.std.proofs.Common.{ap, ◌∙◌}
use Rattle.authority_model.specs.declared.pending.Agent.{Agent}
use Rattle.authority_model.specs.Keys.{same_key}
use Rattle.authority_model.specs.Agents.{agent_of}
use Rattle.key_index.proofs.Keyed.{find_filter_none}
use Rattle.agent_registry.specs.Rows.{stays}
use Rattle.agent_registry.specs.Registry.{change_of}
use Rattle.agent_registry.proofs.staged.carry.Goals as goal

pub push-requires-clause-fresh : goal.push-requires-clause-fresh
push-requires-clause-fresh c =
    let key = c.in-Add.agent.key in
    ap (agent_of key) c.end.ensures.items
    ∙ find_filter_none (λ (a : Agent). same_key a.key key) (stays c.args.entry.now c.args.world.now) c.args.rows.now.items (c.requires.fresh c.in-Add.agent (ap change_of c.in-Add.is))
