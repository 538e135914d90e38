use Rattle.std.proofs.Common.{◌≡◌, None, Some, sym, ap, ◌∙◌, subst}
use Rattle.std.specs.Option.{option_map}
use Rattle.authority_model.specs.declared.pending.Agent.{Agent}
use Rattle.entry_changes.specs.declared.change.AgentChange.TheVariants.{Add}
use Rattle.authority_model.specs.Agents.{agent_of}
use Rattle.agent_registry.specs.Registry.{Registry, change_of}
use Rattle.agent_registry.proofs.registry.AgentRegistry.apply_entry.Goals as goal

pub carry-requires-clause-fresh : goal.carry-requires-clause-fresh
carry-requires-clause-fresh c a is =
    subst (λ (x : Registry). (a : Agent) → x.staged ≡ Some (Add a) → agent_of a.key x.items ≡ None) (sym c.self.view_is) c.requires.fresh a (ap (option_map change_of) (sym c.in-Some.ensures.value) ∙ ap Some is)
