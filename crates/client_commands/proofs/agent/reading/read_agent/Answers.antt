use Rattle.std.proofs.Common.{◌≡◌, ◌∙◌, ap, map, subst, sym}
use Rattle.client_commands.specs.Options.{Gives}
use Rattle.client_commands.proofs.Planning.{agent_faults, agent_read, passed_on}
use Rattle.client_commands.proofs.agent.reading.read_agent.Goals as goal

pub returns-in_err-matches-clause-plan : goal.returns-in_err-matches-clause-plan
returns-in_err-matches-clause-plan c =
    let words : map (λ s. s.now) c.as_slice.result.now ≡ c.args.words.now = ap (map (λ s. s.now)) c.as_slice.ensures.value ∙ c.in_ok-strings.ensures.same in
    passed_on _ _ _ c.from_residual-in_err-matches.ensures.1 (agent_faults _ _ _ _ c.in_ok-command.ensures.app words c.in_err-matches.ensures.rows)

pub returns-clause-plan : goal.returns-clause-plan
returns-clause-plan c =
    let words : map (λ s. s.now) c.as_slice.result.now ≡ c.args.words.now = ap (map (λ s. s.now)) c.as_slice.ensures.value ∙ c.in_ok-strings.ensures.same in
    subst (λ due. Gives due c.plan_from.result) (sym (agent_read _ _ _ _ c.in_ok-command.ensures.app words c.in_ok-matches.ensures.rows)) c.plan_from.ensures.plan
