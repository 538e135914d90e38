use Rattle.std.proofs.Common.{◌≡◌, ◌∙◌, ap, map, subst, sym}
use Rattle.client_commands.specs.Options.{Gives}
use Rattle.client_commands.proofs.Planning.{check_faults, check_read, passed_on}
use Rattle.client_commands.proofs.check.reading.read_check.Goals as goal

pub returns-in_err-matches : goal.returns-in_err-matches
returns-in_err-matches c =
    let words : map (λ s. s.now) c.as_slice.result.now ≡ c.args.words.now = ap (map (λ s. s.now)) c.as_slice.ensures.value ∙ c.in_ok-strings.ensures.same in
    record { plan = passed_on _ _ _ c.from_residual-in_err-matches.ensures.1 (check_faults _ _ _ _ c.in_ok-command.ensures.app words c.in_err-matches.ensures.rows) }

pub returns : goal.returns
returns c =
    let words : map (λ s. s.now) c.as_slice.result.now ≡ c.args.words.now = ap (map (λ s. s.now)) c.as_slice.ensures.value ∙ c.in_ok-strings.ensures.same in
    record { plan = subst (λ due. Gives due c.plan_from.result) (sym (check_read _ _ _ _ c.in_ok-command.ensures.app words c.in_ok-matches.ensures.rows)) c.plan_from.ensures.plan }
