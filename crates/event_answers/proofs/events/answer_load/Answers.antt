use Rattle.std.proofs.Common.{not, ap, ◌∙◌}
use Rattle.std.specs.Prelude.{filter}
use Rattle.authority_model.specs.declared.world.World.{World}
use Rattle.entry_changes.specs.Changes.{close_all, stays_listed}
use Rattle.authority_model.specs.Challenges.{pending}
use Rattle.event_answers.specs.Asked.{of_challenges}
use Rattle.event_answers.proofs.events.answer_load.Goals as goal

pub returns-clause-change : goal.returns-clause-change
returns-clause-change g c = λ past l is same _ _ _ _.
    c.challenges_changed.ensures.change
    ∙ ap of_challenges (c.close_places.ensures.change ∙ c.in_ok-ended.ensures.closed past is ∙ ap (λ (w : World). close_all (filter (λ ch. not (stays_listed w ch)) (pending past))) same)
