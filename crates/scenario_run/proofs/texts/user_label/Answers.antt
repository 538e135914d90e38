use Rattle.scenario_run.proofs.texts.user_label.Goals as goal

pub returns : goal.returns
returns c = record { value = rw c.as_slice.ensures at c.label.ensures.value }
