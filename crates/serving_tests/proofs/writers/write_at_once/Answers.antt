use Rattle.serving_tests.proofs.writers.write_at_once.Goals as goal

pub write_answers-requires-clause-may : goal.write_answers-requires-clause-may
write_answers-requires-clause-may g c κs within = λ h collects journal licensed did front is. tt
