use Rattle.serving_tests.proofs.connections.is_served.Goals as goal

pub serve_connection-end-requires-clause-may : goal.serve_connection-end-requires-clause-may
serve_connection-end-requires-clause-may g c κs within = λ guid read h collects journal licensed did front is. tt
