use Rattle.service_slots.proofs.serving.serve_link.Goals as goal

pub serve_connection-end-requires-clause-may : goal.serve_connection-end-requires-clause-may
serve_connection-end-requires-clause-may g c κs within = rw c.uid-uid.ensures c.requires.may

pub serve_live_connection-end-requires-clause-may : goal.serve_live_connection-end-requires-clause-may
serve_live_connection-end-requires-clause-may g c κs within = rw c.uid-uid.ensures c.requires.may
