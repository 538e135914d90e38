use Rattle.std.proofs.Common.{sym}
use Rattle.authority_model.proofs.FirstPlace.{before_first-Some, before_first-None}
use Rattle.serve_loader.specs.Wanted.{is_stop_wanted}
use Rattle.serve_loader.proofs.wanted.before_stop.Goals as goal

pub returns-in-Some : goal.returns-in-Some
returns-in-Some c = record { before = sym (before_first-Some is_stop_wanted c.args.outputs.now c.in-Some.end (sym c.in-Some.ensures.first)) }

pub returns-in-None : goal.returns-in-None
returns-in-None c = record { before = sym (before_first-None is_stop_wanted c.args.outputs.now (sym c.in-None.ensures.first)) }
