-- A run that was handed in nothing.
use Rattle.std.proofs.Common.{◌≡◌, [], refl, sym, subst}
use Rattle.pipe_run.specs.Answered.{Service, fresh}
use Rattle.pipe_run.specs.Stages.{Stage, Start, standing}
use Rattle.pipe_run.proofs.Posting.{posted_none}
use Rattle.pipe_run.proofs.Supplying.{took_none}

pub first_stage : (s : Start) (service : Service) → service ≡ fresh s.limits → Stage s (standing service s.faults s.clock s.salt s.held) []
first_stage s service is = subst (λ (v : Service). Stage s (standing v s.faults s.clock s.salt s.held) []) (sym is) (record {
  given = [];
  handed = refl;
  past = refl;
  limits = refl;
  sent = refl;
  legal = tt;
  moments = took_none s.clock;
  words = took_none s.salt;
  posted = posted_none s.held;
})
