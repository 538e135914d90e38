-- A link that was dialled, or not.
use Rattle.std.proofs.Common.{◌≡◌, ℕ, true, false, List, [], Option, Some, None, Result, Ok, Err, refl, sym, subst, ◌∙◌}
use Rattle.pk_outside.specs.Causes.{Rose}
use Rattle.pk_outside.specs.Links.{Origin, bytes_of}
use Rattle.pk_outside.specs.Refusals.{StationRefusal}
use Rattle.pk_outside.specs.Stations.{StationTold, Dials}
use Rattle.pk_outside.specs.Streams.{Gave}
use Rattle.pk_outside.specs.declared.station.StationRefused.{StationRefused}
use Rattle.pk_outside.specs.declared.station.StationRefused.TheVariants as refused
use Rattle.pk_outside.proofs.Written.{Gave-none}
use Rattle.authority_model.specs.Words.{Bytes}
use Rattle.script_agent.specs.Lines.{LineNow, IsNew, IsSound, dialled}
use Rattle.script_agent.specs.Steps.{DialsNew, IsDialled}
use Rattle.script_agent.specs.Stops.{status_of_refused}
use Rattle.script_agent.proofs.Moves.{Holds-none}

pub dial_refused : (path : Bytes) (before after : Option StationTold) (faults_before faults : ℕ) (why : StationRefused) → after ≡ before → StationRefusal faults_before faults why → DialsNew path before after faults_before faults (Err (status_of_refused why))
dial_refused path before after faults_before faults refused.Failed same rose = (same, rose)
dial_refused path before after faults_before faults refused.NoMemory same cause = same

not_true : false ≡ true → ⊥
not_true e = cc

pub is_dialled : (path : Bytes) (origin : Option Origin) (now : LineNow) → IsNew origin now → IsDialled path now
is_dialled path origin now n = record {
  told = record {
    gave = subst (λ (l : Option Bytes). Gave (bytes_of now.origin) l []) (sym n.left) (subst (λ (o : Option Origin). Gave (bytes_of o) (bytes_of origin) []) (sym n.origin_is) (Gave-none (bytes_of origin)));
    holds = Holds-none now.held n.held;
    ended = λ e. absurd (not_true e);
  };
  rest = n.rest;
  sent = n.sent;
  sound = record { reads = n.reads; writes = n.writes };
}

pub dial_made : (path : Bytes) (before after : Option StationTold) (faults_before faults : ℕ) (origin : Option Origin) (now : LineNow) → Dials path before after origin → IsNew origin now → DialsNew path before after faults_before faults (Ok now)
dial_made path before after faults_before faults origin now d n = (subst (λ (o : Option Origin). Dials path before after o) (sym n.origin_is) d, is_dialled path origin now n)
