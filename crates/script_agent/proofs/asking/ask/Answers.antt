-- A helper that is dialled where it was not before.
use Rattle.std.proofs.Common.{◌≡◌, ◌∙◌, refl, sym, subst, Bool, Option, Some, None, Result, OnOk, ◌+◌, ◌<◌, ◌≤◌, ◌^◌, arith}
use Rattle.pk_outside.specs.Stations.{Dials}
use Rattle.pk_outside.specs.Links.{Origin}
use Rattle.script_agent.specs.declared.status.AgentStatus.{AgentStatus}
use Rattle.script_agent.specs.Lines.{LineNow}
use Rattle.script_agent.specs.Steps.{Asks, DialsHelper, sent_to}
use Rattle.script_agent.proofs.Fronts.{err_along}
use Rattle.script_agent.proofs.Steering.{ask_undialled, asks_again, asks_first, one_at_most, one_more_sent, undialled_same}
use Rattle.script_agent.proofs.asking.ask.Goals as goal

pub consult-result-requires-clause-room : goal.consult-result-requires-clause-room
consult-result-requires-clause-room g c κs within = subst (λ (h : Option LineNow). sent_to h + 1 < 2 ^ 32) (sym c.take.ensures.value ∙ c.in-Some.is) c.requires.room

pub consult-result-requires-clause-free : goal.consult-result-requires-clause-free
consult-result-requires-clause-free g c κs within = c.requires.free_link

pub returns-in-Some-clause-asks : goal.returns-in-Some-clause-asks
returns-in-Some-clause-asks g c =
    subst (λ (h : Option LineNow). Asks c.args.path.now c.args.cookie.now c.args.uid (g.N.Station.faults c.args.station.now) (g.N.Station.faults c.args.station.now) h (Some c.consult-result.new.self) c.consult-result.result) (sym (sym c.take.ensures.value ∙ c.in-Some.is))
    (asks_again c.args.path.now c.args.cookie.now c.args.uid _ _ c.in-Some.line c.consult-result.new.self c.consult-result.result (λ asks line h. c.consult-result.ensures.consults.from c.args.path.now asks line h))

pub returns-in-Some-clause-dials : goal.returns-in-Some-clause-dials
returns-in-Some-clause-dials g c =
    subst (λ (h : Option LineNow). DialsHelper c.args.path.now (g.N.Station.told c.args.station.now) (g.N.Station.told c.args.station.now) h (Some c.consult-result.new.self)) (sym (sym c.take.ensures.value ∙ c.in-Some.is)) (refl, c.consult-result.ensures.consults.origin)

pub returns-in-Some-clause-later : goal.returns-in-Some-clause-later
returns-in-Some-clause-later g c = omega arith

pub returns-in_err-line-in-None-clause-asks : goal.returns-in_err-line-in-None-clause-asks
returns-in_err-line-in-None-clause-asks g c =
    let P : Result Bool AgentStatus → Type 0 = λ r. Asks c.args.path.now c.args.cookie.now c.args.uid (g.N.Station.faults c.args.station.now) (g.N.Station.faults c.dial.new.station) None None r in
    subst (λ (h : Option LineNow). Asks c.args.path.now c.args.cookie.now c.args.uid (g.N.Station.faults c.args.station.now) (g.N.Station.faults c.dial.new.station) h c.take.new.self c.from_residual.result) (sym (sym c.take.ensures.value ∙ c.in-None.is))
    (subst (λ (h : Option LineNow). Asks c.args.path.now c.args.cookie.now c.args.uid (g.N.Station.faults c.args.station.now) (g.N.Station.faults c.dial.new.station) None h c.from_residual.result) (sym c.take.ensures.after)
    (err_along P c.from_residual.result c.in_err-line-in-None.field-0.0 c.from_residual.ensures.1 (λ asks line at. ask_undialled c.args.path.now asks line c.args.cookie.now c.args.uid _ _ _ _ c.in_err-line-in-None.field-0.0 at c.in_err-line-in-None.ensures.dials)))

pub returns-in_err-line-in-None-clause-dials : goal.returns-in_err-line-in-None-clause-dials
returns-in_err-line-in-None-clause-dials g c =
    subst (λ (h : Option LineNow). DialsHelper c.args.path.now (g.N.Station.told c.args.station.now) (g.N.Station.told c.dial.new.station) h c.take.new.self) (sym (sym c.take.ensures.value ∙ c.in-None.is))
    (subst (λ (h : Option LineNow). DialsHelper c.args.path.now (g.N.Station.told c.args.station.now) (g.N.Station.told c.dial.new.station) None h) (sym c.take.ensures.after)
    (undialled_same c.args.path.now _ _ _ _ c.in_err-line-in-None.field-0.0 c.in_err-line-in-None.ensures.dials))

pub returns-in_err-line-in-None-clause-later : goal.returns-in_err-line-in-None-clause-later
returns-in_err-line-in-None-clause-later g c = c.in_err-line-in-None.ensures.later

pub introduce-result-requires-clause-rest : goal.introduce-result-requires-clause-rest
introduce-result-requires-clause-rest g c κs within = c.in_ok-line-in-None.ensures.dials.1.rest

pub introduce-result-requires-clause-sent : goal.introduce-result-requires-clause-sent
introduce-result-requires-clause-sent g c κs within = c.in_ok-line-in-None.ensures.dials.1.sent

pub introduce-result-requires-clause-free : goal.introduce-result-requires-clause-free
introduce-result-requires-clause-free g c κs within = c.requires.free_link

pub returns-in_ok-line-in-None-clause-asks : goal.returns-in_ok-line-in-None-clause-asks
returns-in_ok-line-in-None-clause-asks g c =
    subst (λ (h : Option LineNow). Asks c.args.path.now c.args.cookie.now c.args.uid (g.N.Station.faults c.args.station.now) (g.N.Station.faults c.dial.new.station) h (Some c.introduce-result.new.self) c.introduce-result.result) (sym (sym c.take.ensures.value ∙ c.in-None.is))
    (asks_first c.args.path.now c.args.cookie.now c.args.uid _ _ c.introduce-result.new.self c.introduce-result.result (c.introduce-result.ensures.introduces.from c.args.path.now c.in_ok-line-in-None.ensures.dials.1))

pub returns-in_ok-line-in-None-clause-dials : goal.returns-in_ok-line-in-None-clause-dials
returns-in_ok-line-in-None-clause-dials g c =
    subst (λ (h : Option LineNow). DialsHelper c.args.path.now (g.N.Station.told c.args.station.now) (g.N.Station.told c.dial.new.station) h (Some c.introduce-result.new.self)) (sym (sym c.take.ensures.value ∙ c.in-None.is))
    (subst (λ (o : Option Origin). Dials c.args.path.now (g.N.Station.told c.args.station.now) (g.N.Station.told c.dial.new.station) o) (sym c.introduce-result.ensures.introduces.origin) c.in_ok-line-in-None.ensures.dials.0)

pub returns-in_ok-line-in-None-clause-later : goal.returns-in_ok-line-in-None-clause-later
returns-in_ok-line-in-None-clause-later g c = c.in_ok-line-in-None.ensures.later

pub returns-in-Some-clause-sent : goal.returns-in-Some-clause-sent
returns-in-Some-clause-sent g c =
    subst (λ (h : Option LineNow). OnOk c.consult-result.result (c.consult-result.new.self.sent ≤ sent_to h + 1)) (sym (sym c.take.ensures.value ∙ c.in-Some.is)) (one_more_sent c.consult-result.result _ _ c.consult-result.ensures.sent)

pub returns-in_err-line-in-None-clause-sent : goal.returns-in_err-line-in-None-clause-sent
returns-in_err-line-in-None-clause-sent g c =
    err_along (λ (r : Result Bool AgentStatus). OnOk r (sent_to c.take.new.self ≤ sent_to c.args.helper.now + 1)) c.from_residual.result c.in_err-line-in-None.field-0.0 c.from_residual.ensures.1 tt

pub returns-in_ok-line-in-None-clause-sent : goal.returns-in_ok-line-in-None-clause-sent
returns-in_ok-line-in-None-clause-sent g c = one_at_most c.introduce-result.result _ _ c.introduce-result.ensures.sent
