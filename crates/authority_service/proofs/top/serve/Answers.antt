use Rattle.std.proofs.Common.{◌≡◌, ◌∙◌, List, ℕ, inl, inr, refl, subst}
use Rattle.pk_outside.specs.Streams.{Got, GotFront}
use Rattle.authority_service.specs.declared.opening.Unbegun.{Unbegun}
use Rattle.authority_service.specs.Begun.{UnbegunCause}
use Rattle.authority_service.specs.Lines.{opening_text}
use Rattle.authority_service.proofs.Closing.{doors_none}
use Rattle.authority_service.proofs.Promised.{may_close, may_open}
use Rattle.authority_service.proofs.RunsEnd.{run_same}
use Rattle.authority_service.proofs.Serving.{refused_serves, serves_told, unbegun_short}
use Rattle.authority_service.proofs.top.serve.Goals as goal

pub write_all-requires-clause-may : goal.write_all-requires-clause-may
write_all-requires-clause-may g c κs within =
    may_open g.O.Sink.allowed _ c.args.plan.now c.in-Ok.first c.as_slice.result.now (c.as_slice.ensures.items ∙ c.in-Ok-opening_text.ensures.text) (c.requires.may c.in-Ok.first c.in-Ok.ensures.load)

pub tell-requires-clause-may : goal.tell-requires-clause-may
tell-requires-clause-may g c κs within =
    may_close g.O.Sink.allowed (g.O.Sink.held c.args.output.now) _ c.args.plan.now c.in-Ok.first c.as_slice.result.now _ c.in-Ok-run.ran.authority.history c.in-Ok-run.ran.slots.items c.in-Ok-run.ran.cause
    (c.as_slice.ensures.items ∙ c.in-Ok-opening_text.ensures.text) c.in-Ok-write_all.ensures.ok c.in-Ok-run.ensures.runs (c.requires.may c.in-Ok.first c.in-Ok.ensures.load)

pub returns-in-Err : goal.returns-in-Err
returns-in-Err g c = record {
  served = rw c.end_of_refused.ensures (refused_serves c.args.plan.now _ c.in-Err.refused c.in-Err.ensures.load c.in-Err.ensures.fault (record { station = refl; station_faults = refl; held = refl; write_faults = refl }));
}

pub returns-in-Err-write_all : goal.returns-in-Err-write_all
returns-in-Err-write_all g c =
    let first = c.in-Ok.first in
    let plan = c.args.plan.now in
    let failed = c.in-Err-write_all.ensures.cause.failed in
    let bytes : c.as_slice.result.now ≡ opening_text plan.audit first = c.as_slice.ensures.items ∙ c.in-Ok-opening_text.ensures.text in
    record {
      served = (
        failed,
        refl,
        inl (record {
          first = first;
          is_first = c.in-Ok.ensures.load;
          doors = 0;
          back = doors_none plan (g.N.Station.told c.args.station.now);
          unserved = (λ none. none);
          written = inr (subst (λ (b : List ℕ). GotFront (g.O.Sink.held c.args.output.now) (g.O.Sink.held c.write_all.new.output) b) bytes c.in-Err-write_all.ensures.err, failed);
        }),
      );
    }

pub returns-in-Ok-run : goal.returns-in-Ok-run
returns-in-Ok-run g c =
    let first = c.in-Ok.first in
    let plan = c.args.plan.now in
    let ran = c.in-Ok-run.ran in
    let bytes : c.as_slice.result.now ≡ opening_text plan.audit first = c.as_slice.ensures.items ∙ c.in-Ok-opening_text.ensures.text in
    let got = subst (λ (b : List ℕ). Got (g.O.Sink.held c.args.output.now) (g.O.Sink.held c.write_all.new.output) b) bytes c.in-Ok-write_all.ensures.ok in
    let run = run_same plan first _ (g.F.Tree.told c.args.tree.now) ran.authority.history ran.slots.items ran.cause c.load_beside.ensures.same c.in-Ok-run.ensures.runs in
    record {
      served = serves_told plan first _ ran.authority.history ran.slots.items ran.cause (g.O.Sink.held c.write_all.new.output) (g.O.Sink.faults c.write_all.new.output) c.tell.result
          run c.in-Ok.ensures.load got c.in-Ok-write_all.ensures.quiet c.tell.ensures.told;
    }

pub returns-in-Err-DoorFault : goal.returns-in-Err-DoorFault
returns-in-Err-DoorFault g c =
    let first = c.in-Ok.first in
    let plan = c.args.plan.now in
    let bytes : c.as_slice.result.now ≡ opening_text plan.audit first = c.as_slice.ensures.items ∙ c.in-Ok-opening_text.ensures.text in
    let got = subst (λ (b : List ℕ). Got (g.O.Sink.held c.args.output.now) (g.O.Sink.held c.write_all.new.output) b) bytes c.in-Ok-write_all.ensures.ok in
    let short = c.in-Err-DoorFault.ensures.runs in
    record {
      served = (
        subst (λ (why : Unbegun). UnbegunCause (g.N.Station.faults c.args.station.now) (g.N.Station.faults c.run.new.station) why) c.in-Err-DoorFault.field-0-is short.cause,
        inl (unbegun_short plan first _ _ _ _ _ _ refl refl short c.in-Ok.ensures.load (inl (got, c.in-Ok-write_all.ensures.quiet))),
      );
    }

pub returns : goal.returns
returns g c =
    let first = c.in-Ok.first in
    let plan = c.args.plan.now in
    let bytes : c.as_slice.result.now ≡ opening_text plan.audit first = c.as_slice.ensures.items ∙ c.in-Ok-opening_text.ensures.text in
    let got = subst (λ (b : List ℕ). Got (g.O.Sink.held c.args.output.now) (g.O.Sink.held c.write_all.new.output) b) bytes c.in-Ok-write_all.ensures.ok in
    record {
      served = inr (inl (unbegun_short plan first _ _ _ _ _ _ refl refl c.in-Err-NoMemory.ensures.runs c.in-Ok.ensures.load (inl (got, c.in-Ok-write_all.ensures.quiet))));
    }
