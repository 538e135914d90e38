-- The parts of the handshake, one after another.
use Rattle.std.proofs.Common.{◌≡◌, ◌∙◌, [], ◌++◌, refl, ap, ap₂, sym, subst, List, ℕ}
use Rattle.pk_outside.proofs.Written.{Gave-none, Got-more, Got-none}
use Rattle.client_link.specs.declared.stop.LinkStop.TheVariants as stop
use Rattle.client_link.specs.Shakings.{client_bytes}
use Rattle.client_link.proofs.Refused.{accepts_stopped, front_begin, front_first, shakes_refused}
use Rattle.client_link.proofs.shaking.shake_hands.Goals as goal

pub returns-in_err-first-clause-shakes : goal.returns-in_err-first-clause-shakes
returns-in_err-first-clause-shakes g c =
    shakes_refused _ _ _ _ _ _ _ c.from_residual.result stop.NoMemory c.from_residual.ensures.1
    (record { read = []; written = []; gave = Gave-none _; got = Got-none _; shakes = (client_bytes c.args.uid, refl) })

pub returns-in_err-write_all-clause-shakes : goal.returns-in_err-write_all-clause-shakes
returns-in_err-write_all-clause-shakes g c =
    let f = c.in_err-write_all.ensures.err in
    shakes_refused _ _ _ _ _ _ _ c.from_residual-in_err-write_all.result stop.Failed c.from_residual-in_err-write_all.ensures.1
    (record { read = []; written = f.1.0; gave = Gave-none _; got = f.1.2; shakes = front_first c.args.uid c.as_slice.result.now f.1.0 f.0 (c.as_slice.ensures.items ∙ c.in_ok-first.ensures.bytes) f.1.1 })

pub returns-in_err-await_acceptance-clause-shakes : goal.returns-in_err-await_acceptance-clause-shakes
returns-in_err-await_acceptance-clause-shakes g c =
    let a = c.in_err-await_acceptance.ensures.accepts in
    shakes_refused _ _ _ _ _ _ _ c.from_residual-in_err-await_acceptance.result c.in_err-await_acceptance.field-0.0 c.from_residual-in_err-await_acceptance.ensures.1
    (record {
      read = a.0;
      written = c.as_slice.result.now;
      gave = a.1;
      got = c.in_ok-write_all.ensures.ok;
      shakes = accepts_stopped c.args.uid _ a.0 c.await_acceptance.new.buffer c.as_slice.result.now c.in_err-await_acceptance.field-0.0 a.2 (c.as_slice.ensures.items ∙ c.in_ok-first.ensures.bytes);
    })

pub returns-in_err-write_all-2-clause-shakes : goal.returns-in_err-write_all-2-clause-shakes
returns-in_err-write_all-2-clause-shakes g c =
    let a = c.in_ok-await_acceptance.ensures.accepts in
    let f = c.in_err-write_all-2.ensures.err in
    shakes_refused _ _ _ _ _ _ _ c.from_residual-in_err-write_all-2.result stop.Failed c.from_residual-in_err-write_all-2.ensures.1
    (record {
      read = a.0;
      written = c.as_slice.result.now ++ f.1.0;
      gave = a.1;
      got = Got-more _ _ _ c.as_slice.result.now f.1.0 c.in_ok-write_all.ensures.ok f.1.2;
      shakes = front_begin c.args.uid c.as_slice.result.now c.as_bytes.result.now f.1.0 f.0 (c.as_slice.ensures.items ∙ c.in_ok-first.ensures.bytes) c.as_bytes.ensures.value f.1.1;
    })

pub returns-clause-shakes : goal.returns-clause-shakes
returns-clause-shakes g c =
    let a = c.in_ok-await_acceptance.ensures.accepts in
    record {
      read = a.0;
      written = c.as_slice.result.now ++ c.as_bytes.result.now;
      gave = a.1;
      got = Got-more _ _ _ c.as_slice.result.now c.as_bytes.result.now c.in_ok-write_all.ensures.ok c.in_ok-write_all-2.ensures.ok;
      shakes = (a.2, ap₂ (λ (x y : List ℕ). x ++ y) (c.as_slice.ensures.items ∙ c.in_ok-first.ensures.bytes) c.as_bytes.ensures.value);
    }
