use Rattle.std.proofs.Common.{◌≡◌, Err, subst}
use Rattle.dbus_values.specs.Walk.{State, step}
use Rattle.dbus_values.specs.Parts.{piece}
use Rattle.dbus_values.specs.Places.{place}
use Rattle.dbus_values.proofs.Repeated.{repeats_first, repeats_from}
use Rattle.dbus_values.proofs.runs.next_run.Goals as goal

pub returns-in-Some-clause-exact : goal.returns-in-Some-clause-exact
returns-in-Some-clause-exact c =
    let h = c.in-Some.ensures.exact c.args.big in
    repeats_first c.in-Some.more c.args.limit c.args.big (piece c.in-Some.part) (place c.args.walk.now) h.0 (place c.next_short.new.walk) h.1 h.2

pub returns-in-Ok-clause-exact : goal.returns-in-Ok-clause-exact
returns-in-Ok-clause-exact c = repeats_from c.args.limit c.args.big (piece c.in-Ok.part) (place c.args.walk.now) (place c.next_short.new.walk) (place c.next_in.new.walk) (c.in-None.ensures.exact c.args.big) c.in-Ok.ensures.exact

pub returns-in-Err-clause-exact : goal.returns-in-Err-clause-exact
returns-in-Err-clause-exact c = subst (λ (s : State). step c.args.limit c.args.big s ≡ Err c.in-Err.fault) (c.in-None.ensures.exact c.args.big) c.in-Err.ensures.exact
