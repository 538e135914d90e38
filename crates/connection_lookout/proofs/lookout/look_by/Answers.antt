use Rattle.std.proofs.Common.{ℕ, Option, subst}
use Rattle.std.specs.Prelude.{is_err}
use Rattle.connection_lookout.proofs.Lookouts.{met_once}
use Rattle.connection_lookout.specs.Watching.{LooksAt, Watch, watch}
use Rattle.connection_lookout.proofs.lookout.look_by.Goals as goal

-- one look, between two meetings
pub returns : goal.returns
returns g c =
    let m = c.meet in
    let l = c.look_at-looked in
    let n = c.meet-2 in
    let left = g.G.Sights.left c.args.sights.now in
    let gave = g.G.Sights.gave c.args.sights.now in
    let left_now = g.G.Sights.left l.new.sights in
    let gave_now = g.G.Sights.gave l.new.sights in
    let v : Watch = watch c.args.sighter.now left gave in
    let w : Watch = watch n.new.second left_now gave_now in
    record {
      looks = subst (λ (named : Option (ℕ × ℕ)). LooksAt named c.args.pass.now n.new.first v w (is_err l.result)) c.in-Some.ensures.process (record {
        met = m.new.first;
        before = watch m.new.second left gave;
        after = watch l.new.sighter left_now gave_now;
        learned = m.ensures.first;
        first = met_once m.new.first c.args.sighter.now m.new.second left gave m.ensures.second m.ensures.equal.0 m.ensures.equal.1 m.ensures.equal.2;
        took = l.ensures.took;
        knows = n.ensures.first;
        second = met_once n.new.first l.new.sighter n.new.second left_now gave_now n.ensures.second n.ensures.equal.0 n.ensures.equal.1 n.ensures.equal.2;
      });
      cause = l.ensures.cause;
    }
