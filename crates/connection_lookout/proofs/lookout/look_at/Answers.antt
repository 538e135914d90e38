use Rattle.std.proofs.Common.{false, true, ap, sym, ◌∙◌, refl, inl}
use Rattle.std.specs.Prelude.{not}
use Rattle.connection_lookout.proofs.Lookouts.{failed_not_ended, living_not_ended, look_cause, one_look}
use Rattle.connection_lookout.specs.Watching.{Watch, watch}
use Rattle.connection_lookout.proofs.lookout.look_at.Goals as goal

pub returns-then-has_failed : goal.returns-then-has_failed
returns-then-has_failed g c =
    let s = c.sight-sighted in
    let v : Watch = watch c.args.sighter.now (g.G.Sights.left c.args.sights.now) (g.G.Sights.gave c.args.sights.now) in
    let w : Watch = watch c.args.sighter.now (g.G.Sights.left s.new.self) (g.G.Sights.gave s.new.self) in
    let failed = c.has_failed.ensures.failed ∙ ap not c.if-has_failed.true in
    record {
      took = one_look c.args.pid c.args.start v w s.result false true s.ensures.next s.ensures.gave failed (inl refl) (λ is. absurd (cc (is))) (λ is. absurd (failed_not_ended c.args.start s.result failed is));
      cause = look_cause (g.G.Sights.faults c.args.sights.now) (g.G.Sights.faults s.new.self) s.result true failed s.ensures.cause;
    }

pub returns-then-has_ended : goal.returns-then-has_ended
returns-then-has_ended g c =
    let s = c.sight-sighted in
    let v : Watch = watch c.args.sighter.now (g.G.Sights.left c.args.sights.now) (g.G.Sights.gave c.args.sights.now) in
    let w : Watch = watch c.take_out.new.sighter (g.G.Sights.left s.new.self) (g.G.Sights.gave s.new.self) in
    let seen = c.has_failed.ensures.failed ∙ ap not c.if-has_failed.false in
    let out = c.take_out.ensures.out in
    record {
      took = one_look c.args.pid c.args.start v w s.result out.0 false s.ensures.next s.ensures.gave seen out.1 (λ _. sym c.has_ended.ensures.ended ∙ c.if-has_ended.true) (λ _. out.2);
      cause = look_cause (g.G.Sights.faults c.args.sights.now) (g.G.Sights.faults s.new.self) s.result false seen s.ensures.cause;
    }

pub returns-else-has_ended : goal.returns-else-has_ended
returns-else-has_ended g c =
    let s = c.sight-sighted in
    let v : Watch = watch c.args.sighter.now (g.G.Sights.left c.args.sights.now) (g.G.Sights.gave c.args.sights.now) in
    let w : Watch = watch c.args.sighter.now (g.G.Sights.left s.new.self) (g.G.Sights.gave s.new.self) in
    let seen = c.has_failed.ensures.failed ∙ ap not c.if-has_failed.false in
    record {
      took = one_look c.args.pid c.args.start v w s.result false false s.ensures.next s.ensures.gave seen (inl refl) (λ is. absurd (cc (is))) (λ is. absurd (living_not_ended _ (sym c.has_ended.ensures.ended ∙ c.if-has_ended.false) is));
      cause = look_cause (g.G.Sights.faults c.args.sights.now) (g.G.Sights.faults s.new.self) s.result false seen s.ensures.cause;
    }
