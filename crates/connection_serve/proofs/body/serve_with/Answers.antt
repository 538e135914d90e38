use Rattle.std.proofs.Common.{◌∙◌, ◌≢◌, ℕ, List, inl, inr, sym, subst, arith}
use Rattle.authority_model.specs.declared.journal.Item.{Item}
use Rattle.connection_serve.proofs.Lookings.{early_looked, knows_met, late_wrote}
use Rattle.connection_serve.proofs.Serving.{early_serves, late_serves}
use Rattle.connection_serve.specs.Ends.{plain_of}
use Rattle.connection_serve.specs.Halves.{HasBegun}
use Rattle.history_lock.specs.Entries.{NoneBy}
use Rattle.shared_authority.specs.Journals.{caller_of}
use Rattle.connection_serve.proofs.Promising.{answers_may, greeting_may}
use Rattle.connection_serve.proofs.body.serve_with.Goals as goal

pub serve_messages-requires-clause-connection : goal.serve_messages-requires-clause-connection
serve_messages-requires-clause-connection g c κs within = let above = c.requires.fresh.pass_above in let some : c.args.pass.now.number ≢ 0 = omega (arith, above) in some

pub serve_messages-requires-clause-fresh_collector : goal.serve_messages-requires-clause-fresh_collector
serve_messages-requires-clause-fresh_collector g c κs within = subst (λ (h : List Item). NoneBy caller_of c.args.collector.now.number h) c.requires.fresh.same c.requires.fresh.none_by_collector

pub returns-in-Ok-clause-served : goal.returns-in-Ok-clause-served
returns-in-Ok-clause-served g c =
    let n = c.serve_messages.new in
    let laws = g.met.I.Source g.world.𝓛 g.world.𝓜 g.world.𝓡 ((λ s x. x), (λ x. x), (λ x. x), λ x. x) in
    let begun = subst (λ (rest : List ℕ). HasBegun c.args.uid c.word-guid.result (g.I.Source.left c.args.source.now) (g.I.Source.left c.greet.new.source) (g.O.Sink.held c.args.sink.now) (g.O.Sink.held c.greet.new.sink) rest) (sym c.new-inbox.ensures.same) c.in-Ok.ensures.greets.0 in
    (late_serves g.L.LimitsName.limits c.args.uid c.word-guid.result c.args.pass.now n.pass c.args.collector.now n.collector _ _ _ _ _ _ _ _ _ _ _ c.new-inbox.result n.inbox _ _ _ _ _ _ _ _ _ (plain_of c.serve_messages.result)
    c.requires.fresh (begun, c.in-Ok.ensures.greets.1, c.in-Ok.ensures.greets.2) c.word-guid.ensures.gave (laws.ended_is_used_up n.source) c.serve_messages.ensures.meets).0

pub returns-in-Ok-clause-collected : goal.returns-in-Ok-clause-collected
returns-in-Ok-clause-collected g c =
    let n = c.serve_messages.new in
    let laws = g.met.I.Source g.world.𝓛 g.world.𝓜 g.world.𝓡 ((λ s x. x), (λ x. x), (λ x. x), λ x. x) in
    let begun = subst (λ (rest : List ℕ). HasBegun c.args.uid c.word-guid.result (g.I.Source.left c.args.source.now) (g.I.Source.left c.greet.new.source) (g.O.Sink.held c.args.sink.now) (g.O.Sink.held c.greet.new.sink) rest) (sym c.new-inbox.ensures.same) c.in-Ok.ensures.greets.0 in
    (late_serves g.L.LimitsName.limits c.args.uid c.word-guid.result c.args.pass.now n.pass c.args.collector.now n.collector _ _ _ _ _ _ _ _ _ _ _ c.new-inbox.result n.inbox _ _ _ _ _ _ _ _ _ (plain_of c.serve_messages.result)
    c.requires.fresh (begun, c.in-Ok.ensures.greets.1, c.in-Ok.ensures.greets.2) c.word-guid.ensures.gave (laws.ended_is_used_up n.source) c.serve_messages.ensures.meets).1

pub returns-in-Ok-clause-origin : goal.returns-in-Ok-clause-origin
returns-in-Ok-clause-origin g c = c.serve_messages.ensures.origin ∙ c.in-Ok.ensures.origin

pub returns-in-Ok-clause-both : goal.returns-in-Ok-clause-both
returns-in-Ok-clause-both g c = let m = c.serve_messages.ensures.meets in (sym m.same_history, sym m.same_made, sym m.same_ended)

pub returns-in-Err-clause-served : goal.returns-in-Err-clause-served
returns-in-Err-clause-served g c =
    let m = c.meet.ensures in
    (early_serves g.L.LimitsName.limits c.args.uid c.word-guid.result c.args.pass.now c.meet.new.pass c.args.collector.now c.meet.new.collector _ _ _ _ (g.C.Clock.gave c.args.clock.now) _ _ _ _ _ _ c.in-Err.end
    c.requires.fresh c.in-Err.ensures.greets c.word-guid.ensures.gave m.first m.second m.equal.0).0

pub returns-in-Err-clause-collected : goal.returns-in-Err-clause-collected
returns-in-Err-clause-collected g c =
    let m = c.meet.ensures in
    (early_serves g.L.LimitsName.limits c.args.uid c.word-guid.result c.args.pass.now c.meet.new.pass c.args.collector.now c.meet.new.collector _ _ _ _ (g.C.Clock.gave c.args.clock.now) _ _ _ _ _ _ c.in-Err.end
    c.requires.fresh c.in-Err.ensures.greets c.word-guid.ensures.gave m.first m.second m.equal.0).1

pub returns-in-Err-clause-both : goal.returns-in-Err-clause-both
returns-in-Err-clause-both g c = let m = c.meet.ensures in (sym m.equal.0, sym m.equal.1, sym m.equal.2)

pub greet-requires-clause-may : goal.greet-requires-clause-may
greet-requires-clause-may g c κs within = greeting_may g.O.Sink.allowed (g.O.Sink.held c.args.sink.now) c.args.uid c.word-guid.result c.args.collector.now.number c.args.pass.now.number c.requires.may

pub serve_messages-requires-clause-may : goal.serve_messages-requires-clause-may
serve_messages-requires-clause-may g c κs within =
    let begun = c.in-Ok.ensures.greets.0 in
    answers_may g.O.Sink.allowed (g.O.Sink.held c.args.sink.now) (g.O.Sink.held c.greet.new.sink) c.args.uid c.word-guid.result c.args.collector.now.number c.args.pass.now.number begun.read c.in-Ok.buffer c.requires.may begun.settles

pub returns-in-Ok-clause-looked : goal.returns-in-Ok-clause-looked
returns-in-Ok-clause-looked g c = inr c.serve_messages.ensures.looked

pub returns-in-Ok-clause-wrote : goal.returns-in-Ok-clause-wrote
returns-in-Ok-clause-wrote g c = late_wrote c.serve_messages.result c.args.pass.now.number c.serve_messages.new.pass.history _ _ _ _ c.in-Ok.ensures.greets.0.settles.wrote c.serve_messages.ensures.wrote

pub returns-in-Err-clause-looked : goal.returns-in-Err-clause-looked
returns-in-Err-clause-looked g c =
    inl (early_looked c.args.pass.now c.meet.new.pass _ _ c.requires.fresh.none_by_pass c.meet.ensures.first c.requires.fresh_sighter (c.meet.ensures.third (g.G.Sights.left c.args.sights.now) (g.G.Sights.gave c.args.sights.now)))

pub returns-in-Err-clause-third : goal.returns-in-Err-clause-third
returns-in-Err-clause-third g c = knows_met c.meet.new.pass _ _ (c.meet.ensures.third (g.G.Sights.left c.args.sights.now) (g.G.Sights.gave c.args.sights.now))
