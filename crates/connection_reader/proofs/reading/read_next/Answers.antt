-- What the next message asks is handed in, or more is read, or nothing more comes.
use Rattle.std.proofs.Common.{◌≡◌, List, ℕ, ◌++◌, drop, ap, sym, ◌∙◌, subst}
use Rattle.std.specs.Result.{MatchResult}
use Rattle.dbus_values.specs.Next.{next_of}
use Rattle.usual_calls.specs.Nexts.{Asks}
use Rattle.connection_lookout.specs.Watching.{watch_of}
use Rattle.connection_reader.specs.Reading.{Hand, IsRefused, IsUnderway, hand}
use Rattle.connection_reader.proofs.Readings.{look_failed, message_entered, message_refused, more_read}
use Rattle.connection_reader.proofs.Stopping.{handed_on}
use Rattle.connection_reader.proofs.reading.read_next.Goals as goal

pub returns-in-Partial-clause-reads : goal.returns-in-Partial-clause-reads
returns-in-Partial-clause-reads g c uid s r =
    let t : Hand = hand c.args.pass.now (g.I.Source.left c.args.source.now) (g.C.Clock.gave c.args.clock.now) (g.S.Salt.gave c.args.salt.now) c.args.inbox.now (watch_of c.args.sighter.now (g.G.Sights.left c.args.sights.now) (g.G.Sights.gave c.args.sights.now)) in
    let on = c.read_on.ensures.reads in
    subst (λ (l : List ℕ). IsUnderway uid s (hand t.pass (g.I.Source.left c.read_on.new.source) t.readings t.words l t.watch)) (sym (on.behind ∙ ap (λ (l : List ℕ). l ++ on.more) c.next_event.ensures.same))
    (more_read uid s t (g.I.Source.left c.read_on.new.source) on.more r on.gave)

pub returns-in-Bad-clause-stops : goal.returns-in-Bad-clause-stops
returns-in-Bad-clause-stops g c = ap next_of c.next_event.ensures.same ∙ c.in-Bad.ensures.exact

pub returns-in_ok-hand_in-in-Whole-clause-reads : goal.returns-in_ok-hand_in-in-Whole-clause-reads
returns-in_ok-hand_in-in-Whole-clause-reads g c uid s r =
    let t : Hand = hand c.args.pass.now (g.I.Source.left c.args.source.now) (g.C.Clock.gave c.args.clock.now) (g.S.Salt.gave c.args.salt.now) c.args.inbox.now (watch_of c.args.sighter.now (g.G.Sights.left c.args.sights.now) (g.G.Sights.gave c.args.sights.now)) in
    let asks : Asks t.unread c.in-Whole.event c.in-Whole.used = c.in-Whole.ensures.exact in
    let taken : c.take-by.new.self ≡ drop c.in-Whole.used t.unread = c.take-by.ensures.taken ∙ ap (drop c.in-Whole.used) c.next_event.ensures.same in
    let w = watch_of c.look_before.new.sighter (g.G.Sights.left c.look_before.new.sights) (g.G.Sights.gave c.look_before.new.sights) in
    subst (λ (l : List ℕ). IsUnderway uid s (hand c.hand_in.new.pass t.left (g.C.Clock.gave c.hand_in.new.clock) (g.S.Salt.gave c.hand_in.new.salt) l w)) (sym taken)
    (message_entered g.L.LimitsName.limits uid s t r c.hand_in.new.pass (g.C.Clock.gave c.hand_in.new.clock) (g.S.Salt.gave c.hand_in.new.salt) asks.message c.in-Whole.used asks.form c.in-Whole.event asks.asks c.look_before.new.pass w c.in-Ok.ensures.looks _ c.in_ok-hand_in-in-Whole.ensures.hands)

pub returns-in_err-hand_in-in-Whole-clause-reads : goal.returns-in_err-hand_in-in-Whole-clause-reads
returns-in_err-hand_in-in-Whole-clause-reads g c uid s r =
    let t : Hand = hand c.args.pass.now (g.I.Source.left c.args.source.now) (g.C.Clock.gave c.args.clock.now) (g.S.Salt.gave c.args.salt.now) c.args.inbox.now (watch_of c.args.sighter.now (g.G.Sights.left c.args.sights.now) (g.G.Sights.gave c.args.sights.now)) in
    let asks : Asks t.unread c.in-Whole.event c.in-Whole.used = c.in-Whole.ensures.exact in
    let taken : c.take-by.new.self ≡ drop c.in-Whole.used t.unread = c.take-by.ensures.taken ∙ ap (drop c.in-Whole.used) c.next_event.ensures.same in
    let w = watch_of c.look_before.new.sighter (g.G.Sights.left c.look_before.new.sights) (g.G.Sights.gave c.look_before.new.sights) in
    let now = λ (l : List ℕ). hand c.hand_in.new.pass t.left (g.C.Clock.gave c.hand_in.new.clock) (g.S.Salt.gave c.hand_in.new.salt) l w in
    handed_on (λ result. MatchResult result (λ _. IsUnderway uid s (now c.take-by.new.self)) (λ _. IsRefused uid s (now c.take-by.new.self))) c.from_residual.result c.in_err-hand_in-in-Whole.field-0.0 c.from_residual.ensures.1
    (subst (λ (l : List ℕ). IsRefused uid s (now l)) (sym taken)
    (message_refused g.L.LimitsName.limits uid s t r c.hand_in.new.pass (g.C.Clock.gave c.hand_in.new.clock) (g.S.Salt.gave c.hand_in.new.salt) asks.message c.in-Whole.used asks.form c.in-Whole.event asks.asks c.look_before.new.pass w c.in-Ok.ensures.looks c.in_err-hand_in-in-Whole.field-0.0 c.in_err-hand_in-in-Whole.ensures.hands))

pub returns-in-Err-clause-reads : goal.returns-in-Err-clause-reads
returns-in-Err-clause-reads g c uid s r =
    let t : Hand = hand c.args.pass.now (g.I.Source.left c.args.source.now) (g.C.Clock.gave c.args.clock.now) (g.S.Salt.gave c.args.salt.now) c.args.inbox.now (watch_of c.args.sighter.now (g.G.Sights.left c.args.sights.now) (g.G.Sights.gave c.args.sights.now)) in
    let w = watch_of c.look_before.new.sighter (g.G.Sights.left c.look_before.new.sights) (g.G.Sights.gave c.look_before.new.sights) in
    subst (λ (l : List ℕ). IsUnderway uid s (hand c.look_before.new.pass t.left t.readings t.words l w)) (sym c.next_event.ensures.same) (look_failed uid s t c.in-Whole.event c.look_before.new.pass w r c.in-Err.ensures.looks)

pub returns-in-NoMemory-clause-reads : goal.returns-in-NoMemory-clause-reads
returns-in-NoMemory-clause-reads g c uid s r =
    let t : Hand = hand c.args.pass.now (g.I.Source.left c.args.source.now) (g.C.Clock.gave c.args.clock.now) (g.S.Salt.gave c.args.salt.now) c.args.inbox.now (watch_of c.args.sighter.now (g.G.Sights.left c.args.sights.now) (g.G.Sights.gave c.args.sights.now)) in
    subst (λ (l : List ℕ). IsUnderway uid s (hand t.pass t.left t.readings t.words l t.watch)) (sym c.next_event.ensures.same) r

pub returns-in-Partial-clause-sights : goal.returns-in-Partial-clause-sights
returns-in-Partial-clause-sights g c = c.read_on.ensures.sights (g.G.Sights.faults c.args.sights.now)
