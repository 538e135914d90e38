use Rattle.std.specs.Result.{MatchResult}
use Rattle.connection_lookout.specs.Watching.{watch_of}
use Rattle.connection_reader.specs.Reading.{IsRefused, IsUnderway, hand}
use Rattle.connection_reader.proofs.Stopping.{handed_on}
use Rattle.connection_reader.proofs.reading.read_messages.Goals as goal

pub returns-in_err-read_next-clause-reads : goal.returns-in_err-read_next-clause-reads
returns-in_err-read_next-clause-reads g c uid s r =
    let t = hand c.read_next.new.pass (g.I.Source.left c.read_next.new.source) (g.C.Clock.gave c.read_next.new.clock) (g.S.Salt.gave c.read_next.new.salt) c.read_next.new.inbox (watch_of c.read_next.new.sighter (g.G.Sights.left c.read_next.new.sights) (g.G.Sights.gave c.read_next.new.sights)) in
    handed_on (λ result. MatchResult result (λ _. IsUnderway uid s t) (λ _. IsRefused uid s t)) c.from_residual.result c.in_err-read_next.field-0.0 c.from_residual.ensures.1
    (c.in_err-read_next.ensures.reads uid s (c.loop-turn.invariant.so uid s r))
