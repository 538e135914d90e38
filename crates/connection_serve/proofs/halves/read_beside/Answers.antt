-- What the reader left behind its references, they end as.
use Rattle.std.proofs.Common.{rules}
use Rattle.connection_lookout.specs.Watching.{watch_of}
use Rattle.connection_reader.specs.Reading.{ReadsTo, hand}
use Rattle.connection_serve.proofs.Returning.{all_left}
use Rattle.connection_serve.proofs.halves.read_beside.Goals as goal

pub returns-clause-reads : goal.returns-clause-reads
returns-clause-reads g c =
    let n = c.join_mut-read.new.g in
    all_left
    (λ p w m x i v b.
    ReadsTo g.L.LimitsName.limits c.args.uid
    (hand c.args.pass.now (g.I.Source.left c.args.source.now) (g.C.Clock.gave c.args.clock.now) (g.S.Salt.gave c.args.salt.now) c.args.inbox.now (watch_of c.args.sighter.now (g.G.Sights.left c.args.sights.now) (g.G.Sights.gave c.args.sights.now)))
    (hand p (g.I.Source.left i) (g.C.Clock.gave m) (g.S.Salt.gave x) b (watch_of w (g.G.Sights.left v) (g.G.Sights.gave v))) (g.I.Source.ended i) c.join_mut-read.result.1)
    n.1.now _ n.2.now _ n.4.now _ n.5.now _ n.6.now _ n.7.now _ n.8.now _ (search rules) (search rules) (search rules) (search rules) (search rules) (search rules) (search rules) (search rules)
