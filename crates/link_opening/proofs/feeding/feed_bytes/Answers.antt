use Rattle.std.proofs.Common.{rules, ◌∙◌, ◌++◌, List, ℕ, refl, subst, take, get_or}
use Rattle.link_opening.specs.Feeds.{Fed, StopsAt}
use Rattle.link_opening.proofs.Rounds.{one_byte_more}
use Rattle.link_opening.proofs.Replying.{next_fed}
use Rattle.link_opening.proofs.feeding.feed_bytes.Goals as goal

pub feed_byte-requires-clause-may : goal.feed_byte-requires-clause-may
feed_byte-requires-clause-may g c κs within =
    let m = c.requires.may in
    let k = c.loop-byte.byte-index in
    next_fed g.O.Sink.allowed c.args.guid k (get_or c.args.bytes.now k 0) c.args.bytes.now (g.O.Sink.held c.args.sink.now) (g.O.Sink.held c.loop-byte.sink) c.args.shake.now c.loop-byte.shake m c.loop-byte-test.true refl
    (c.loop-byte.invariant.so m.door m.bytes m.before m.fed)

pub returns-in-Some-clause-feeds : goal.returns-in-Some-clause-feeds
returns-in-Some-clause-feeds g c door before held so =
    let k = c.loop-byte.byte-index in
    let i = c.loop-byte.invariant in
    subst (λ (l : List ℕ). StopsAt door c.args.guid l held (g.O.Sink.held c.feed_byte.new.sink) c.in-Some.stop)
    (one_byte_more before c.args.bytes.now k c.loop-byte.fed c.loop-byte-test.true i.count)
    (c.in-Some.ensures.feeds door (before ++ take k c.args.bytes.now) held (i.so door before held so))

pub loop-byte-preserved : goal.loop-byte-preserved
loop-byte-preserved g c =
    let k = c.loop-byte.byte-index in
    let i = c.loop-byte.invariant in
    record {
      count = search rules;
      quiet = c.in-None.ensures.faults ∙ i.quiet;
      so = λ door before held so.
          subst (λ (l : List ℕ). Fed door c.args.guid l held (g.O.Sink.held c.feed_byte.new.sink) c.feed_byte.new.shake)
          (one_byte_more before c.args.bytes.now k k c.loop-byte-test.true refl)
          (c.in-None.ensures.feeds door (before ++ take k c.args.bytes.now) held (i.so door before held so));
    }
