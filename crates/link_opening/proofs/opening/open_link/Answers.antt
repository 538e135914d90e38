use Rattle.std.proofs.Common.{refl}
use Rattle.link_opening.proofs.Rounds.{underway_first}
use Rattle.link_opening.proofs.opening.open_link.Goals as goal

pub rounds-init : goal.rounds-init
rounds-init g c = record {
  so = underway_first c.args.door c.args.guid c.args.buffer.now _ _ c.new-shake.result c.new-shake.ensures.all c.new-shake.ensures.over;
  same = refl;
  read = refl;
  wrote = refl;
}

pub open_round-requires-clause-may : goal.open_round-requires-clause-may
open_round-requires-clause-may g c κs within = record {
  door = c.args.door;
  first = c.args.buffer.now;
  left_before = g.I.Source.left c.args.source.now;
  held_before = g.O.Sink.held c.args.sink.now;
  underway = c.rounds.invariant.so;
  may = c.requires.may;
}
