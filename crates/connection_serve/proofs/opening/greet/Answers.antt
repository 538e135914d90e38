use Rattle.std.proofs.Common.{Option, List, ℕ, sym, ◌∙◌, subst}
use Rattle.connection_serve.specs.Halves.{HasBegun}
use Rattle.connection_serve.proofs.Causes.{fails_rose}
use Rattle.connection_serve.proofs.Greetings.{begins, ends_at_once, ends_by_cut, ends_by_fault, ends_by_memory, ends_by_read, ends_by_write}
use Rattle.link_opening.specs.Replying.{MayReply}
use Rattle.connection_serve.proofs.opening.greet.Goals as goal

pub returns-in_default-clause-greets : goal.returns-in_default-clause-greets
returns-in_default-clause-greets g c = ends_at_once c.args.uid c.args.guid _ _ _ _

pub returns-in-Begun-clause-greets : goal.returns-in-Begun-clause-greets
returns-in-Begun-clause-greets g c =
    let lifted = c.lift_time_limit.ensures in (
      subst (λ (l : Option (List ℕ)). HasBegun c.args.uid c.args.guid (g.I.Source.left c.args.source.now) l (g.O.Sink.held c.args.sink.now) (g.O.Sink.held c.open_link.new.sink) c.open_link.new.buffer) (sym lifted.left)
          (begins c.args.uid c.args.guid _ c.in-Ok.ensures.empty _ _ _ _ _ _ 0 0 0 0 c.in-Begun.ensures.opens),
      lifted.count ∙ c.in-Begun.ensures.read,
      c.in-Begun.ensures.write,
    )

pub returns-in-BadShake-clause-greets : goal.returns-in-BadShake-clause-greets
returns-in-BadShake-clause-greets g c = ends_by_fault c.args.uid c.args.guid _ c.in-Ok.ensures.empty _ _ _ _ _ _ _ _ _ _ c.in-BadShake.fault c.in-BadShake.ensures.opens

pub returns-in-Cut-clause-greets : goal.returns-in-Cut-clause-greets
returns-in-Cut-clause-greets g c =
    let laws = g.met.I.Source g.world.𝓛 g.world.𝓜 g.world.𝓡 ((λ s x. x), (λ x. x), (λ x. x), λ x. x) in
    ends_by_cut c.args.uid c.args.guid _ c.in-Ok.ensures.empty _ _ _ _ _ _ _ _ _ _ (laws.ended_is_used_up c.open_link.new.source) c.in-Cut.ensures.opens

pub returns-in-ReadFault-clause-greets : goal.returns-in-ReadFault-clause-greets
returns-in-ReadFault-clause-greets g c =
    ends_by_read c.args.uid c.args.guid _ c.in-Ok.ensures.empty _ _ _ _ _ _ _ _ _ _ (fails_rose g.I.Source.left g.I.Source.faults c.args.source.now c.open_link.new.source c.in-ReadFault.ensures.read) c.in-ReadFault.ensures.opens

pub returns-in-WriteFault-clause-greets : goal.returns-in-WriteFault-clause-greets
returns-in-WriteFault-clause-greets g c =
    ends_by_write c.args.uid c.args.guid _ c.in-Ok.ensures.empty _ _ _ _ _ _ _ _ _ _ (fails_rose g.O.Sink.held g.O.Sink.faults c.args.sink.now c.open_link.new.sink c.in-WriteFault.ensures.write) c.in-WriteFault.ensures.opens

pub returns-in-NoMemory-clause-greets : goal.returns-in-NoMemory-clause-greets
returns-in-NoMemory-clause-greets g c = ends_by_memory c.args.uid c.args.guid _ c.in-Ok.ensures.empty _ _ _ _ _ _ _ _ _ _ c.in-NoMemory.ensures.opens

pub open_link-requires-clause-may : goal.open_link-requires-clause-may
open_link-requires-clause-may g c κs within = subst (MayReply g.O.Sink.allowed (g.O.Sink.held c.args.sink.now) c.args.uid c.args.guid) (sym c.in-Ok.ensures.empty) c.requires.may
