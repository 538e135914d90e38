use Rattle.std.proofs.Common.{None, sym, subst}
use Rattle.authority_model.specs.declared.load.Loaded.{Loaded}
use Rattle.authority_model.specs.Small.{IsShort}
use Rattle.authority_desk.specs.Seen.{StandsForOne, desk_seen}
use Rattle.authority_desk.proofs.Entering.{one_next}
use Rattle.authority_desk.proofs.desk.Desk.append.Goals.{in-Ok, in-Err}
use Rattle.authority_desk.proofs.desk.Desk.append.Goals as goal

pub invariant_of-self : goal.invariant_of-self
invariant_of-self c = (
  c.enter.ensures.idle,
  elim c.match-enter.branch [
    | in-Ok w ↦ one_next c.args.entry None c.args.change (desk_seen c.self.inside.lookups) c.args.self.now (desk_seen c.enter.new.self) c.self.view_is c.requires.next w.in-Ok.ensures.stands
        (subst (λ (l : Loaded). IsShort l.policy.actions) (sym c.enter.ensures.loaded) c.self.invariant.1.actions)
        (subst (λ (l : Loaded). IsShort l.policy.entries) (sym c.enter.ensures.loaded) c.self.invariant.1.rules)
    | in-Err w ↦ subst StandsForOne (sym w.in-Err.ensures.err) c.self.invariant.1
  ],
)
