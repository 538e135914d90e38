use Rattle.std.proofs.Common.{Some, sym, subst}
use Rattle.authority_model.specs.declared.load.Loaded.{Loaded}
use Rattle.authority_model.specs.Small.{IsShort}
use Rattle.authority_desk.specs.Seen.{StandsForOne, desk_seen}
use Rattle.authority_desk.proofs.Entering.{one_next}
use Rattle.authority_desk.proofs.desk.Desk.append_load.Goals.{in-Ok, in-Err}
use Rattle.authority_desk.proofs.desk.Desk.append_load.Goals as goal

pub invariant_of-self : goal.invariant_of-self
invariant_of-self c = (
  c.enter_load.ensures.idle,
  elim c.match-enter_load.branch [
    | in-Ok w ↦ one_next c.args.entry (Some c.args.loaded) c.args.change (desk_seen c.self.inside.lookups) c.args.self.now (desk_seen c.enter_load.new.self) c.self.view_is c.requires.next w.in-Ok.ensures.stands
        (subst (λ (l : Loaded). IsShort l.policy.actions) (sym w.in-Ok.ensures.loaded) c.requires.actions)
        (subst (λ (l : Loaded). IsShort l.policy.entries) (sym w.in-Ok.ensures.loaded) c.requires.rules)
    | in-Err w ↦ subst StandsForOne (sym w.in-Err.ensures.err) c.self.invariant.1
  ],
)
