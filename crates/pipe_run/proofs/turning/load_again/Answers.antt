-- What the load gave is handed in.
use Rattle.std.proofs.Common.{refl, sym, subst, ap, ◌∙◌}
use Rattle.std.specs.Prelude.{IfSome, List, ℕ, Option}
use Rattle.pk_outside.specs.Trees.{TreeTold}
use Rattle.policy_load.specs.Causes.{LoadsAs}
use Rattle.policy_load.specs.Loads.{load_of}
use Rattle.pipe_run.specs.Handed.{awaits_load}
use Rattle.pipe_run.proofs.Staging.{staged_out, unwritten}
use Rattle.pipe_run.proofs.Supplying.{took_one}
use Rattle.pipe_run.proofs.Turns.{loaded_handed, loaded_waits, turned_refused}
use Rattle.pipe_run.proofs.Promised.{may_answered, may_now, may_out}
use Rattle.pipe_run.proofs.turning.load_again.Goals as goal

pub returns-in_err-make_room-clause-turned : goal.returns-in_err-make_room-clause-turned
returns-in_err-make_room-clause-turned g c salt s messages told root st =
    turned_refused s _ _ _ c.from_residual.result _ c.from_residual.ensures.1
    (unwritten s _ messages _ c.in_err-make_room.field-0.0 c.in_err-make_room.ensures.refused (staged_out s c.args.served.now c.make_room.new.self _ _ _ _ _ messages c.in_err-make_room.ensures.written st))

pub returns-clause-turned : goal.returns-clause-turned
returns-clause-turned g c salt s messages told root st =
    loaded_handed s _ _ messages c.now-moment.result c.load-gave.result _ c.answer.result c.submission_of.ensures.given (ap awaits_load c.in_ok-make_room.ensures.written.past ∙ c.requires.asked)
    (subst (λ (t : Option TreeTold). IfSome t (λ tree. LoadsAs (load_of tree s.opening.root) c.load-gave.result)) (sym told)
    (subst (λ (r : List ℕ). IfSome (g.T.Tree.told c.args.tree.now) (λ tree. LoadsAs (load_of tree r) c.load-gave.result)) (sym root) c.load-gave.ensures.load))
    (record { later = c.load-gave.ensures.later; fault = c.load-gave.ensures.fault }) (took_one _ _ _ _ _ c.now-moment.ensures.next c.now-moment.ensures.gave) refl refl c.in_ok-make_room.ensures.ready
    (staged_out s c.args.served.now c.make_room.new.self _ _ _ _ _ messages c.in_ok-make_room.ensures.written st) c.answer.ensures.answers c.answer.ensures.legal

pub returns-clause-waits : goal.returns-clause-waits
returns-clause-waits g c =
    loaded_waits c.make_room.new.self c.answer.new.self c.now-moment.result c.load-gave.result _ c.answer.result c.submission_of.ensures.given (ap awaits_load c.in_ok-make_room.ensures.written.past ∙ c.requires.asked) c.answer.ensures.answers

pub make_room-requires-clause-may : goal.make_room-requires-clause-may
make_room-requires-clause-may g c κs within = may_now _ _ _ c.requires.may

pub returns-clause-may : goal.returns-clause-may
returns-clause-may g c =
    may_answered _ _ c.make_room.new.self c.answer.new.self _ c.answer.result c.answer.ensures.answers c.answer.ensures.legal (may_out _ _ _ c.args.served.now c.make_room.new.self c.in_ok-make_room.ensures.written c.requires.may)
