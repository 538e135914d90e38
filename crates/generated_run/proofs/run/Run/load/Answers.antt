-- The run has the item of the load besides, or its journal halted before it.
use Rattle.std.proofs.Common.{subst, sym}
use Rattle.authority_core.specs.Refusals.{IsHalted}
use Rattle.authority_model.specs.Given.{load_given, next}
use Rattle.generated_run.proofs.Entering.{halted_before, newest_is, has_next}
use Rattle.generated_run.proofs.run.Run.load.Goals as goal

pub returns-in_ok-add-in-Ok-clause-ok : goal.returns-in_ok-add-in-Ok-clause-ok
returns-in_ok-add-in-Ok-clause-ok c = λ past has.
    let g = load_given 0 0 c.args.loaded in
    let newest = newest_is past c.args.self.now.authority.history c.load.new.self.history g c.in-Some.entry.now c.in-Ok.place has.items c.in-Ok.ensures.entry c.in-Ok.ensures.place c.in-Some.ensures.entry in
    has_next past c.args.self.now _ g has c.in-Ok.ensures.limits c.in-Ok.ensures.grows (c.in_ok-add-in-Ok.ensures.added past (next past g) has.summary newest)

pub returns-in-Err-clause-stop : goal.returns-in-Err-clause-stop
returns-in-Err-clause-stop c = λ past has.
    halted_before past c.args.self.now (load_given 0 0 c.args.loaded) c.into_parts-halt.result.0 has (subst (IsHalted c.args.self.now.authority) (sym c.into_parts-halt.ensures.halt) c.in-Err.ensures.refused.0)
