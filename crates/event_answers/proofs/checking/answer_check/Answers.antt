use Rattle.std.proofs.Common.{◌≡◌, sym, subst, Option}
use Rattle.std.specs.Prelude.{IfOk}
use Rattle.authority_model.specs.declared.pending.Pending.{Pending}
use Rattle.event_answers.specs.Checks.{begun_if}
use Rattle.event_answers.proofs.Openings.{opening_is}
use Rattle.event_answers.proofs.checking.answer_check.Goals as goal

pub returns : goal.returns
returns g c = record {
  outputs = c.answer_new.ensures.outputs;
  change = λ past is. subst (λ (row : Option Pending). IfOk c.answer_new.result (λ a. a.change ≡ begun_if row)) (sym (opening_is past c.args.check.now)) (c.answer_new.ensures.change past is);
}
