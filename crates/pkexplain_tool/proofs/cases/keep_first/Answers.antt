-- The case is the first one of its rule.
use Rattle.std.proofs.Common.{◌≡◌, ◌==◌, ◌∙◌, List, Option, Some, None, sym, ap, subst, slice_get, slice_set}
use Rattle.authority_model.specs.Lists.{when}
use Rattle.authority_model.specs.Words.{Bytes}
use Rattle.pkexplain_tool.specs.Accounts.{Notes}
use Rattle.pkexplain_tool.specs.Cases.{case_of}
use Rattle.pkexplain_tool.specs.declared.case.Case.{Case}
use Rattle.pkexplain_tool.proofs.Firsts.{notes_new}
use Rattle.pkexplain_tool.proofs.cases.keep_first.Goals as goal

pub returns-in_ok-action : goal.returns-in_ok-action
returns-in_ok-action c =
    let none : slice_get c.args.firsts.now c.args.place ≡ Some None = sym (rw c.in-Some-None.field-0-is at c.in-Some-None.ensures.item) in
    let case = case_of c.args.uid c.args.category c.args.action.now in
    let kept : c.set.new.self ≡ slice_set c.args.firsts.now c.args.place (Some case) =
    c.set.ensures.item ∙ ap (λ (id : Bytes). slice_set c.args.firsts.now c.args.place (Some (record { uid = c.args.uid; category = c.args.category; action = id }))) (c.in_ok-action.ensures.copy ∙ c.text.ensures.text) in
    record { kept = subst (λ (now : List (Option Case)). Notes (λ p. when (c.args.place == p) case) c.args.firsts.now now) (sym kept) (notes_new c.args.firsts.now c.args.place case none) }
