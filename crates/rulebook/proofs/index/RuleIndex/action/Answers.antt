use Rattle.std.proofs.Common.{sym, ap, ◌∙◌, bytes_eq, slice_get, option_and_then}
use Rattle.rulebook.proofs.Firsts.{find-place}
use Rattle.rulebook.proofs.index.RuleIndex.action.Goals as goal

pub returns-in-Some : goal.returns-in-Some
returns-in-Some c =
    record {
      first = c.get.ensures.item ∙ ap (option_and_then (slice_get c.args.policy.now.actions)) (c.in-Some.ensures.place ∙ c.requires.index.actions c.args.id.now) ∙ sym (find-place (λ a. bytes_eq a.id c.args.id.now) c.args.policy.now.actions);
    }

pub returns-in-None : goal.returns-in-None
returns-in-None c =
    record {
      first = ap (option_and_then (slice_get c.args.policy.now.actions)) (c.in-None.ensures.place ∙ c.requires.index.actions c.args.id.now) ∙ sym (find-place (λ a. bytes_eq a.id c.args.id.now) c.args.policy.now.actions);
    }
