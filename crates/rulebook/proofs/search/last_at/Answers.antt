use Rattle.std.proofs.Common.{ap, ◌∙◌}
use Rattle.authority_model.specs.Lists.{find_last}
use Rattle.authority_model.specs.Rules.{matches_at}
use Rattle.rulebook.specs.Indexes.{rows_at}
use Rattle.rulebook.proofs.Lasts.{Row, last_by_index}
use Rattle.rulebook.proofs.search.last_at.Goals as goal

pub returns : goal.returns
returns c =
    let test : Row → _ = λ (place, entry). matches_at c.args.label.now c.args.action.now c.args.category entry in
    record {
      last = c.later.ensures.later
          ∙ last_by_index c.args.policy.now c.args.index.now c.args.label.now c.args.action.now c.args.category _ _ c.requires.index c.listed.ensures.text
          (c.last_listed-exact.ensures.last ∙ ap (λ ps. find_last test (rows_at c.args.policy.now.entries ps)) c.listed.ensures.listed)
          (c.last_listed-pattern.ensures.last ∙ ap (λ ps. find_last test (rows_at c.args.policy.now.entries ps)) c.as_slice.ensures.items);
    }
