use Rattle.std.proofs.Common.{◌∙◌, rules, tests}
use Rattle.std.proofs.lemmas.Iterator.{YieldsList-from_slice}
use Rattle.std.proofs.lemmas.Iterator.Consumers.{YieldsList-from_filter, count_from_yields_List}
use Rattle.std.proofs.lemmas.List.Sums.{length-filter}
use Rattle.authority_model.specs.declared.message.Output.{Output}
use Rattle.serve_loader.specs.Wanted.{asks_load}
use Rattle.serve_loader.proofs.wanted.loads_among.Goals as goal

pub returns : goal.returns
returns c = record {
  loads =
      count_from_yields_List c.filter.result _ c.count.ensures.ran
      (YieldsList-from_filter _ (λ (o : Output). asks_load o.message) (YieldsList-from_slice c.args.outputs.now cc) c.filter.ensures.closure (λ x r q k. search (rules, tests)))
      ∙ length-filter (λ (o : Output). asks_load o.message) c.args.outputs.now;
}
