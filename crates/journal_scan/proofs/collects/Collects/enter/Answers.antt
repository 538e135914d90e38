use Rattle.std.proofs.Common.{ap, ◌∙◌}
use Rattle.authority_model.specs.declared.journal.Entry.{Entry}
use Rattle.journal_scan.proofs.collects.Collects.enter.Goals as goal

pub returns-in-Some : goal.returns-in-Some
returns-in-Some c = record {
  only = (λ yes size past i same tallies table.
      c.collect.ensures.only yes size past i (ap (λ (e : Entry). e.caller) same) (ap (λ (e : Entry). e.event) same ∙ c.in-Collect.is) (c.in-Some.ensures.answers size past tallies) table);
}
