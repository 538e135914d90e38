-- A group that stands is taken out, and another is made.
use Rattle.std.proofs.Common.{ap, map, sym, ◌∙◌}
use Rattle.keyfile_text.specs.Maps.{group_in, pair_in, pairs_in, put_group}
use Rattle.keyfile_text.proofs.Merges.{reopened, first_opened}
use Rattle.keyfile_text.proofs.grouping.take_group.Goals as goal

pub returns-in-Some : goal.returns-in-Some
returns-in-Some c = record {
  taken = ap (λ es. put_group c.args.name.now (pairs_in c.in-Some.pairs) (map group_in es)) c.in_ok-pairs.ensures.entries
      ∙ reopened c.args.groups.now.entries c.args.name c.new.result c.in-Some.pairs (sym c.in-Some.is ∙ c.in_ok-pairs.ensures.old);
}

pub returns-in-None : goal.returns-in-None
returns-in-None c = record {
  taken = ap (λ es. put_group c.args.name.now (pairs_in c.new-in-None.result) (map group_in es)) c.in_ok-pairs.ensures.entries
      ∙ first_opened c.args.groups.now.entries c.args.name c.new.result c.new-in-None.result (ap (map pair_in) c.new-in-None.ensures.empty)
      (sym c.in-None.is ∙ c.in_ok-pairs.ensures.old);
}
