-- The open group has one key more.
use Rattle.keyfile_text.specs.Maps.{groups_in}
use Rattle.keyfile_text.proofs.Merges.{with_key_is}
use Rattle.keyfile_text.proofs.grouping.Grouping.with_key.Goals as goal

pub returns-in_ok-last-in-Some : goal.returns-in_ok-last-in-Some
returns-in_ok-last-in-Some c = record {
  set = with_key_is c.args.self.current c.in-Some.last c.in_ok-last-in-Some.last (groups_in c.args.self.groups) c.args.key.now c.args.value.now c.in-Some.is
      (rw c.in-Some.is at c.in_ok-last-in-Some.ensures.name)
      (rw c.in-Some.is at c.in_ok-last-in-Some.ensures.pairs);
}
