use Rattle.std.proofs.Common.{[], None}
use Rattle.authority_desk.proofs.Carrying.{peers_staged}
use Rattle.authority_desk.proofs.tables.Tables.new.Goals as goal

pub returns-clause-empty : goal.returns-clause-empty
returns-clause-empty c = record {
  peers_are = peers_staged [] None c.in_ok-new.field-0 c.in_ok-new.ensures.empty;
  agents_are = c.in_ok-new-2.ensures.items;
  grants_are = c.in_ok-new-3.ensures.items;
  challenges_are = c.in_ok-new-4.ensures.empty;
}
