use Rattle.std.proofs.Common.{List, sym, subst}
use Rattle.authority_laws.specs.Batches.{in_order}
use Rattle.authority_model.specs.declared.journal.Item.{Item}
use Rattle.history_lock.specs.Entries.{GrownByOthers}
use Rattle.shared_authority.specs.Journals.{caller_of}
use Rattle.authority_service.proofs.Closing.{have_closed, where_some}
use Rattle.authority_service.proofs.running.close_journal.Goals as goal

pub returns-clause-closed : goal.returns-clause-closed
returns-clause-closed g c =
    let m = c.meet in
    let same = where_some c.end.new.pass.ended c.end.result c.end.ensures.knows c.close.ensures.ended in
    let others = subst (λ (h : List Item). GrownByOthers caller_of m.new.second.number m.new.second.history h) (sym same) c.end.ensures.learned.others in
    have_closed c.args.control c.args.zero m.new.first m.new.second (in_order c.close.result.history) c.requires.zero m.ensures.first m.ensures.second m.ensures.equal.0 m.ensures.equal.1 m.ensures.top others
