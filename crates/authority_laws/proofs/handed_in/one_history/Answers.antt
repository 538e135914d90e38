use Rattle.std.proofs.Common.{sym, ◌∙◌}
use Rattle.authority_model.specs.Items.{items_of}
use Rattle.authority_model.specs.Given.{history_of}
use Rattle.authority_laws.proofs.OneHistory.{history_legal, history_only}
use Rattle.authority_laws.proofs.OneJournal.{items_once, journal_of}
use Rattle.authority_laws.proofs.handed_in.one_history.Goals as goal

pub returns : goal.returns
returns c = record {
  is_legal = λ given proper. (history_legal given proper).0;
  is_of = λ given proper. (history_legal given proper).1;
  is_only = history_only;
  journal = λ given proper. journal_of (history_of given) (history_legal given proper).0;
  only_journal = λ given proper h h' legal legal' is is'. items_once h h' legal legal' (history_only given proper (items_of h) legal.items is ∙ sym (history_only given proper (items_of h') legal'.items is'));
}
