use Rattle.std.proofs.Common.{◌≡◌, take}
use Rattle.std.specs.Prelude.{map, filter}
use Rattle.std.specs.Option.{option_copied}
use Rattle.authority_model.specs.Facts.{facts_seen}
use Rattle.authority_model.specs.Grants.{kept}
use Rattle.authority_model.specs.Words.{least_text}
use Rattle.view_decision.specs.Implying.{counted}
use Rattle.journal_view.specs.Seen.{ForHistory}
use Rattle.view_decision.proofs.implying.least_implying.Given as goal

abbrev pub invariant-loop-candidate : goal.invariant-loop-candidate
invariant-loop-candidate g l = record {
  least :
      ForHistory (g.V.JournalView.seen l.view) (λ past.
      option_copied l.least
      ≡ least_text (map (λ x. x.id) (filter (counted past (kept past) (facts_seen l.facts) l.moment l.id) (take l.candidate-index l.candidate-items))));
  items : l.candidate-items ≡ (g.V.JournalView.seen l.view).loaded.policy.actions;
}
