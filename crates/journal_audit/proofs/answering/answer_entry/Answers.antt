use Rattle.std.proofs.Common.{◌≡◌, IfOk, refl}
use Rattle.authority_model.specs.Answers.{answers}
use Rattle.entry_changes.specs.Changes.{entry_change}
use Rattle.event_answers.specs.declared.answered.Answered.{Answered}
use Rattle.journal_audit.proofs.Judgements.{load_case}
use Rattle.journal_audit.proofs.answering.answer_entry.Goals as goal

pub returns-in-Some-clause-outputs : goal.returns-in-Some-clause-outputs
returns-in-Some-clause-outputs c = λ past seen.
    load_case (λ event load. IfOk c.answer_load.result (λ (a : Answered). a.outputs ≡ answers past c.args.entry.now.caller c.args.entry.now.moment c.args.entry.now.salt event load))
    c.args.entry.now.event c.args.loaded c.in-Some.loaded c.in-Some.is c.requires.numbered
    (λ n. c.answer_load.ensures.outputs past c.in-Some.loaded.now seen refl c.args.entry.now.caller c.args.entry.now.moment c.args.entry.now.salt n)

pub returns-in-Some-clause-change : goal.returns-in-Some-clause-change
returns-in-Some-clause-change c = λ past seen.
    load_case (λ event load. IfOk c.answer_load.result (λ (a : Answered). a.change ≡ entry_change past c.args.entry.now.caller c.args.entry.now.moment c.args.entry.now.salt event load))
    c.args.entry.now.event c.args.loaded c.in-Some.loaded c.in-Some.is c.requires.numbered
    (λ n. c.answer_load.ensures.change past c.in-Some.loaded.now seen refl c.args.entry.now.caller c.args.entry.now.moment c.args.entry.now.salt n)
