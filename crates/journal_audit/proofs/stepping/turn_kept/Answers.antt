use Rattle.std.proofs.Common.{ap, subst}
use Rattle.std.specs.Option.{option_copied}
use Rattle.authority_model.specs.declared.load.Loaded.{Loaded}
use Rattle.journal_audit.specs.Steps.{Answers}
use Rattle.journal_audit.proofs.Judgements.{turn_follows, turn_next, turn_unanswered}
use Rattle.journal_audit.proofs.stepping.turn_kept.Goals as goal

pub carry-requires : goal.carry-requires
carry-requires c = record {
  next = record {
    past = c.requires.one.past;
    item = c.requires.one.item;
    next = turn_next c.requires.one.past c.requires.one.item c.args.lists.now c.args.in_force.now c.args.entry.now (option_copied c.args.loaded) c.requires.one.due c.requires.kept c.in-Some.change
        (subst (Answers c.requires.one.past c.requires.one.item) c.in-Some.is (c.in_ok-found.ensures.changed c.requires.one.past c.requires.one.item c.requires.one.due))
        c.in_force_after.result.now.world (ap (λ (m : Loaded). m.world) c.in_force_after.ensures.load);
  };
}

pub returns-in_ok-carry-in-Some : goal.returns-in_ok-carry-in-Some
returns-in_ok-carry-in-Some c = record {
  turn = λ past i due.
      let found = subst (Answers past i) c.in-Some.is (c.in_ok-found.ensures.changed past i due) in (
        turn_follows past i c.args.lists.now c.args.in_force.now c.args.entry.now (option_copied c.args.loaded) due c.requires.kept found.0,
        c.in_ok-carry-in-Some.ensures.stands past i
            (turn_next past i c.args.lists.now c.args.in_force.now c.args.entry.now (option_copied c.args.loaded) due c.requires.kept c.in-Some.change found
            c.in_force_after.result.now.world (ap (λ (m : Loaded). m.world) c.in_force_after.ensures.load)),
      );
}

pub returns-in-None : goal.returns-in-None
returns-in-None c = record {
  turn = λ past i due.
      turn_unanswered past i c.args.lists.now c.args.in_force.now c.args.entry.now (option_copied c.args.loaded) due c.requires.kept
      (subst (Answers past i) c.in-None.is (c.in_ok-found.ensures.changed past i due));
}
