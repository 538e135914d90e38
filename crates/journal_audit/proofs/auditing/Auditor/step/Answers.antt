use Rattle.std.proofs.Common.{None, Some, sym, ◌∙◌, subst}
use Rattle.std.specs.Option.{option_copied}
use Rattle.plain_lists.specs.declared.lists.PlainLists.{PlainLists}
use Rattle.journal_audit.specs.Steps.{Turns, item_with}
use Rattle.journal_audit.proofs.Judgements.{due_at, step_on}
use Rattle.journal_audit.proofs.auditing.Auditor.step.Goals as goal

pub turn-requires : goal.turn-requires
turn-requires c = record {
  one = record {
    past = c.requires.one.past;
    item = item_with c.args.entry.now c.args.self.now.left.now;
    due = due_at c.requires.one.past c.args.self.now c.args.entry.now (option_copied c.next_load.result.0) c.requires.one.is c.next_load.ensures.named;
  };
}

pub returns-in-Some : goal.returns-in-Some
returns-in-Some c = record {
  step = λ past at.
      subst (Turns past (item_with c.args.entry.now c.args.self.now.left.now) c.turn.new.lists) c.in-Some.is
      (c.in_ok-broken.ensures.turn past (item_with c.args.entry.now c.args.self.now.left.now) (due_at past c.args.self.now c.args.entry.now (option_copied c.next_load.result.0) at c.next_load.ensures.named));
}

pub returns-in_ok-advance-in-None : goal.returns-in_ok-advance-in-None
returns-in_ok-advance-in-None c = record {
  step = λ past at.
      step_on past c.args.self.now c.advance.new.self c.args.entry.now (option_copied c.next_load.result.0) at c.next_load.ensures.named
      (subst (λ (ls : PlainLists). Turns past (item_with c.args.entry.now c.args.self.now.left.now) ls None) (sym c.advance.ensures.lists)
      (subst (Turns past (item_with c.args.entry.now c.args.self.now.left.now) c.turn.new.lists) c.in-None.is
      (c.in_ok-broken.ensures.turn past (item_with c.args.entry.now c.args.self.now.left.now) (due_at past c.args.self.now c.args.entry.now (option_copied c.next_load.result.0) at c.next_load.ensures.named))))
      c.in_ok-advance-in-None.ensures.loaded (c.in_ok-advance-in-None.ensures.left ∙ c.next_load.ensures.left) c.in_ok-advance-in-None.ensures.yes;
}
