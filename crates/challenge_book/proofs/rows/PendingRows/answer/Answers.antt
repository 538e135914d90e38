use Rattle.std.proofs.Common.{sym, ap, ◌∙◌, subst, Option}
use Rattle.std.specs.Prelude.{map}
use Rattle.std.specs.Option.{IsSomeAnd}
use Rattle.entry_changes.specs.Changes.{answered_by}
use Rattle.challenge_book.specs.declared.filed.Filed.{Filed}
use Rattle.challenge_book.specs.Rows.{Rows, IsFiled}
use Rattle.challenge_book.proofs.RowFinding.{at_key}
use Rattle.challenge_book.proofs.RowAnswering.{answered_none, noted}
use Rattle.challenge_book.proofs.rows.PendingRows.answer.Goals as goal

pub returns-in_default : goal.returns-in_default
returns-in_default c = record {
  items =
      sym (ap (λ (x : Rows). x.items) c.self.view_is)
      ∙ sym (answered_none c.self.inside.rows c.args.entry c.args.identity c.self.inside.order.entries c.self.invariant (sym c.in_default.ensures.value))
      ∙ ap (λ (x : Rows). map (answered_by c.args.entry c.args.identity) x.items) c.self.view_is;
}

pub returns-in_default-get_mut : goal.returns-in_default-get_mut
returns-in_default-get_mut c = absurd (subst (λ (o : Option Filed). IsSomeAnd o (IsFiled c.args.entry)) (sym c.in_default-get_mut.ensures.value) (at_key c.self.inside.rows c.args.entry c.in-Some.key.now c.self.inside.order.entries c.self.invariant (sym c.in-Some.ensures.value)))

pub invariant_of-self-2 : goal.invariant_of-self-2
invariant_of-self-2 c = (noted c.self.inside.rows c.self.inside.order.entries c.args.entry c.in-Some.key.now c.args.identity c.in-Some-get_mut.filed.now c.in-Some-get_mut.ensures.value c.in-Some.ensures.value c.self.invariant).0

pub returns : goal.returns
returns c = record { items = (noted c.self.inside.rows c.self.inside.order.entries c.args.entry c.in-Some.key.now c.args.identity c.in-Some-get_mut.filed.now c.in-Some-get_mut.ensures.value c.in-Some.ensures.value c.self.invariant).1 ∙ ap (λ (x : Rows). map (answered_by c.args.entry c.args.identity) x.items) c.self.view_is }
