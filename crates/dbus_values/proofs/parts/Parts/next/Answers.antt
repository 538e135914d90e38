use Rattle.std.proofs.Common.{◌≡◌, ◌-◌, sym, ◌∙◌, ap, List, ◌∷◌, arith}
use Rattle.dbus_values.specs.Parts.{Piece, piece}
use Rattle.dbus_values.specs.Places.{place}
use Rattle.dbus_values.specs.Walk.{parts}
use Rattle.dbus_values.specs.Runs.{again}
use Rattle.dbus_values.proofs.Steps.{parts_none, lasts_not}
use Rattle.dbus_values.proofs.Repeated.{parts_run, lasts_run, parts_one, lasts_one, again_none}
use Rattle.dbus_values.proofs.parts.Parts.next.Goals as goal

pub returns-then-self-eq0-clause-end : goal.returns-then-self-eq0-clause-end
returns-then-self-eq0-clause-end c = sym c.self.view_is ∙ (again_none c.self.inside.more _ _ (omega arith) ∙ parts_none _ _ _ _ c.if-self-eq0.true)

pub invariant_of-self-in-Ok-default-eq0 : goal.invariant_of-self-in-Ok-default-eq0
invariant_of-self-in-Ok-default-eq0 c = lasts_one c.self.inside.left c.in-Ok-default-eq0.field-0-1 64 c.self.inside.big _ _ _ c.in-Ok-default-eq0.field-0-1-test (omega arith) c.in-Ok-default-eq0.ensures.exact c.self.invariant

pub invariant_of-self-in-Ok : goal.invariant_of-self-in-Ok
invariant_of-self-in-Ok c = lasts_run c.self.inside.left c.in-Ok.more 64 c.self.inside.big _ _ _ (omega (arith, c.in-Ok.ensures.few)) c.in-Ok.ensures.exact c.self.invariant

pub unreachable-requires : goal.unreachable-requires
unreachable-requires c = lasts_not _ _ _ _ _ c.if-self-eq0.false c.in-Err.ensures.exact c.self.invariant

pub returns-in-Ok-default-eq0-clause-next : goal.returns-in-Ok-default-eq0-clause-next
returns-in-Ok-default-eq0-clause-next c =
    let p = piece c.in-Ok-default-eq0.part in
    let left : List Piece = parts (c.self.inside.left - 1) 64 c.self.inside.big (place c.next_run.new.walk) in
    let none : left ≡ again c.self.inside.more (piece c.self.inside.repeated) left = sym (again_none c.self.inside.more (piece c.self.inside.repeated) left (omega arith)) in
    let one = parts_one c.self.inside.left c.in-Ok-default-eq0.field-0-1 64 c.self.inside.big _ _ _ c.in-Ok-default-eq0.field-0-1-test (omega arith) c.in-Ok-default-eq0.ensures.exact in
    sym c.self.view_is ∙ (again_none c.self.inside.more _ _ (omega arith) ∙ (one ∙ ap (λ (ps : List Piece). p ∷ ps) none))

pub returns-in-Ok-clause-next : goal.returns-in-Ok-clause-next
returns-in-Ok-clause-next c = sym c.self.view_is ∙ (again_none c.self.inside.more _ _ (omega arith) ∙ parts_run c.self.inside.left c.in-Ok.more 64 c.self.inside.big _ _ _ (omega (arith, c.in-Ok.ensures.few)) c.in-Ok.ensures.exact)
