use Rattle.std.proofs.Common.{List, [], refl, sym, subst}
use Rattle.authority_model.specs.declared.journal.Entry.{Entry}
use Rattle.authority_model.specs.declared.load.Loaded.{Loaded}
use Rattle.authority_core.specs.Kept.{IsKept}
use Rattle.authority_core.proofs.authority.Authority.start.Goals as goal

pub invariant_of-result : goal.invariant_of-result
invariant_of-result c =
    let empty : IsKept (record { entries = []; loads = [] }) c.args.limits 0 c.in_ok-start.field-0 = record {
      legal = record { items = tt; loads = refl };
      each_loaded = refl;
      desk_is = c.in_ok-start.ensures.empty;
      counted = refl;
      allowed = c.requires.limits;
    } in
    subst (IsKept (record { entries = c.new.result; loads = c.new-2.result }) c.args.limits 0) (sym c.in_ok-new.ensures.ok)
    (subst (λ (es : List Entry). IsKept (record { entries = es; loads = c.new-2.result }) c.args.limits 0 c.in_ok-start.field-0) (sym c.new.ensures.empty)
    (subst (λ (ls : List Loaded). IsKept (record { entries = []; loads = ls }) c.args.limits 0 c.in_ok-start.field-0) (sym c.new-2.ensures.empty) empty))
