use Rattle.std.proofs.Common.{◌++◌, ℕ, List, refl, sym, subst, arith}
use Rattle.std.specs.Prelude.{codes}
use Rattle.pk_types.specs.Text.{IsText}
use Rattle.audit_values.proofs.Labels.{label_text}
use Rattle.audit_values.proofs.world.group_label.Goals as goal

pub label-requires : goal.label-requires
label-requires c =
    let fits : IsText (codes "unix-group:" ++ c.args.name.now) = label_text (codes "unix-group:") c.args.name.now refl (omega arith) c.bytes.ensures.text c.requires.short in
    record { text = subst (λ (name : List ℕ). IsText (c.as_slice.result.now ++ name)) (sym c.bytes.ensures.bytes) (subst (λ (front : List ℕ). IsText (front ++ c.args.name.now)) (sym c.as_slice.ensures) fits) }
