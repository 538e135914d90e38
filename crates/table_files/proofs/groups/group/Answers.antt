-- A name and its label are texts.
use Rattle.std.proofs.Common.{ℕ, List, ◌++◌, refl, sym, subst, arith}
use Rattle.std.specs.Prelude.{codes}
use Rattle.pk_types.specs.Text.{IsText}
use Rattle.table_files.proofs.Texts.{name_text, label_text}
use Rattle.table_files.proofs.groups.group.Goals as goal

pub of_known-requires : goal.of_known-requires
of_known-requires c = record { text = name_text c.args.row.now.name.now c.args.row.now.named }

pub label-requires : goal.label-requires
label-requires c =
    let P : List ℕ → Type 0 = λ front. IsText (front ++ c.args.row.now.name.now) in
    subst P (sym c.as_slice.ensures) (label_text (codes "unix-group:") c.args.row.now.name.now refl (omega arith) c.args.row.now.named)
