-- The least action that implies another, as it is walked.
use Rattle.std.specs.Prelude.{ℕ, Bool, ◌&&◌, if◌then◌else◌, List, Option}
use Rattle.std.specs.Option.{option_map_or}
use Rattle.authority_model.specs.declared.policy.Action.{Action}
use Rattle.authority_model.specs.declared.journal.Item.{Item}
use Rattle.authority_model.specs.declared.verdict.GrantRow.{GrantRow}
use Rattle.authority_model.specs.Facts.{Facts}
use Rattle.authority_model.specs.Rules.{annotates}
use Rattle.authority_model.specs.Deciding.{imply_key, implies, own}
use Rattle.authority_model.specs.Words.{Bytes, comes_before}

-- Whether an action counts among those that imply another: it lists the other, and so does the first action of its id, which is allowed by itself.
abbrev pub counted : List Item → List GrantRow → Facts → ℕ → Bytes → Action → Bool
counted past grants f t a x = annotates x imply_key a && (implies past x.id a && own past grants f t x.id)

-- the lesser of a text and another, where there is another
abbrev pub lesser : Bytes → Option Bytes → Bytes
lesser x other = option_map_or (λ m. if comes_before x m then x else m) other x
