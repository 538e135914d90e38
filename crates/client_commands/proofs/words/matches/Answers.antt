use Rattle.std.proofs.Common.{◌∙◌, inl, inr}
use Rattle.client_commands.proofs.Planning.{rows_refused, rows_taken}
use Rattle.client_commands.proofs.words.matches.Goals as goal

pub returns-in-Ok : goal.returns-in-Ok
returns-in-Ok c = record { rows = rows_taken _ _ _ (c.in-Ok.ensures.kinds c.requires.free) (c.in-Ok.ensures.matches c.requires.simple).0 }

pub returns : goal.returns
returns c =
    let fails = c.in-Err.ensures.kinds c.requires.free in
    record {
      rows = elim fails [
        | inl memory ↦ absurd (c.in_default.not-OutOfMemory (c.kind.ensures ∙ memory))
        | inr among ↦ rows_refused _ _ _ among
      ];
    }
