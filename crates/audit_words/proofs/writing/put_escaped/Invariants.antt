use Rattle.std.proofs.Common.{◌≡◌, ◌∷◌, take}
use Rattle.audit_words.specs.Buffers.{put}
use Rattle.audit_words.specs.Escapes.{escaped}
use Rattle.audit_words.proofs.writing.put_escaped.Given as goal

abbrev pub invariant-loop-b : goal.invariant-loop-b
invariant-loop-b l = l.line ≡ put l.fn.line (32 ∷ escaped (take l.b-index l.bytes))
