-- What a server answers to the bytes of a client, over whole lists of bytes.
use Rattle.std.specs.Prelude.{ℕ, zero, suc, ◌==◌, List, [], ◌∷◌, if◌then◌else◌}
use Rattle.link_handshake.specs.Lines.{Front, Line, Part, Over, front}
use Rattle.link_handshake.specs.Answers.{line_answer}
use Rattle.link_handshake.specs.declared.server.ShakeReply.{ShakeReply}
use Rattle.link_handshake.specs.declared.server.ShakeFault.{ShakeFault}
use Rattle.link_handshake.specs.declared.server.ShakeFault.TheVariants as fault
use Rattle.link_handshake.specs.declared.answer.Phase.{Phase}
use Rattle.link_handshake.specs.declared.answer.Phase.TheVariants.{Waiting}
use Rattle.link_handshake.specs.declared.answer.LineAnswer.{LineAnswer}
use Rattle.link_handshake.specs.declared.answer.LineAnswer.TheVariants as answer

-- how it stands after bytes: more may come, or messages follow and these are their bytes, or there was a fault
pub data Standing : Type 0 where
  Open : Standing
  Begun : (messages : List ℕ) → Standing
  Failed : (cause : ShakeFault) → Standing

-- the replies in the order of the lines, and how it then stands
pub record Shaken : Type 0 where
  pub replies : List ShakeReply
  pub standing : Standing

abbrev pub silent : Standing → Shaken
silent standing = record { replies = []; standing = standing }

-- a reply, and then the others
abbrev pub reply_first : ShakeReply → Shaken → Shaken
reply_first reply shaken = record { replies = reply ∷ shaken.replies; standing = shaken.standing }

-- behind a line: what it is answered, and what the rest is answered from there
abbrev pub then_answers : (Phase → List ℕ → Shaken) → List ℕ → LineAnswer → Shaken
then_answers go rest (answer.Says reply phase) = reply_first reply (go phase rest)
then_answers go rest answer.Begins = silent (Begun rest)
then_answers go rest answer.Bad = silent (Failed fault.BadLine)

-- where a line may stand
abbrev pub at_front : ℕ → Phase → (Phase → List ℕ → Shaken) → Front → Shaken
at_front door phase go (Line line rest) = then_answers go rest (line_answer door phase line)
at_front door phase go Part = silent Open
at_front door phase go Over = silent (Failed fault.TooLong)

-- where no line may stand any more
abbrev pub at_end : List ℕ → Shaken
at_end [] = silent Open
at_end (b ∷ bytes) = silent (Failed fault.TooMany)

-- what lines are answered, where so many may still come
unfoldable pub answers : ℕ → ℕ → Phase → List ℕ → Shaken
answers door zero phase bytes = at_end bytes
answers door (suc left) phase bytes = at_front door phase (answers door left) (front bytes)

-- what all bytes of a client are answered at a door of that uid: a byte 0, and then at most 16 lines
abbrev pub shake : ℕ → List ℕ → Shaken
shake door [] = silent Open
shake door (b ∷ bytes) = if b == 0 then answers door 16 Waiting bytes else silent (Failed fault.BadLine)
