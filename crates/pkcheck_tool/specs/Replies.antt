-- The reply to a check, its status and its lines.
use Rattle.std.specs.Prelude.{ℕ, Bool, true, false, List, [], ◌∷◌, ◌++◌, Option, Some, None, if◌then◌else◌, codes, is_some, flat_map}
use Rattle.std.specs.List.{list_any}
use Rattle.std.specs.Str.{bytes_eq}
use Rattle.pk_types.specs.declared.values.Pair.{Pair}
use Rattle.dbus_values.specs.Next.{Seen}
use Rattle.client_messages.specs.Answers.{answer_of}
use Rattle.client_messages.specs.declared.answer.ClientAnswer.{ClientAnswer}
use Rattle.client_messages.specs.declared.answer.ClientAnswer.TheVariants as answer
use Rattle.pkcheck_tool.specs.declared.asking.TheConstants.{SERIAL}
use Rattle.pkcheck_tool.specs.declared.reply.Reply.{Reply}
use Rattle.pkcheck_tool.specs.declared.reply.Reply.TheVariants as reply
use Rattle.pkcheck_tool.specs.declared.reply.TheConstants.{DISMISSED}
use Rattle.pkcheck_tool.specs.declared.status.CheckStatus.{CheckStatus}
use Rattle.pkcheck_tool.specs.declared.status.CheckStatus.TheVariants as status

-- the reply that an answer is: a verdict or an error
abbrev pub reply_of : ClientAnswer → Option Reply
reply_of (answer.Verdict authorized challenged details) = Some (reply.Verdict authorized challenged details)
reply_of answer.Done = None
reply_of (answer.Name name) = None
reply_of (answer.ErrorNamed name) = Some (reply.Error name)
reply_of answer.Other = None

-- the reply that a message is to the one call, which has the serial 1
abbrev pub reply_in : Seen → Option Reply
reply_in m = reply_of (answer_of SERIAL m)

-- whether a message is such a reply
abbrev pub is_reply : Seen → Bool
is_reply m = is_some (reply_in m)

-- whether one of the pairs has this key
abbrev pub has_key : List ℕ → List Pair → Bool
has_key key pairs = list_any (λ p. bytes_eq p.key key) pairs

-- The status of a reply: authorized; or only after a challenge; or neither, and then dismissed where the details say so.
abbrev pub status_of : Reply → CheckStatus
status_of (reply.Verdict true challenged details) = status.Yes
status_of (reply.Verdict false true details) = status.Challenge
status_of (reply.Verdict false false details) = if has_key DISMISSED.now details then status.Dismissed else status.No
status_of (reply.Error name) = status.Error

-- KEY=VALUE and LF (10); the equals sign is 61
abbrev pub pair_line : Pair → List ℕ
pair_line p = p.key ++ (61 ∷ (p.value ++ (10 ∷ [])))

-- each pair as a line
abbrev pub pair_lines : List Pair → List ℕ
pair_lines pairs = flat_map pair_line pairs

-- a name and LF
abbrev pub name_line : List ℕ → List ℕ
name_line name = name ++ (10 ∷ [])

-- what is written of a reply: its details in their order, or the error's name
abbrev pub lines_of : Reply → List ℕ
lines_of (reply.Verdict authorized challenged details) = pair_lines details
lines_of (reply.Error name) = name_line name
