-- What a line of the client is answered, by where the authentication stands.
use Rattle.std.specs.Prelude.{ℕ, Bool, ◌||◌, List, drop, Option, Some, None, if◌then◌else◌, codes, bytes_eq, nat_eq}
use Rattle.std.specs.List.{starts_with}
use Rattle.link_handshake.specs.Lines.{text_of}
use Rattle.link_handshake.specs.Digits.{uid_digits}
use Rattle.link_handshake.specs.declared.server.ShakeReply.TheVariants as reply
use Rattle.link_handshake.specs.declared.answer.Phase.{Phase}
use Rattle.link_handshake.specs.declared.answer.Phase.TheVariants.{Waiting, DataAwaited, Accepted}
use Rattle.link_handshake.specs.declared.answer.LineAnswer.{LineAnswer}
use Rattle.link_handshake.specs.declared.answer.LineAnswer.TheVariants.{Says, Begins, Bad}

-- the digits of the door's uid are accepted, and all else is rejected
abbrev pub identity : ℕ → List ℕ → LineAnswer
identity door digits = if bytes_eq digits (uid_digits door) then Says reply.Ok Accepted else Says reply.Rejected Waiting

-- AUTH, alone or with a space and anything behind it
abbrev pub is_auth : List ℕ → Bool
is_auth text = bytes_eq text (codes "AUTH") || starts_with nat_eq text (codes "AUTH ")

-- ERROR, alone or with a space and anything behind it
abbrev pub is_error : List ℕ → Bool
is_error text = bytes_eq text (codes "ERROR") || starts_with nat_eq text (codes "ERROR ")

-- before the client was asked or accepted
abbrev pub waiting_answer : ℕ → List ℕ → LineAnswer
waiting_answer door text =
    if bytes_eq text (codes "BEGIN") then Bad
    else if bytes_eq text (codes "AUTH EXTERNAL") then Says reply.Data DataAwaited
    else if starts_with nat_eq text (codes "AUTH EXTERNAL ") then identity door (drop 14 text)
    else if is_auth text || is_error text then Says reply.Rejected Waiting
    else Says reply.ErrorLine Waiting

-- where the client was asked for its data; none means the uid of the door
abbrev pub data_answer : ℕ → List ℕ → LineAnswer
data_answer door text =
    if bytes_eq text (codes "BEGIN") then Bad
    else if bytes_eq text (codes "DATA") || bytes_eq text (codes "DATA ") then Says reply.Ok Accepted
    else if starts_with nat_eq text (codes "DATA ") then identity door (drop 5 text)
    else if bytes_eq text (codes "CANCEL") || is_error text then Says reply.Rejected Waiting
    else Says reply.ErrorLine DataAwaited

-- where the client was accepted
abbrev pub accepted_answer : List ℕ → LineAnswer
accepted_answer text =
    if bytes_eq text (codes "BEGIN") then Begins
    else if bytes_eq text (codes "CANCEL") || is_error text then Says reply.Rejected Waiting
    else Says reply.ErrorLine Accepted

abbrev pub text_answer : ℕ → Phase → List ℕ → LineAnswer
text_answer door Waiting text = waiting_answer door text
text_answer door DataAwaited text = data_answer door text
text_answer door Accepted text = accepted_answer text

-- a line whose text isn't there, for want of its CR, is bad
abbrev pub text_answer_if : ℕ → Phase → Option (List ℕ) → LineAnswer
text_answer_if door phase None = Bad
text_answer_if door phase (Some text) = text_answer door phase text

unfoldable pub line_answer : ℕ → Phase → List ℕ → LineAnswer
line_answer door phase line = text_answer_if door phase (text_of line)
