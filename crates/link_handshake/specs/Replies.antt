-- The bytes of replies.
use Rattle.std.specs.Prelude.{ℕ, List, ◌++◌, codes, flat_map}
use Rattle.std.specs.Int.{w128, to_be_bytes}
use Rattle.hex.specs.Hex.{encode_lower}
use Rattle.link_handshake.specs.declared.server.ShakeReply.{ShakeReply}
use Rattle.link_handshake.specs.declared.server.ShakeReply.TheVariants as reply

-- 32 lower-case hexadecimal digits
abbrev pub guid_digits : ℕ → List ℕ
guid_digits guid = encode_lower (to_be_bytes w128 guid)

-- the line of a reply, with its end
abbrev pub reply_line : ℕ → ShakeReply → List ℕ
reply_line guid reply.Ok = codes "OK " ++ (guid_digits guid ++ codes "\r\n")
reply_line guid reply.Data = codes "DATA\r\n"
reply_line guid reply.Rejected = codes "REJECTED EXTERNAL\r\n"
reply_line guid reply.ErrorLine = codes "ERROR\r\n"

-- the lines of replies
abbrev pub reply_lines : ℕ → List ShakeReply → List ℕ
reply_lines guid replies = flat_map (reply_line guid) replies
