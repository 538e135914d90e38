-- The client's half.
use Rattle.std.specs.Prelude.{ℕ, ◌==◌, Bool, ◌&&◌, List, [], ◌∷◌, ◌++◌, length, take, drop, Option, Some, None, if◌then◌else◌, codes, bytes_eq}
use Rattle.std.specs.List.{list_all}
use Rattle.std.specs.Char.{is_ascii_hexdigit}
use Rattle.link_handshake.specs.Lines.{Front, Line, Part, Over, front}
use Rattle.link_handshake.specs.Digits.{uid_digits}
use Rattle.link_handshake.specs.Shakes.{Standing, Open, Begun, Failed}
use Rattle.link_handshake.specs.declared.server.ShakeFault.TheVariants as fault
use Rattle.link_handshake.specs.declared.client.ClientStep.{ClientStep}
use Rattle.link_handshake.specs.declared.client.ClientStep.TheVariants as step
use Rattle.link_handshake.specs.declared.client.ClientState.{ClientState}
use Rattle.link_handshake.specs.declared.client.ClientState.TheVariants as state

-- what the client sends first: byte 0, and the line that names its uid
abbrev pub first_bytes : ℕ → List ℕ
first_bytes uid = 0 ∷ (codes "AUTH EXTERNAL " ++ (uid_digits uid ++ codes "\r\n"))

-- the line without its LF that accepts the client: OK, a space, 32 hexadecimal digits, and CR (13)
abbrev pub is_ok_line : List ℕ → Bool
is_ok_line line =
    (length line == 36) && (bytes_eq (take 3 line) (codes "OK ") && (list_all is_ascii_hexdigit (take 32 (drop 3 line)) && bytes_eq (drop 35 line) (13 ∷ [])))

-- how the client stands after the server's first line
abbrev pub at_reply : Front → Standing
at_reply (Line line rest) = if is_ok_line line then Begun rest else Failed fault.BadLine
at_reply Part = Open
at_reply Over = Failed fault.TooLong

-- how the client stands after these bytes of the server
abbrev pub awaited : List ℕ → Standing
awaited bytes = at_reply (front bytes)

-- a client that awaits the line, of which a part has come, or that is over
pub record ClientShaking : Type 0 where
  pub state : ClientState
  pub line : List ℕ

abbrev pub client_to_come_in : ClientState → List ℕ → List ℕ → Standing
client_to_come_in state.Awaiting line bytes = awaited (line ++ bytes)
client_to_come_in state.Accepted line bytes = Begun bytes
client_to_come_in (state.Fault cause) line bytes = Failed cause

-- how it stands after the bytes to come
abbrev pub client_to_come : ClientShaking → List ℕ → Standing
client_to_come c bytes = client_to_come_in c.state c.line bytes

-- how it stands after a step
abbrev pub client_stands : ClientStep → Standing
client_stands step.More = Open
client_stands step.SendBegin = Begun []
client_stands (step.Fault cause) = Failed cause

-- the step that is answered from now on, where the client is over
abbrev pub client_over_in : ClientState → Option ClientStep
client_over_in state.Awaiting = None
client_over_in state.Accepted = Some step.SendBegin
client_over_in (state.Fault cause) = Some (step.Fault cause)

abbrev pub client_over : ClientShaking → Option ClientStep
client_over c = client_over_in c.state

-- the same after a step
abbrev pub client_over_after : ClientStep → Option ClientStep
client_over_after step.More = None
client_over_after step.SendBegin = Some step.SendBegin
client_over_after (step.Fault cause) = Some (step.Fault cause)
