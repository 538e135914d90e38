-- What a handshake that was fed some bytes answers to the bytes to come.
use Rattle.std.specs.Prelude.{ℕ, List, ◌++◌, Option, Some, None}
use Rattle.link_handshake.specs.Shakes.{Standing, Open, Begun, Failed, Shaken, silent, reply_first, answers, shake}
use Rattle.link_handshake.specs.declared.server.ShakeStep.{ShakeStep}
use Rattle.link_handshake.specs.declared.server.ShakeStep.TheVariants as step
use Rattle.link_handshake.specs.declared.server.State.{State}
use Rattle.link_handshake.specs.declared.server.State.TheVariants as state

-- a handshake at a door of that uid: how far it has come, and the line that is open
pub record Shaking : Type 0 where
  pub door : ℕ
  pub state : State
  pub line : List ℕ

abbrev pub to_come_in : ℕ → State → List ℕ → List ℕ → Shaken
to_come_in door state.Start line bytes = shake door bytes
to_come_in door (state.Lines phase left) line bytes = answers door left phase (line ++ bytes)
to_come_in door state.Begun line bytes = silent (Begun bytes)
to_come_in door (state.Fault cause) line bytes = silent (Failed cause)

-- what it answers to the bytes to come
abbrev pub to_come : Shaking → List ℕ → Shaken
to_come h bytes = to_come_in h.door h.state h.line bytes

-- what is said in a step, and then the rest
abbrev pub said : ShakeStep → Shaken → Shaken
said step.More shaken = shaken
said (step.Say reply) shaken = reply_first reply shaken
said step.Begun shaken = shaken
said (step.Fault cause) shaken = shaken

-- how it stands after a step, where these bytes come behind it
abbrev pub stands : ShakeStep → List ℕ → Standing
stands step.More behind = Open
stands (step.Say reply) behind = Open
stands step.Begun behind = Begun behind
stands (step.Fault cause) behind = Failed cause

-- the step that is answered from now on, where the handshake is over
abbrev pub over_in : State → Option ShakeStep
over_in state.Start = None
over_in (state.Lines phase left) = None
over_in state.Begun = Some step.Begun
over_in (state.Fault cause) = Some (step.Fault cause)

abbrev pub over : Shaking → Option ShakeStep
over h = over_in h.state

-- the same after a step
abbrev pub over_after : ShakeStep → Option ShakeStep
over_after step.More = None
over_after (step.Say reply) = None
over_after step.Begun = Some step.Begun
over_after (step.Fault cause) = Some (step.Fault cause)
