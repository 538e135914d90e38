-- Behind the byte 0 nothing is said.
use Rattle.std.proofs.Common.{◌∙◌, ap, ◌++◌, []}
use Rattle.link_handshake.specs.Shakes.{answers}
use Rattle.link_handshake.specs.declared.answer.Phase.TheVariants.{Waiting}
use Rattle.link_handshake.proofs.Steps.{answers-nil}
use Rattle.link_handshake.proofs.server.Handshake.feed.Goals as goal

pub returns-in-Start-clause-now : goal.returns-in-Start-clause-now
returns-in-Start-clause-now c = ap (λ line. answers c.self.inside.door 16 Waiting (line ++ [])) c.clear.ensures.empty ∙ answers-nil c.self.inside.door 16 Waiting
