use Rattle.link_handshake.proofs.Steps.{answers-nil}
use Rattle.link_handshake.proofs.server.behind_line.Goals as goal

pub returns-in-Says-clause-now : goal.returns-in-Says-clause-now
returns-in-Says-clause-now c = λ door. answers-nil door _ _
