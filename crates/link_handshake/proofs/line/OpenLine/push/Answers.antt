-- One byte more that is no LF.
use Rattle.std.proofs.Common.{arith, ap, length}
use Rattle.link_handshake.proofs.Fronts.{IsOpenLine-push}
use Rattle.link_handshake.proofs.line.OpenLine.push.Goals as goal

pub invariant_of-self : goal.invariant_of-self
invariant_of-self c =
    IsOpenLine-push _ _ _ c.push.ensures.items c.self.invariant (omega (arith, ap length c.self.view_is, c.requires.room)) c.requires.open

pub returns-clause-line : goal.returns-clause-line
returns-clause-line c =
    IsOpenLine-push _ _ _ c.push.ensures.items c.self.invariant (omega (arith, ap length c.self.view_is, c.requires.room)) c.requires.open
