-- What the byte brings about.
use Rattle.std.proofs.Common.{sym, ◌∙◌, ap, ◌++◌, ◌∷◌}
use Rattle.std.specs.Prelude.{if◌then◌else◌}
use Rattle.link_handshake.specs.Clients.{awaited, is_ok_line}
use Rattle.link_handshake.specs.Shakes.{Begun, Failed}
use Rattle.link_handshake.specs.declared.server.ShakeFault.TheVariants as fault
use Rattle.link_handshake.proofs.Steps.{awaited-too_long, awaited-open, awaited-line}
use Rattle.link_handshake.proofs.client.reply_byte.Goals as goal

pub returns-then-is_full-clause-step : goal.returns-then-is_full-clause-step
returns-then-is_full-clause-step c = λ more. awaited-too_long _ more _ c.is_full.ensures.line c.if-is_full.ensures.full

pub returns-then-byte-ne10-clause-now : goal.returns-then-byte-ne10-clause-now
returns-then-byte-ne10-clause-now c = awaited-open _ c.push.ensures.line

pub returns-then-is_ok-clause-step : goal.returns-then-is_ok-clause-step
returns-then-is_ok-clause-step c = λ more.
    ap (λ b. awaited (c.args.line.now ++ b ∷ more)) c.if-byte-ne10.false
    ∙ awaited-line c.args.line.now more c.bytes.ensures.line c.if-is_full.ensures.full
    ∙ ap (λ t. if t then Begun more else Failed fault.BadLine) (ap is_ok_line (sym c.bytes.ensures.bytes) ∙ sym c.if-is_ok.ensures.is)

pub returns-clause-step : goal.returns-clause-step
returns-clause-step c = λ more.
    ap (λ b. awaited (c.args.line.now ++ b ∷ more)) c.if-byte-ne10.false
    ∙ awaited-line c.args.line.now more c.bytes.ensures.line c.if-is_full.ensures.full
    ∙ ap (λ t. if t then Begun more else Failed fault.BadLine) (ap is_ok_line (sym c.bytes.ensures.bytes) ∙ sym c.if-is_ok.ensures.is)
