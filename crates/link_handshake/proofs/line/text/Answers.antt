-- The last byte is a CR, or another byte.
use Rattle.std.proofs.Common.{sym}
use Rattle.link_handshake.proofs.Texts.{text_of-cr, text_of-other}
use Rattle.link_handshake.proofs.line.text.Goals as goal

pub returns-then-last-ne13 : goal.returns-then-last-ne13
returns-then-last-ne13 c = record { text = sym (text_of-other _ _ _ c.in_ok-last.ensures.cases.0 c.if-last-ne13.true) }

pub returns : goal.returns
returns c = record { text = sym (text_of-cr _ _ _ c.in_ok-last.ensures.cases.0 c.if-last-ne13.false) }
