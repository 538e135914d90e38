-- The digits stand at the front.
use Rattle.std.proofs.Common.{arith, ◌∙◌}
use Rattle.std.proofs.lemmas.List.{length-take-le}
use Rattle.link_handshake.proofs.UidDigits.{uid_written}
use Rattle.link_handshake.proofs.digits.write_uid.Goals as goal

pub returns-clause-digits : goal.returns-clause-digits
returns-clause-digits c =
    uid_written c.encode_to_slice.result _ _ _ _ c.args.uid c.encode_to_slice.ensures.fits.1 c.encode_to_slice.ensures.written
    (length-take-le _ c.args.digits.now (omega (arith, c.format.ensures.fits, c.as_bytes-decimal.ensures.len)))
    (c.as_bytes-decimal.ensures.value ∙ c.format.ensures.text)
