-- The bytes so far are plain.
use Rattle.std.proofs.Common.{subst, refl}
use Rattle.std.proofs.lemmas.List.{take_all}
use Rattle.keyfile_text.specs.Runs.{IsPlain}
use Rattle.keyfile_text.proofs.Decodes.{plain_more}
use Rattle.keyfile_text.proofs.listing.next_special.Goals as goal

pub loop-i-preserved : goal.loop-i-preserved
loop-i-preserved c = plain_more c.args.bytes.now c.loop-i.i _ c.loop-i-test.true refl c.loop-i.invariant c.if-b-eq92.false c.if-b-eq59.false

pub returns : goal.returns
returns c = record { found = tt; none = subst IsPlain (take_all c.loop-i.i c.args.bytes.now c.loop-i-test.false) c.loop-i.invariant }
