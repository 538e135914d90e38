use Rattle.std.proofs.Common.{◌≤◌, length}
use Rattle.dbus_values.specs.Next.{seen}
use Rattle.usual_calls.specs.Headers.{AreOfCheck, BeginsWithFields}
use Rattle.usual_calls.proofs.Learning.{if_some, of_check}
use Rattle.usual_calls.proofs.usual.check_fields.Goals as goal

pub returns-then-is_check-clause-fields : goal.returns-then-is_check-clause-fields
returns-then-is_check-clause-fields c =
    if_some c.fields_of.result (λ f. length f.now ≤ 4096) (λ f. BeginsWithFields f.now c.args.bytes.now) (λ f. AreOfCheck f.now) (λ f few begins. of_check c.args.bytes.now f.now c.args.used (seen c.args.message.now) c.requires.read (c.is_check.ensures.check c.if-is_check.true) few begins) c.fields_of.ensures.few c.fields_of.ensures.fields
