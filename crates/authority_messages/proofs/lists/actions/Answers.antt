use Rattle.std.proofs.Common.{refl, lit≤, map}
use Rattle.std.specs.Prelude.{codes}
use Rattle.authority_messages.specs.Values.{array, description}
use Rattle.authority_messages.specs.Messages.{actions_of}
use Rattle.authority_messages.proofs.Signatures.{description_item, descriptions_sig}
use Rattle.authority_messages.proofs.Returned.{message_ok, form_ok}
use Rattle.authority_messages.proofs.lists.actions.Goals as goal

pub array-requires : goal.array-requires
array-requires c = record { plain = refl; item = description_item }

pub returns : goal.returns
returns c =
    let built = c.in_ok-value.ensures.value 3 (map (description c.args.locale.now) (actions_of c.args.loads.now c.args.load)) c.in_ok-items.ensures.items in
    record {
      message = message_ok c.returning.result c.args.answered c.in_ok-value.value 4 (array (codes "(ssssssuuua{ss})") (map (description c.args.locale.now) (actions_of c.args.loads.now c.args.load))) built c.returning.ensures.message;
      form = form_ok c.returning.result c.in_ok-value.value 4 (array (codes "(ssssssuuua{ss})") (map (description c.args.locale.now) (actions_of c.args.loads.now c.args.load))) (lit≤ tt) descriptions_sig built c.returning.ensures.form;
    }
