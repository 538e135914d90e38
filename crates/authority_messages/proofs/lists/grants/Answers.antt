use Rattle.std.proofs.Common.{refl, lit≤, map}
use Rattle.std.specs.Prelude.{codes}
use Rattle.authority_messages.specs.Values.{array, authorization}
use Rattle.authority_messages.proofs.Signatures.{authorization_item, authorizations_sig}
use Rattle.authority_messages.proofs.Returned.{message_ok, form_ok}
use Rattle.authority_messages.proofs.lists.grants.Goals as goal

pub array-requires : goal.array-requires
array-requires c = record { plain = refl; item = authorization_item }

pub returns : goal.returns
returns c =
    let built = c.in_ok-value.ensures.value 5 (map authorization c.args.rows.now) c.in_ok-items.ensures.items in
    record {
      message = message_ok c.returning.result c.args.answered c.in_ok-value.value 6 (array (codes "(ss(sa{sv})tt)") (map authorization c.args.rows.now)) built c.returning.ensures.message;
      form = form_ok c.returning.result c.in_ok-value.value 6 (array (codes "(ss(sa{sv})tt)") (map authorization c.args.rows.now)) (lit≤ tt) authorizations_sig built c.returning.ensures.form;
    }
