use Rattle.std.proofs.Common.{lit≤, [], ◌∷◌}
use Rattle.authority_messages.specs.Values.{struct, boolean, pairs}
use Rattle.authority_messages.proofs.Signatures.{result_sig}
use Rattle.authority_messages.proofs.Returned.{message_ok, form_ok}
use Rattle.authority_messages.proofs.verdict.told.Goals as goal

pub returns : goal.returns
returns c = record {
  message = message_ok c.returning.result c.args.answered c.in_ok-value.value 3 _ c.in_ok-value.ensures.value c.returning.ensures.message;
  form = form_ok c.returning.result c.in_ok-value.value 3 (struct (boolean c.args.verdict.now.yes ∷ boolean c.args.verdict.now.challenge ∷ pairs c.args.details.now ∷ [])) (lit≤ tt) result_sig c.in_ok-value.ensures.value c.returning.ensures.form;
}
