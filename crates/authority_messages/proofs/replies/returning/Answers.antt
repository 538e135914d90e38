use Rattle.std.proofs.Common.{◌≡◌, ℕ, List, [], ◌∷◌, max, true, sym, subst, arith}
use Rattle.std.proofs.lemmas.List.{append-nil}
use Rattle.dbus_values.specs.Trees.{type_of}
use Rattle.dbus_values.specs.Signatures.{is_signature}
use Rattle.authority_messages.specs.Outgoing.{MayBeSent}
use Rattle.authority_messages.specs.Built.{Rows}
use Rattle.authority_messages.proofs.Sent.{return_is}
use Rattle.authority_messages.proofs.replies.returning.Goals as goal

pub returns : goal.returns
returns c = record {
  message = λ deep t built. c.return_to.ensures.message (max 0 deep) (t ∷ []) (c.in_ok-add.ensures.ok deep t built [] 0 c.no_values-body.ensures.none);
  form = λ deep t le sig built.
      let rows : Rows (max 0 deep) c.add.new.values (t ∷ []) = c.in_ok-add.ensures.ok deep t built [] 0 c.no_values-body.ensures.none in
      subst MayBeSent (sym (c.return_to.ensures.message (max 0 deep) (t ∷ []) rows))
      (return_is c.args.answered (t ∷ []) c.requires (omega arith) (subst (λ (s : List ℕ). is_signature s ≡ true) (sym (append-nil (type_of t))) sig) (rows.fit 64 (omega arith)));
}
