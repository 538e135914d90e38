-- What is sent in place of what is too long.
use Rattle.std.proofs.Common.{◌≡◌, List, [], Bool, true, false, Result, Ok, Err, IfOk, refl, ap, sym, ◌∙◌}
use Rattle.std.specs.Prelude.{if◌then◌else◌}
use Rattle.pk_types.specs.declared.values.Identity.{Identity}
use Rattle.pk_types.specs.declared.values.Pair.{Pair}
use Rattle.dbus_values.specs.declared.wire_out.WireOut.{WireOut}
use Rattle.authority_messages.specs.Outgoing.{Outgoing, outgoing, IsSent, MayBeSent}
use Rattle.authority_messages.specs.Messages.{is_over}
use Rattle.authority_messages.proofs.Sizes.{sent_unless_over}

-- a choice by what is over the limit, of which one side is known
pub over_taken : (b : Bool) (whole short : Outgoing) → b ≡ true → (if b then short else whole) ≡ short
over_taken true whole short e = refl
over_taken false whole short e = absurd (cc)

pub whole_taken : (b : Bool) (whole short : Outgoing) → b ≡ false → (if b then short else whole) ≡ whole
whole_taken true whole short e = absurd (cc)
whole_taken false whole short e = refl

-- an answer that is not a text is too long, whatever the size of the error is
pub reply_over : (unspoken : Bool) (out whole short : Outgoing) → out ≡ (if unspoken then short else whole) → is_over out ≡ true → (if unspoken then short else (if is_over whole then short else whole)) ≡ short
reply_over true out whole short is over = refl
reply_over false out whole short is over = over_taken (is_over whole) whole short (ap is_over (sym is) ∙ over)

pub reply_whole : (unspoken : Bool) (out whole short : Outgoing) → out ≡ (if unspoken then short else whole) → is_over out ≡ false → (if unspoken then short else (if is_over whole then short else whole)) ≡ out
reply_whole true out whole short is over = sym is
reply_whole false out whole short is over = whole_taken (is_over whole) whole short (ap is_over (sym is) ∙ over) ∙ sym is

pub sent_whole : (out : Outgoing) → MayBeSent out → is_over out ≡ false → IsSent out
sent_whole out may fits = sent_unless_over out may fits

pub sent_ok : {E : Type 0} (r : Result WireOut E) (details : List Pair) (identities : List Identity) → details ≡ [] → identities ≡ [] → IfOk r (λ out. details ≡ [] → identities ≡ [] → IsSent (outgoing out)) → IfOk r (λ out. IsSent (outgoing out))
sent_ok (Ok out) details identities none nobody sent = sent none nobody
sent_ok (Err e) details identities none nobody sent = tt
