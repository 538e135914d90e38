-- A message's size, whatever its serial is, and whether it is over the limit.
use Rattle.std.proofs.Common.{◌≡◌, ℕ, ◌≤◌, nat_lt, length, Bool, true, false, refl, sym, subst, ◌∙◌, arith}
use Rattle.std.proofs.lemmas.Bool.Decides.{nat_tests}
use Rattle.dbus_values.specs.Form.{message_bytes}
use Rattle.dbus_values.specs.Capped.{capped}
use Rattle.dbus_values.proofs.Sending.{message_length}
use Rattle.dbus_values.specs.declared.codes.TheConstants.{MAX_MESSAGE}
use Rattle.authority_messages.specs.Outgoing.{Outgoing, under, MayBeSent, IsSent}
use Rattle.authority_messages.specs.Messages.{size, is_over}

pub same_size : (o : Outgoing) (serial : ℕ) → length (message_bytes false (under serial o)) ≡ size o
same_size o serial = message_length (under serial o) ∙ sym (message_length (under 1 o))

pub over_is : (n size : ℕ) → n ≡ capped size → nat_lt MAX_MESSAGE n ≡ nat_lt MAX_MESSAGE size
over_is n size is = go (nat_lt MAX_MESSAGE n) (nat_lt MAX_MESSAGE size) refl refl where
  go : (a b : Bool) → nat_lt MAX_MESSAGE n ≡ a → nat_lt MAX_MESSAGE size ≡ b → nat_lt MAX_MESSAGE n ≡ nat_lt MAX_MESSAGE size
  go true true p q = p ∙ sym q
  go false false p q = p ∙ sym q
  go true false p q = absurd (grind (arith, nat_tests))
  go false true p q = absurd (grind (arith, nat_tests))

below : (n : ℕ) → nat_lt MAX_MESSAGE n ≡ false → n ≤ MAX_MESSAGE
below n e = grind (arith, nat_tests)

pub sent_unless_over : (o : Outgoing) → MayBeSent o → is_over o ≡ false → IsSent o
sent_unless_over o may fits serial some small = may serial some small (subst (λ (n : ℕ). n ≤ MAX_MESSAGE) (sym (same_size o serial)) (below (size o) fits))
