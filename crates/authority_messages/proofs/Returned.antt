-- A return of one value that was built.
use Rattle.std.proofs.Common.{◌≡◌, ℕ, ◌≤◌, List, [], ◌∷◌, Bool, true, false, Some, None, Result, Ok, Err, IfOk, refl}
use Rattle.std.specs.Prelude.{if◌then◌else◌}
use Rattle.dbus_values.specs.declared.value.Value.{Value}
use Rattle.dbus_values.specs.declared.wire_out.WireOut.{WireOut}
use Rattle.dbus_values.specs.Signatures.{is_signature}
use Rattle.dbus_values.specs.Trees.{Tree, type_of}
use Rattle.pk_types.specs.declared.values.Pair.{Pair}
use Rattle.authority_messages.specs.Outgoing.{outgoing, return_to, MayBeSent}
use Rattle.authority_messages.specs.Built.{Builds}

pub message_ok : {E : Type 0} (r : Result WireOut E) (answered : ℕ) (value : Value) (deep : ℕ) (t : Tree) → Builds false deep value t
    → IfOk r (λ out. (deep : ℕ) (t : Tree) → Builds false deep value t → outgoing out ≡ return_to answered (t ∷ [])) → IfOk r (λ out. outgoing out ≡ return_to answered (t ∷ []))
message_ok (Ok out) answered value deep t built says = says deep t built
message_ok (Err e) answered value deep t built says = tt

pub form_ok : {E : Type 0} (r : Result WireOut E) (value : Value) (deep : ℕ) (t : Tree) → deep ≤ 64 → is_signature (type_of t) ≡ true → Builds false deep value t
    → IfOk r (λ out. (deep : ℕ) (t : Tree) → deep ≤ 64 → is_signature (type_of t) ≡ true → Builds false deep value t → MayBeSent (outgoing out)) → IfOk r (λ out. MayBeSent (outgoing out))
form_ok (Ok out) value deep t le sig built says = says deep t le sig built
form_ok (Err e) value deep t le sig built says = tt

pub some_details : (b : Bool) (d e : List Pair) → Some d ≡ (if b then None else Some e) → (b ≡ false) × (d ≡ e)
some_details true d e same = absurd (cc)
some_details false d e same = (refl, cc)

pub none_details : (b : Bool) (e : List Pair) → None ≡ (if b then None else Some e) → b ≡ true
none_details true e same = refl
none_details false e same = absurd (cc)
