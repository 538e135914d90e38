-- What was written of an outbox, and what is left of it.
use Rattle.std.proofs.Common.{◌≡◌, ◌+◌, ◌≤◌, ◌++◌, ℕ, false, List, Option, take, drop, length, refl, ◌∙◌, ap, subst, drop-drop, length-drop, arith}
use Rattle.std.proofs.lemmas.List.{drop-append-le}
use Rattle.pk_outside.specs.Streams.{Got, GotUpTo}
use Rattle.pk_outside.specs.Allowing.{MayGo}
use Rattle.pk_outside.proofs.Going.{MayGo-rest}
use Rattle.pk_outside.proofs.Written.{GotUpTo-more}
use Rattle.authority_model.specs.declared.load.Loaded.{Loaded}
use Rattle.authority_model.specs.declared.message.Output.{Output}
use Rattle.authority_messages.specs.Messages.{message_for}
use Rattle.authority_messages.specs.Outgoing.{under}
use Rattle.authority_messages.specs.Texts.{message_text}
use Rattle.dbus_values.specs.Form.{message_bytes}

-- more of the rest was written
pub wrote_on : (a b c : Option (List ℕ)) (bytes items rest : List ℕ) (start n : ℕ) → rest ≡ drop start items → GotUpTo a b bytes (drop start items) → Got b c (take n rest) → GotUpTo a c bytes (drop (start + n) items)
wrote_on a b c bytes items rest start n is before wrote =
    subst (λ (r : List ℕ). GotUpTo a c bytes r) (drop-drop n start items) (GotUpTo-more a b c bytes (drop start items) n before (subst (λ (r : List ℕ). Got b c (take n r)) is wrote))

-- no more than there was
pub still_within : (items rest : List ℕ) (start n : ℕ) → rest ≡ drop start items → start ≤ length items → n ≤ length rest → start + n ≤ length items
still_within items rest start n is within few =
    let left = ap length is ∙ length-drop start items in
    omega (arith, within, few, left)

-- what was put behind the bytes is behind those that are left
put_behind : (before now message view : List ℕ) (start : ℕ) → drop start before ≡ view → start ≤ length before → now ≡ before ++ message → drop start now ≡ view ++ message
put_behind before now message view start is within put =
    ap (drop start) put ∙ drop-append-le start before message within ∙ ap (λ (l : List ℕ). l ++ message) is

-- what is left may still be written
pub went_on : (Allowed : List ℕ → Type 0) (b c : Option (List ℕ)) (items rest : List ℕ) (start n : ℕ) → rest ≡ drop start items → MayGo Allowed b (drop start items) → Got b c (take n rest) → MayGo Allowed c (drop (start + n) items)
went_on Allowed b c items rest start n is may wrote =
    subst (λ (r : List ℕ). MayGo Allowed c r) (drop-drop n start items) (MayGo-rest Allowed b c (drop start items) n may (subst (λ (r : List ℕ). Got b c (take n r)) is wrote))

-- the message of an output
text_is : (loads : List Loaded) (serial : ℕ) (o : Output) → message_bytes false (under serial (message_for loads o.message)) ≡ message_text loads serial o
unfolding message_text
text_is loads serial o = refl

-- a message that was put behind the bytes is behind those that are left
pub message_behind : (before now view : List ℕ) (start : ℕ) (loads : List Loaded) (serial : ℕ) (o : Output) → drop start before ≡ view → start ≤ length before
    → now ≡ before ++ message_bytes false (under serial (message_for loads o.message)) → drop start now ≡ view ++ message_text loads serial o
message_behind before now view start loads serial o is within put = put_behind before now (message_text loads serial o) view start is within (put ∙ ap (λ (l : List ℕ). before ++ l) (text_is loads serial o))
