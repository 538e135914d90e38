-- The messages of outputs, one after another.
use Rattle.std.proofs.Common.{◌≡◌, ℕ, zero, suc, ◌+◌, ◌-◌, ◌<◌, ◌≤◌, ◌≢◌, ◌==◌, Bool, true, false, Option, None, List, [], ◌∷◌, ◌++◌, refl, ap, sym, ◌∙◌, subst, append_assoc, arith, length, take, drop, get_or}
use Rattle.std.specs.Prelude.{if◌then◌else◌, slice_get, map, codes}
use Rattle.std.specs.Option.{option_map_or}
use Rattle.std.proofs.lemmas.Bool.Decides.{nat_tests}
use Rattle.std.proofs.lemmas.List.{append-nil, take_more, take-append-drop, length-take-le}
use mathlib.Core.List.{IsPrefix}
use Rattle.authority_laws.specs.Batches.{AreSendable, IsSendable, greatest_load, load_in_message, load_of}
use Rattle.authority_messages.specs.Messages.{actions_of, is_over, loaded_as, message_for, too_long}
use Rattle.authority_messages.specs.Outgoing.{Outgoing, return_to, under}
use Rattle.authority_messages.specs.Texts.{message_text, texts}
use Rattle.authority_messages.specs.Values.{array, description}
use Rattle.authority_model.specs.declared.load.Loaded.{Loaded}
use Rattle.authority_model.specs.declared.message.Answer.TheVariants as answer
use Rattle.authority_model.specs.declared.message.Message.{Message}
use Rattle.authority_model.specs.declared.message.Message.TheVariants as message
use Rattle.authority_model.specs.declared.message.Output.{Output}
use Rattle.authority_model.specs.declared.policy.Action.{Action}
use Rattle.authority_model.specs.Words.{Bytes}
use Rattle.dbus_values.specs.Form.{message_bytes}

-- a load stands in a longer list too
got_longer : (loads more : List Loaded) (i : ℕ) → i < length loads → slice_get (loads ++ more) i ≡ slice_get loads i
got_longer [] more i less = absurd (omega (arith, less))
got_longer (l ∷ loads) more zero less = refl
got_longer (l ∷ loads) more (suc i) less = got_longer loads more i (omega (arith, less))

loaded_longer : (loads more : List Loaded) (n : ℕ) → n ≤ length loads → loaded_as (loads ++ more) n ≡ loaded_as loads n
loaded_longer loads more n le = of (n == 0) refl
  where
    of : (b : Bool) → (n == 0) ≡ b → (if b then None else slice_get (loads ++ more) (n - 1)) ≡ (if b then None else slice_get loads (n - 1))
    of true is = refl
    of false is = let some : n ≢ 0 = grind (arith, nat_tests) in got_longer loads more (n - 1) (omega (arith, some, le))

-- so it has the same actions
actions_longer : (loads more : List Loaded) (n : ℕ) → n ≤ length loads → actions_of (loads ++ more) n ≡ actions_of loads n
actions_longer loads more n le = ap (λ (l : Option Loaded). option_map_or (λ (loaded : Loaded). loaded.policy.actions) l []) (loaded_longer loads more n le)

-- the reply that lists actions
abbrev listing : ℕ → Bytes → List Action → Outgoing
listing answered locale actions = return_to answered (array (codes "(ssssssuuua{ss})") (map (description locale) actions) ∷ [])

-- a message looks at the load that it names alone
message_longer : (loads more : List Loaded) (m : Message) → load_in_message m ≤ length loads → message_for (loads ++ more) m ≡ message_for loads m
message_longer loads more (message.Reply serial (answer.Actions load locale)) le =
    ap (λ (actions : List Action). if is_over (listing serial locale actions) then too_long serial else listing serial locale actions) (actions_longer loads more load le)
message_longer loads more (message.Reply serial (answer.Verdict verdict)) le = refl
message_longer loads more (message.Reply serial answer.Done) le = refl
message_longer loads more (message.Reply serial (answer.Name name)) le = refl
message_longer loads more (message.Reply serial (answer.Grants rows)) le = refl
message_longer loads more (message.Reply serial (answer.Refused cause)) le = refl
message_longer loads more (message.Begin path action text icon details cookie identities) le = refl
message_longer loads more (message.CancelBegin path cookie) le = refl
message_longer loads more message.Changed le = refl
message_longer loads more message.LoadWanted le = refl
message_longer loads more message.StopWanted le = refl

pub text_is : (loads : List Loaded) (k : ℕ) (o : Output) → message_text loads k o ≡ message_bytes false (under k (message_for loads o.message))
unfolding message_text
text_is loads k o = refl

text_longer : (loads more : List Loaded) (k : ℕ) (o : Output) → load_of o ≤ length loads → message_text (loads ++ more) k o ≡ message_text loads k o
text_longer loads more k o le = text_is (loads ++ more) k o ∙ ap (λ (out : Outgoing). message_bytes false (under k out)) (message_longer loads more o.message le) ∙ sym (text_is loads k o)

texts_longer : (loads more : List Loaded) (k : ℕ) (os : List Output) → greatest_load os ≤ length loads → texts (loads ++ more) k os ≡ texts loads k os
texts_longer loads more k [] named = refl
texts_longer loads more k (o ∷ os) named = (λ i. text_longer loads more k o (omega (arith, named)) i ++ texts_longer loads more (k + 1) os (omega (arith, named)) i)

-- the messages of outputs whose loads are there, where more loads follow
pub texts_prefix : (loads more : List Loaded) (k : ℕ) (os : List Output) → IsPrefix loads more → greatest_load os ≤ length loads → texts more k os ≡ texts loads k os
texts_prefix loads more k os p named = ap (λ (l : List Loaded). texts l k os) (sym p.1) ∙ texts_longer loads p.0 k os named

-- the messages of outputs in two parts
pub texts-append : (loads : List Loaded) (k : ℕ) (xs ys : List Output) → texts loads k (xs ++ ys) ≡ texts loads k xs ++ texts loads (k + length xs) ys
texts-append loads k [] ys = ap (λ (j : ℕ). texts loads j ys) (let e : k ≡ k + 0 = omega arith in e)
texts-append loads k (x ∷ xs) ys =
    ap (λ (l : List ℕ). message_text loads k x ++ l) (texts-append loads (k + 1) xs ys)
    ∙ sym (append_assoc (message_text loads k x) (texts loads (k + 1) xs) (texts loads (k + 1 + length xs) ys))
    ∙ ap (λ (j : ℕ). (message_text loads k x ++ texts loads (k + 1) xs) ++ texts loads j ys) (let e : k + 1 + length xs ≡ k + length (x ∷ xs) = omega arith in e)

-- one of outputs that can be written
pub sendable_at : (os : List Output) (i : ℕ) (o : Output) → i < length os → o ≡ get_or os i o → AreSendable os → IsSendable o.message
sendable_at [] i o less is all = absurd (omega (arith, less))
sendable_at (x ∷ os) zero o less is all = subst (λ (y : Output). IsSendable y.message) (sym is) all.0
sendable_at (x ∷ os) (suc i) o less is all = sendable_at os i o (omega (arith, less)) is all.1

-- the messages of one output more
pub texts_more : (loads : List Loaded) (first k : ℕ) (os : List Output) (i : ℕ) (o : Output) → i < length os → o ≡ get_or os i o → k ≡ first + i → texts loads first (take (i + 1) os) ≡ texts loads first (take i os) ++ message_text loads k o
texts_more loads first k os i o less is count =
    let many : first + length (take i os) ≡ k = (let t = length-take-le i os (omega (arith, less)) in omega (arith, t, count)) in
    ap (texts loads first) (take_more os i o less ∙ ap (λ (x : Output). take i os ++ x ∷ []) (sym is))
    ∙ texts-append loads first (take i os) (o ∷ [])
    ∙ ap (λ (j : ℕ). texts loads first (take i os) ++ texts loads j (o ∷ [])) many
    ∙ ap (λ (l : List ℕ). texts loads first (take i os) ++ l) (append-nil (message_text loads k o))

-- and those of the outputs behind it
pub texts_around : (loads : List Loaded) (first k : ℕ) (os : List Output) (i : ℕ) (o : Output) → i < length os → o ≡ get_or os i o → k ≡ first + i
    → (rest : List ℕ) × (texts loads first os ≡ (texts loads first (take i os) ++ message_text loads k o) ++ rest)
texts_around loads first k os i o less is count = (
  texts loads (first + length (take (i + 1) os)) (drop (i + 1) os),
  ap (texts loads first) (sym (take-append-drop (i + 1) os)) ∙ texts-append loads first (take (i + 1) os) (drop (i + 1) os)
      ∙ ap (λ (l : List ℕ). l ++ texts loads (first + length (take (i + 1) os)) (drop (i + 1) os)) (texts_more loads first k os i o less is count),
)
