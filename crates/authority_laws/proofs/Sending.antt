-- What was sent in a legal history: to whom, what, with which loads, and how much.
use Rattle.std.proofs.Common.{◌≡◌, ◌≢◌, ℕ, ◌==◌, Bool, true, false, ◌&&◌, ◌||◌, not, List, [], ◌∷◌, ◌++◌, refl, ap, sym, ◌∙◌, is_some, subst}
use Rattle.std.specs.Prelude.{if◌then◌else◌, filter}
use Rattle.std.proofs.lemmas.Bool.{eqb-true}
use Rattle.authority_model.specs.declared.journal.Item.{Item}
use Rattle.authority_model.specs.declared.message.Message.{Message}
use Rattle.authority_model.specs.declared.message.Output.{Output}
use Rattle.authority_model.specs.Lists.{Each}
use Rattle.authority_model.specs.Peers.{live, departed, departs, uid_of}
use Rattle.authority_model.specs.Sent.{sent_to}
use Rattle.authority_model.specs.Legal.{Legal}
use Rattle.authority_model.proofs.Cases.{Each-append}
use Rattle.authority_laws.specs.Batches.{AreSendable, IsSendable}
use Rattle.authority_laws.specs.Outputs.{MayGo, AllMayGo}
use Rattle.authority_laws.proofs.OutputCases.{answers_go}

-- each output of an item of a legal history may go
pub outputs_go : (past : List Item) (i : Item) → Legal (i ∷ past) → AllMayGo past i.entry.outputs
outputs_go past i legal = subst (AllMayGo past) (sym legal.0.answered) (answers_go past legal.1 i.entry.caller i.entry.moment i.entry.salt i.entry.event i.loaded)

-- each beginning of a legal history is legal
pub beginning_legal : (later past : List Item) → Legal (later ++ past) → Legal past
beginning_legal [] past legal = legal
beginning_legal (i ∷ later) past legal = beginning_legal later past legal.1

-- a fact of what may go to a connection other than 0 holds of all that was sent to it
pub each_to : (P : Output → Type 0) (past : List Item) (c : ℕ) → ((o : Output) → o.to ≡ c → MayGo past o.to o.message → P o) → (outputs : List Output) → AllMayGo past outputs → Each P (filter (λ o. o.to == c) outputs)
each_to P past c h [] goes = tt
each_to P past c h (o ∷ outputs) goes = of (o.to == c) refl (each_to P past c h outputs goes.1)
  where
    of : (b : Bool) → (o.to == c) ≡ b → Each P (filter (λ o. o.to == c) outputs) → Each P (if b then o ∷ filter (λ o. o.to == c) outputs else filter (λ o. o.to == c) outputs)
    of true is rest = (h o (eqb-true o.to c is) goes.0, rest)
    of false is rest = rest

-- nothing goes to a connection other than 0 that is not live
none_to : (past : List Item) (c : ℕ) → c ≢ 0 → live past c ≡ false → (outputs : List Output) → AllMayGo past outputs → filter (λ o. o.to == c) outputs ≡ []
none_to past c other gone [] goes = refl
none_to past c other gone (o ∷ outputs) goes = of (o.to == c) refl (none_to past c other gone outputs goes.1)
  where
    not_live : live past o.to ≡ true → o.to ≡ c → ⊥
    not_live lives same = absurd (cc (lives, gone, same))

    never : (m : Message) → MayGo past o.to m → o.to ≡ c → ⊥
    never (Message.Reply serial answer) goes same = not_live goes.0 same
    never (Message.Begin path action text icon details cookie identities) goes same = not_live goes same
    never (Message.CancelBegin path cookie) goes same = not_live goes same
    never Message.Changed goes same = not_live goes same
    never Message.LoadWanted goes same = other (sym same ∙ goes)
    never Message.StopWanted goes same = other (sym same ∙ goes)

    of : (b : Bool) → (o.to == c) ≡ b → filter (λ o. o.to == c) outputs ≡ [] → (if b then o ∷ filter (λ o. o.to == c) outputs else filter (λ o. o.to == c) outputs) ≡ []
    of true is rest = absurd (never o.message goes.0 (eqb-true o.to c is))
    of false is rest = rest

-- who departed stays so, and is not live
pub stays_departed : (later past : List Item) (c : ℕ) → departed past c ≡ true → departed (later ++ past) c ≡ true
stays_departed [] past c gone = gone
stays_departed (i ∷ later) past c gone = of (departed (later ++ past) c) (stays_departed later past c gone)
  where
    of : (b : Bool) → b ≡ true → (b || (is_some (uid_of (later ++ past) c) && departs c i)) ≡ true
    of true e = refl
    of false e = absurd (cc)

departed_not_live : (past : List Item) (c : ℕ) → departed past c ≡ true → live past c ≡ false
departed_not_live past c gone = of (is_some (uid_of past c)) (departed past c) gone
  where
    of : (a b : Bool) → b ≡ true → (a && not b) ≡ false
    of true true e = refl
    of false b e = refl
    of true false e = absurd (cc)

-- Nothing is sent to a connection other than 0 after its departure.
pub sent_no_more : (later past : List Item) (c : ℕ) → c ≢ 0 → Legal (later ++ past) → departed past c ≡ true → sent_to (later ++ past) c ≡ sent_to past c
sent_no_more [] past c other legal gone = refl
sent_no_more (i ∷ later) past c other legal gone =
    let none = none_to (later ++ past) c other (departed_not_live (later ++ past) c (stays_departed later past c gone)) i.entry.outputs (outputs_go (later ++ past) i legal) in
    let rest = sent_no_more later past c other legal.1 gone in
    ap (λ xs. sent_to (later ++ past) c ++ xs) none ∙ append_nil (sent_to (later ++ past) c) ∙ rest
  where
    append_nil : (xs : List Output) → xs ++ [] ≡ xs
    append_nil [] = refl
    append_nil (x ∷ xs) = ap (λ r. x ∷ r) (append_nil xs)

-- What is sent to a connection other than 0 can be written.
pub sent_sendable : (past : List Item) (c : ℕ) → c ≢ 0 → Legal past → AreSendable (sent_to past c)
sent_sendable [] c other legal = tt
sent_sendable (i ∷ past) c other legal = Each-append (λ o. IsSendable o.message) (sent_to past c) (filter (λ o. o.to == c) i.entry.outputs) (sent_sendable past c other legal.1) (each_to (λ o. IsSendable o.message) past c one i.entry.outputs (outputs_go past i legal))
  where
    one : (o : Output) → o.to ≡ c → MayGo past o.to o.message → IsSendable o.message
    one o same goes = of o.message goes
      where
        of : (m : Message) → MayGo past o.to m → IsSendable m
        of (Message.Reply serial answer) goes = goes.1
        of (Message.Begin path action text icon details cookie identities) goes = tt
        of (Message.CancelBegin path cookie) goes = tt
        of Message.Changed goes = tt
        of Message.LoadWanted goes = other (sym same ∙ goes)
        of Message.StopWanted goes = other (sym same ∙ goes)
