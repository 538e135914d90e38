-- The answer that an item gives to a challenge.
use Rattle.std.proofs.Common.{◌≡◌, Bool, true, false, ◌&&◌, List, refl, ap, sym, ◌∙◌, Option, Some, None}
use Rattle.std.proofs.lemmas.Slice.Eq.{bytes_eq-Decides}
use Rattle.std.specs.Prelude.{if◌then◌else◌, option_and_then, bytes_eq}
use Rattle.pk_types.specs.declared.values.Identity.{Identity}
use Rattle.authority_model.specs.declared.event.Call.{Call}
use Rattle.authority_model.specs.declared.verdict.Cookie.{Cookie}
use Rattle.authority_model.specs.Words.{Bytes}
use Rattle.authority_model.specs.Lists.{any_of, when}
use Rattle.authority_model.specs.Values.{same_identity}
use Rattle.authority_model.specs.declared.journal.Item.{Item}
use Rattle.authority_model.specs.Peers.{live, is_root, call_in}
use Rattle.authority_model.specs.declared.pending.Pending.{Pending}
use Rattle.authority_model.specs.Challenges.{answer_to, responds}
use Rattle.authority_model.specs.Cookies.{cookie_text}
use Rattle.authority_model.specs.Licensed.{IsResponse, NoneResponds, FirstResponds}
use Rattle.authority_model.proofs.Cases.{both, when_some}
use Rattle.authority_laws.proofs.Calls.{call_is}

-- what the first answer among the later items is
abbrev pub FirstIs : List Item → List Item → Cookie → List Identity → Option Identity → Type 0
FirstIs later rest cookie offered None = NoneResponds later rest cookie offered
FirstIs later rest cookie offered (Some identity) = FirstResponds later rest cookie offered identity

-- an answer that an item gives to a challenge
responds_is : (call : Option Call) (cookie : Bytes) (ids : List Identity) (id : Identity) → option_and_then (responds cookie ids) call ≡ Some id → (call ≡ Some (Call.Respond cookie id)) × (any_of (same_identity id) ids ≡ true)
responds_is None cookie ids id e = absurd (cc)
responds_is (Some (Call.Respond cookie' identity)) cookie ids id e =
    let passes = when_some (bytes_eq cookie cookie' && any_of (same_identity identity) ids) identity id e in
    let parts = both (bytes_eq cookie cookie') (any_of (same_identity identity) ids) passes.0 in
    let same : cookie ≡ cookie' = (bytes_eq-Decides cookie cookie').0 parts.0 in
    (ap (λ c. Some (Call.Respond c identity)) (sym same) ∙ ap (λ x. Some (Call.Respond cookie x)) passes.1, ap (λ x. any_of (same_identity x) ids) (sym passes.1) ∙ parts.1)
responds_is (Some _) cookie ids id e = absurd (cc)

-- an answer to a challenge is a Respond as it should be
pub answer_is : (past : List Item) (i : Item) (ch : Pending) (id : Identity) → answer_to past ch i ≡ Some id → IsResponse past i ch.cookie ch.identities id
answer_is past i ch id e = of (live past i.entry.caller && is_root past i.entry.caller) refl e
  where
    of : (b : Bool) → (live past i.entry.caller && is_root past i.entry.caller) ≡ b → (if b then option_and_then (responds (cookie_text ch.cookie) ch.identities) (call_in i.entry.event) else None) ≡ Some id → IsResponse past i ch.cookie ch.identities id
    of true is e =
        let parts = both (live past i.entry.caller) (is_root past i.entry.caller) is in
        let said = responds_is (call_in i.entry.event) (cookie_text ch.cookie) ch.identities id e in
        let shape = call_is i.entry.event (Call.Respond (cookie_text ch.cookie) id) said.0 in
        record { serial = shape.0; quiet = shape.1; event = shape.2; lives = parts.0; root = parts.1; may_answer = said.1 }
    of false is e = absurd (cc)

-- such an answer is found
pub answer_found : (past : List Item) (i : Item) (ch : Pending) (id : Identity) → IsResponse past i ch.cookie ch.identities id → answer_to past ch i ≡ Some id
answer_found past i ch id h =
    ap (λ b. if b && is_root past i.entry.caller then option_and_then (responds (cookie_text ch.cookie) ch.identities) (call_in i.entry.event) else None) h.lives
    ∙ ap (λ b. if b then option_and_then (responds (cookie_text ch.cookie) ch.identities) (call_in i.entry.event) else None) h.root
    ∙ ap (λ e. option_and_then (responds (cookie_text ch.cookie) ch.identities) (call_in e)) h.event
    ∙ ap (λ b. when (b && any_of (same_identity id) ch.identities) id) ((bytes_eq-Decides (cookie_text ch.cookie) (cookie_text ch.cookie)).1 refl)
    ∙ ap (λ b. when b id) h.may_answer
