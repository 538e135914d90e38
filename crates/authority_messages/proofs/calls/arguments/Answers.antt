use Rattle.std.proofs.Common.{List, ℕ, [], ◌∷◌, map, subst}
use Rattle.std.specs.Prelude.{codes}
use Rattle.authority_messages.specs.Values.{string, pairs, array, identity}
use Rattle.authority_messages.specs.Built.{Rows}
use Rattle.authority_messages.proofs.calls.arguments.Goals as goal

pub returns-clause-values : goal.returns-clause-values
returns-clause-values c =
    let action = c.args.dialogue.action.now in
    let text = c.args.dialogue.text.now in
    let icon = c.args.dialogue.icon.now in
    let details = pairs c.args.details.now in
    let one : Rows 0 c.add_bytes.new.values (string action ∷ []) =
    subst (λ (t : List ℕ). Rows 0 c.add_bytes.new.values (string t ∷ [])) c.bytes-action.ensures.bytes (c.in_ok-add_bytes.ensures.ok [] 0 c.no_values-body.ensures.none) in
    let two : Rows 0 c.add_bytes-2.new.values (string action ∷ string text ∷ []) =
    subst (λ (t : List ℕ). Rows 0 c.add_bytes-2.new.values (string action ∷ string t ∷ [])) c.bytes-text.ensures.bytes (c.in_ok-add_bytes-2.ensures.ok (string action ∷ []) 0 one) in
    let three : Rows 0 c.add_bytes-3.new.values (string action ∷ string text ∷ string icon ∷ []) =
    subst (λ (t : List ℕ). Rows 0 c.add_bytes-3.new.values (string action ∷ string text ∷ string t ∷ [])) c.bytes-icon.ensures.bytes (c.in_ok-add_bytes-3.ensures.ok (string action ∷ string text ∷ []) 0 two) in
    let four : Rows 2 c.add.new.values (string action ∷ string text ∷ string icon ∷ details ∷ []) = c.in_ok-add.ensures.ok 2 details c.in_ok-details.ensures.value (string action ∷ string text ∷ string icon ∷ []) 0 three in
    let five =
    subst (λ (t : List ℕ). Rows 2 c.add_string.new.values (string action ∷ string text ∷ string icon ∷ details ∷ string t ∷ [])) c.in_ok-cookie.ensures.text (c.in_ok-add_string.ensures.ok (string action ∷ string text ∷ string icon ∷ details ∷ []) 2 four) in
    c.in_ok-add-2.ensures.ok 5 (array (codes "(sa{sv})") (map identity c.args.identities.now)) c.in_ok-offered.ensures.value _ 2 five
