use Rattle.std.proofs.Common.{◌≡◌, List, [], ℕ, Option, OnOk, ap, sym, subst, ◌∙◌, Bor}
use Rattle.std.specs.Option.{option_copied, unwrap_or}
use Rattle.authority_messages.specs.Values.{string, text_for}
use Rattle.authority_messages.specs.Built.{Adds}
use Rattle.authority_messages.proofs.actions.add_localized.Goals as goal

pub returns-in-Some : goal.returns-in-Some
returns-in-Some c =
    let e : c.in-Some.text.now ≡ text_for c.args.locale.now c.args.texts.now = ap (λ (o : Option (Bor (List ℕ))). unwrap_or (option_copied o) []) (sym c.in-Some.is) ∙ ap (λ (o : Option (List ℕ)). unwrap_or o []) c.localized.ensures.chosen in
    record { ok = subst (λ (t : List ℕ). OnOk c.add_string.result (Adds c.args.members.now c.add_string.new.values 0 (string t))) e c.add_string.ensures.ok }

pub returns-in-None : goal.returns-in-None
returns-in-None c =
    let e : [] ≡ text_for c.args.locale.now c.args.texts.now = ap (λ (o : Option (Bor (List ℕ))). unwrap_or (option_copied o) []) (sym c.in-None.is) ∙ ap (λ (o : Option (List ℕ)). unwrap_or o []) c.localized.ensures.chosen in
    record { ok = subst (λ (t : List ℕ). OnOk c.add_plain.result (Adds c.args.members.now c.add_plain.new.values 0 (string t))) e c.add_plain.ensures.ok }
