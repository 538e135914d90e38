use Rattle.std.proofs.Common.{◌≡◌, List, [], Option, IfOk, ap, sym, subst, ◌∙◌, map, Bor}
use Rattle.std.specs.Prelude.{codes}
use Rattle.std.specs.Option.{option_copied, option_map_or}
use Rattle.authority_model.specs.declared.load.Loaded.{Loaded}
use Rattle.authority_model.specs.declared.policy.Action.{Action}
use Rattle.authority_messages.specs.Values.{description}
use Rattle.authority_messages.specs.Messages.{actions_of}
use Rattle.authority_messages.specs.Built.{Items}
use Rattle.authority_messages.proofs.Building.{no_items}
use Rattle.authority_messages.proofs.actions.listed.Goals as goal

pub returns-in-Some : goal.returns-in-Some
returns-in-Some c =
    let e : c.as_slice.result.now ≡ actions_of c.args.loads.now c.args.load =
    c.as_slice.ensures.items ∙ ap (λ (o : Option (Bor Loaded)). option_map_or (λ (l : Loaded). l.policy.actions) (option_copied o) []) (sym c.in-Some.is) ∙ ap (λ (o : Option Loaded). option_map_or (λ (l : Loaded). l.policy.actions) o []) c.loaded_as.ensures.load in
    record { items = subst (λ (xs : List Action). IfOk c.description_items.result (λ list. Items 3 (codes "(ssssssuuua{ss})") list (map (description c.args.locale.now) xs))) e c.description_items.ensures.items }

pub returns-in-None : goal.returns-in-None
returns-in-None c =
    let e : [] ≡ actions_of c.args.loads.now c.args.load =
    ap (λ (o : Option (Bor Loaded)). option_map_or (λ (l : Loaded). l.policy.actions) (option_copied o) []) (sym c.in-None.is) ∙ ap (λ (o : Option Loaded). option_map_or (λ (l : Loaded). l.policy.actions) o []) c.loaded_as.ensures.load in
    record { items = subst (λ (xs : List Action). Items 3 (codes "(ssssssuuua{ss})") c.new.result (map (description c.args.locale.now) xs)) e (no_items 3 _ _ c.new.ensures.empty) }
