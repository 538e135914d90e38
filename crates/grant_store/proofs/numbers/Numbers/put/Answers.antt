use Rattle.std.proofs.Common.{◌≡◌, rules, ◌==◌, ◌++◌, ◌∷◌, [], not, filter, ap, ◌∙◌}
use Rattle.std.proofs.lemmas.Fn.{filter_same}
use Rattle.pk_types.specs.Roomy.{Roomy}
use Rattle.std.specs.Prelude.{ℕ}
use Rattle.grant_store.proofs.numbers.Numbers.put.Goals as goal

pub returns : goal.returns
returns c =
    let left : c.retain.new.self.items ≡ filter (λ n. not (n == c.args.number)) c.self.inside.items.items = filter_same _ _ _ (λ x b f' k. search rules) _ _ c.retain.ensures.filtered in
    record { items = c.push_reserved.ensures.items ∙ ap (λ xs. xs ++ c.args.number ∷ []) (left ∙ ap (λ (x : Roomy ℕ). filter (λ n. not (n == c.args.number)) x.items) c.self.view_is) }
