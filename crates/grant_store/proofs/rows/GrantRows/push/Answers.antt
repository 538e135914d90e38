use Rattle.std.proofs.Common.{ℕ, ◌<◌, nat_eq, ◌++◌, ◌∷◌, [], refl, sym, ap, ◌∙◌, subst}
use Rattle.std.specs.Map.{values_of}
use Rattle.std.proofs.lemmas.List.{map_push}
use Rattle.indexmap.proofs.CallerLemmas.{insert_entry-new}
use Rattle.authority_model.specs.declared.verdict.GrantRow.{GrantRow}
use Rattle.authority_model.specs.Lists.{Each}
use Rattle.key_index.specs.Keyed.{AreKeyed}
use Rattle.key_index.proofs.Keyed.{found_numbered, keyed_push}
use Rattle.grant_store.specs.Rows.{Rows, AreInTurn}
use Rattle.grant_store.proofs.Above.{none_numbered}
use Rattle.grant_store.proofs.rows.GrantRows.push.Goals as goal

pub invariant_of-self : goal.invariant_of-self
invariant_of-self c =
    let below = subst (λ (x : Rows). Each (λ g. g.id < c.args.row.id) x.items) (sym c.self.view_is) c.requires.fresh in
    let none = found_numbered (λ (g : GrantRow). g.id) c.args.row.id c.self.inside.rows.entries c.self.invariant.0 ∙ none_numbered c.args.row.id (values_of c.self.inside.rows.entries) below in
    let grown = c.in-Ok.ensures.entries ∙ insert_entry-new nat_eq c.self.inside.rows c.args.row.id c.args.row none in
    let keyed = subst (AreKeyed (λ (k : ℕ). k) (λ (g : GrantRow). g.id)) (sym grown) (keyed_push (λ (k : ℕ). k) (λ (g : GrantRow). g.id) c.self.inside.rows.entries c.args.row.id c.args.row c.self.invariant.0 refl) in
    let items = ap values_of grown ∙ map_push (λ (e : ℕ × GrantRow). e.1) c.self.inside.rows.entries (c.args.row.id, c.args.row) ∙ ap (λ (x : Rows). x.items ++ c.args.row ∷ []) c.self.view_is in
    (keyed, λ is. subst AreInTurn (sym items) (c.stays_in_turn-self-inside.ensures.turn is))

pub returns : goal.returns
returns c =
    let below = subst (λ (x : Rows). Each (λ g. g.id < c.args.row.id) x.items) (sym c.self.view_is) c.requires.fresh in
    let none = found_numbered (λ (g : GrantRow). g.id) c.args.row.id c.self.inside.rows.entries c.self.invariant.0 ∙ none_numbered c.args.row.id (values_of c.self.inside.rows.entries) below in
    let grown = c.in-Ok.ensures.entries ∙ insert_entry-new nat_eq c.self.inside.rows c.args.row.id c.args.row none in
    record { items = ap values_of grown ∙ map_push (λ (e : ℕ × GrantRow). e.1) c.self.inside.rows.entries (c.args.row.id, c.args.row) ∙ ap (λ (x : Rows). x.items ++ c.args.row ∷ []) c.self.view_is }
