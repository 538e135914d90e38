use Rattle.std.proofs.Common.{ℕ, List, [], ◌∷◌, subst}
use Rattle.authority_messages.specs.Values.{string}
use Rattle.authority_messages.specs.Built.{Rows}
use Rattle.authority_messages.proofs.grants.authorization.Goals as goal

pub returns : goal.returns
returns c =
    let first = subst (λ (t : List ℕ). Rows 0 c.add_string.new.values (string t ∷ [])) c.in_ok-id.ensures.text (c.in_ok-add_string.ensures.ok [] 0 c.no_values-members.ensures.none) in
    record { value = c.structure.ensures.value 4 _ _ (c.in_ok-add_uint64-2.ensures.ok _ 4 (c.in_ok-add_uint64.ensures.ok _ 4 (c.in_ok-add.ensures.ok 4 _ c.in_ok-key.ensures.value _ 0 (c.in_ok-add_string-2.ensures.ok _ 0 first)))) }
