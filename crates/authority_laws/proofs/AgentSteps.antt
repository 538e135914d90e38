-- The registrations in force after one more item.
use Rattle.std.proofs.Common.{◌≡◌, ◌==◌, Bool, true, ◌&&◌, not, List, [], ◌∷◌, ◌++◌, refl, ap, sym, ◌∙◌, Option, Some, None, is_some, subst}
use Rattle.std.proofs.lemmas.List.{append-nil}
use Rattle.std.specs.Prelude.{filter, option_to_list, bytes_eq}
use Rattle.std.proofs.lemmas.Bool.Decides.{Decides-eqb}
use Rattle.std.proofs.lemmas.Slice.Eq.{bytes_eq-Decides}
use Rattle.authority_model.specs.declared.key.Key.{Key}
use Rattle.authority_model.specs.declared.event.Call.{Call}
use Rattle.authority_model.specs.Subjects.{facts}
use Rattle.authority_model.specs.Peers.{call_in, live, may_for}
use Rattle.authority_model.specs.Agents.{registered, registered_for, in_force, agent_of, registers, ends}
use Rattle.authority_model.specs.declared.journal.Item.{Item}
use Rattle.authority_model.specs.Lists.{or_else, AtMostOne}
use Rattle.authority_model.specs.Keys.{same_key}
use Rattle.authority_model.specs.declared.pending.Agent.{Agent}
use Rattle.authority_model.proofs.Cases.{both, then_some, when_some}
use Rattle.authority_laws.proofs.OnlyOne.{unless, find_append, find_filter, one_filter, one_append}
use Rattle.authority_laws.proofs.Standing.{not_some}

-- keys that test as one are one
pub same_key_is : (a b : Key) → same_key a b ≡ true → a ≡ b
same_key_is (Key.Process p s u) (Key.Process p' s' u') e =
    let outer = both ((p == p') && (s == s')) (u == u') e in
    let inner = both (p == p') (s == s') outer.0 in
    let x : p ≡ p' = (Decides-eqb p p').0 inner.0 in
    let y : s ≡ s' = (Decides-eqb s s').0 inner.1 in
    let z : u ≡ u' = (Decides-eqb u u').0 outer.1 in
    cc
same_key_is (Key.Session i u) (Key.Session i' u') e =
    let parts = both (bytes_eq i i') (u == u') e in
    let x : i ≡ i' = (bytes_eq-Decides i i').0 parts.0 in
    let y : u ≡ u' = (Decides-eqb u u').0 parts.1 in
    cc
same_key_is (Key.Process p s u) (Key.Session i' u') e = absurd (cc)
same_key_is (Key.Session i u) (Key.Process p' s' u') e = absurd (cc)

-- who registers had no registration of the key before
pub registers_new : (past : List Item) (agents : List Agent) (i : Item) (a : Agent) → registers past agents i ≡ Some a → agent_of a.key agents ≡ None
registers_new past agents i a e = let call = then_some (registered past agents i) (call_in i.entry.event) a e in of call.0 call.2
  where
    of : (call : Call) → registered past agents i call ≡ Some a → agent_of a.key agents ≡ None
    of (Call.Register subject locale path) e =
        let f = then_some (registered_for past agents i locale path) (facts past subject) a e in
        let w = when_some (live past i.entry.caller && may_for past i.entry.caller f.0.uid && not (is_some (agent_of f.0.key agents))) (record { caller = i.entry.caller; key = f.0.key; path = path; locale = locale }) a f.2 in
        let n = both (live past i.entry.caller && may_for past i.entry.caller f.0.uid) (not (is_some (agent_of f.0.key agents))) w.0 in
        subst (λ (b : Agent). agent_of b.key agents ≡ None) w.1 (not_some (agent_of f.0.key agents) n.1)
    of _ e = absurd (cc)

-- each key has at most one registration in force
pub one_agent : (past : List Item) (key : Key) → AtMostOne (λ a. same_key a.key key) (in_force past)
one_agent [] key = tt
one_agent (i ∷ past) key = of (registers past (in_force past) i) refl (one_agent past key)
  where
    test : Agent → Bool
    test a = same_key a.key key

    of : (o : Option Agent) → registers past (in_force past) i ≡ o → AtMostOne (λ a. same_key a.key key) (in_force past) → AtMostOne (λ a. same_key a.key key) (filter (λ a. not (ends past a i)) (in_force past) ++ option_to_list o)
    of None is h = subst (AtMostOne (λ (a : Agent). same_key a.key key)) (sym (append-nil (filter (λ a. not (ends past a i)) (in_force past)))) (one_filter (λ (a : Agent). same_key a.key key) (λ a. ends past a i) (in_force past) h)
    of (Some a) is h = one_append (λ (a : Agent). same_key a.key key) (filter (λ a. not (ends past a i)) (in_force past)) a (one_filter (λ (a : Agent). same_key a.key key) (λ a. ends past a i) (in_force past) h) (λ t.
        find_filter (λ (a : Agent). same_key a.key key) (λ a. ends past a i) (in_force past) h ∙ ap (unless (λ a. ends past a i)) (subst (λ k. agent_of k (in_force past) ≡ None) (same_key_is a.key key t) (registers_new past (in_force past) i a is)))

-- The registration of a key after one more item: the one from before, unless the item ends it; else the one that the item makes, if it is of the key.
pub agent_step : (past : List Item) (i : Item) (key : Key) → agent_of key (in_force (i ∷ past)) ≡ or_else (unless (λ a. ends past a i) (agent_of key (in_force past))) (agent_of key (option_to_list (registers past (in_force past) i)))
agent_step past i key =
    find_append (λ (a : Agent). same_key a.key key) (filter (λ a. not (ends past a i)) (in_force past)) (option_to_list (registers past (in_force past) i))
    ∙ ap (λ o. or_else o (agent_of key (option_to_list (registers past (in_force past) i)))) (find_filter (λ (a : Agent). same_key a.key key) (λ a. ends past a i) (in_force past) (one_agent past key))
