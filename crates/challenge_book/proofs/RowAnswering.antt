-- The challenges that are stored, as one of them is answered.
use Rattle.std.proofs.Common.{◌≡◌, ◌≢◌, inl, inr, ℕ, cond, nat_eq, false, [], ◌∷◌, ◌++◌, refl, sym, ap, ◌∙◌, subst, Option, Some, None}
use Rattle.std.specs.Prelude.{option_to_list, map, IsSome}
use Rattle.std.specs.Option.{IsSomeAnd, option_map}
use Rattle.std.specs.Map.{lookup}
use Rattle.std.proofs.lemmas.Bool.Decides.{eqb_tells}
use Rattle.slab.specs.Slab.{Slab, get, Updates, with_value}
use Rattle.slab.proofs.SlabLemmas.{Updates-with_value}
use Rattle.pk_types.specs.declared.values.Identity.{Identity}
use Rattle.authority_model.specs.Lists.{Each}
use Rattle.entry_changes.specs.Changes.{answered_by}
use Rattle.challenge_book.specs.declared.filed.Filed.{Filed}
use Rattle.challenge_book.specs.Rows.{row_of, IsFiled, rows_in, AreRows}
use Rattle.challenge_book.proofs.RowFinding.{Entries, held, some_is, head_row, at_key}
use Rattle.challenge_book.proofs.RowChanging.{stay, away_from, ne_test, unfound}

-- a stored challenge with this answer
abbrev pub with_identity : Identity → Filed → Filed
with_identity identity f = record f { row = record f.row { answered = Some identity } }

-- an answer to a challenge of another entry changes none of these
unanswered : (s : Slab Filed) (c : ℕ) (identity : Identity) (es : Entries) → AreRows s es → Each (λ e. c ≢ e.0) es → map (answered_by c identity) (rows_in s es) ≡ rows_in s es
unanswered s c identity [] rows others = refl
unanswered s c identity (e ∷ es) rows others =
    let h = held (get s e.1) (IsFiled e.0) rows.0 in
    let differs : nat_eq c h.0.row.entry ≡ false = ne_test c h.0.row.entry (λ is. others.0 (is ∙ h.2.entry)) in
    ap (map (answered_by c identity)) (head_row s e es h.0 h.1)
    ∙ ap (λ b. cond b (with_identity identity h.0).row h.0.row ∷ map (answered_by c identity) (rows_in s es)) differs
    ∙ ap (λ xs. h.0.row ∷ xs) (unanswered s c identity es rows.1.1 others.1)
    ∙ sym (head_row s e es h.0 h.1)

-- where the index does not have an entry, an answer to its challenge changes nothing
pub answered_none : (s : Slab Filed) (c : ℕ) (identity : Identity) (es : Entries) → AreRows s es → lookup (nat_eq c) es ≡ None → map (answered_by c identity) (rows_in s es) ≡ rows_in s es
answered_none s c identity es rows none = unanswered s c identity es rows (unfound c es none)

-- an answer that is written at the slab key of an entry is one to the challenge of that entry
answered : (s s' : Slab Filed) (c k : ℕ) (identity : Identity) (f : Filed) → get s k ≡ Some f → Updates s s' k (Some (with_identity identity f)) → (es : Entries) → AreRows s es → lookup (nat_eq c) es ≡ Some k
    → AreRows s' es × (rows_in s' es ≡ map (answered_by c identity) (rows_in s es))
answered s s' c k identity f there u [] rows is = cc
answered s s' c k identity f there u (e ∷ es) rows is =
    let h = held (get s e.1) (IsFiled e.0) rows.0 in
    elim (eqb_tells c e.0) [
      | inl y ↦
          let at : e.1 ≡ k = some_is e.1 k (ap (λ b. cond b (Some e.1) (lookup (nat_eq c) es)) (sym y.0) ∙ is) in
          let one : h.0 ≡ f = some_is h.0 f (sym h.1 ∙ ap (get s) at ∙ there) in
          let others : Each (λ g. c ≢ g.0) es = subst (λ n. Each (λ g. n ≢ g.0) es) (sym y.1) rows.1.0 in
          let rest = stay s s' k (Some (with_identity identity f)) u es rows.1.1 (away_from s k c h.0 (ap (get s) (sym at) ∙ h.1) (h.2.entry ∙ sym y.1) es rows.1.1 others) in
          let new : get s' e.1 ≡ Some (with_identity identity h.0) = ap (get s') at ∙ u.changed ∙ ap (λ (x : Filed). Some (with_identity identity x)) (sym one) in
          let filed : IsFiled e.0 (with_identity identity h.0) = record { entry = h.2.entry; text = h.2.text } in (
            (subst (λ o. IsSomeAnd o (IsFiled e.0)) (sym new) filed, (rows.1.0, rest.0)),
            ap (λ o. option_to_list (option_map row_of o) ++ rows_in s' es) new ∙ ap (λ xs. (with_identity identity h.0).row ∷ xs) (rest.1 ∙ sym (unanswered s c identity es rows.1.1 others))
                ∙ ap (λ b. cond b (with_identity identity h.0).row h.0.row ∷ map (answered_by c identity) (rows_in s es)) (sym (ap (nat_eq c) h.2.entry ∙ y.0))
                ∙ ap (map (answered_by c identity)) (sym (head_row s e es h.0 h.1)),
          )
      | inr n ↦
          let below : lookup (nat_eq c) es ≡ Some k = ap (λ b. cond b (Some e.1) (lookup (nat_eq c) es)) (sym n.0) ∙ is in
          let rest = answered s s' c k identity f there u es rows.1.1 below in
          let r = held (get s k) (IsFiled c) (at_key s c k es rows.1.1 below) in
          let away : e.1 ≢ k = λ at. n.1 (sym r.2.entry ∙ ap (λ (g : Filed). g.row.entry) (some_is r.0 h.0 (sym r.1 ∙ ap (get s) (sym at) ∙ h.1)) ∙ h.2.entry) in
          let same : get s' e.1 ≡ get s e.1 = u.others e.1 away in (
            (subst (λ o. IsSomeAnd o (IsFiled e.0)) (sym same) rows.0, (rows.1.0, rest.0)),
            ap (λ o. option_to_list (option_map row_of o) ++ rows_in s' es) (same ∙ h.1) ∙ ap (λ xs. h.0.row ∷ xs) rest.1
                ∙ ap (λ b. cond b (with_identity identity h.0).row h.0.row ∷ map (answered_by c identity) (rows_in s es)) (sym (ap (nat_eq c) h.2.entry ∙ n.0))
                ∙ ap (map (answered_by c identity)) (sym (head_row s e es h.0 h.1)),
          )
    ]

-- the challenges after an answer is written at the slab key that the index has for its entry
pub noted : (s : Slab Filed) (es : Entries) (c k : ℕ) (identity : Identity) (f : Filed) → Some f ≡ get s k → Some k ≡ lookup (nat_eq c) es → AreRows s es
    → AreRows (with_value s k (with_identity identity f)) es × (rows_in (with_value s k (with_identity identity f)) es ≡ map (answered_by c identity) (rows_in s es))
noted s es c k identity f is at rows = answered s (with_value s k (with_identity identity f)) c k identity f (sym is) written es rows (sym at)
  where
    written : Updates s (with_value s k (with_identity identity f)) k (Some (with_identity identity f))
    written = Updates-with_value s k (with_identity identity f) (subst (λ (o : Option Filed). IsSome o) is refl)
