-- The challenges that are stored, as one is put in or taken out.
use Rattle.std.proofs.Common.{◌≡◌, ◌≢◌, inl, inr, ℕ, Bool, true, false, true≢false, cond, not, nat_eq, [], ◌∷◌, ◌++◌, refl, sym, ap, ◌∙◌, subst, Option, Some, None}
use Rattle.std.specs.Prelude.{option_to_list, find, string_bytes}
use Rattle.std.specs.Option.{IsSomeAnd, option_map}
use Rattle.std.specs.Map.{lookup, remove_entry}
use Rattle.std.proofs.lemmas.Bool.Decides.{eqb_tells}
use Rattle.slab.specs.Slab.{Slab, get, Updates}
use Rattle.authority_model.specs.declared.pending.Pending.{Pending}
use Rattle.authority_model.specs.Cookies.{cookie_text}
use Rattle.authority_model.specs.Lists.{Each}
use Rattle.entry_changes.specs.Changes.{is_of_entry, without}
use Rattle.challenge_book.specs.declared.filed.Filed.{Filed}
use Rattle.challenge_book.specs.Rows.{row_of, IsFiled, rows_in, AreRows}
use Rattle.challenge_book.proofs.RowFinding.{Entries, held, some_is, head_row, at_key}

-- what stands at another slab key than the one that changed is as it was
pub stay : (s s' : Slab Filed) (k : ℕ) (slot : Option Filed) → Updates s s' k slot → (es : Entries) → AreRows s es → Each (λ e. e.1 ≢ k) es → AreRows s' es × (rows_in s' es ≡ rows_in s es)
stay s s' k slot u [] rows away = (tt, refl)
stay s s' k slot u (e ∷ es) rows away =
    let same : get s' e.1 ≡ get s e.1 = u.others e.1 away.0 in
    let rest = stay s s' k slot u es rows.1.1 away.1 in
    ((subst (λ o. IsSomeAnd o (IsFiled e.0)) (sym same) rows.0, (rows.1.0, rest.0)), ap (λ o. option_to_list (option_map row_of o) ++ rows_in s' es) same ∙ ap (λ xs. option_to_list (option_map row_of (get s e.1)) ++ xs) rest.1)

-- no entry of the index has a slab key at which nothing stands
away_from_vacant : (s : Slab Filed) (k : ℕ) → get s k ≡ None → (es : Entries) → AreRows s es → Each (λ e. e.1 ≢ k) es
away_from_vacant s k none [] rows = tt
away_from_vacant s k none (e ∷ es) rows = (λ at. subst (λ o. IsSomeAnd o (IsFiled e.0)) (ap (get s) at ∙ none) rows.0, away_from_vacant s k none es rows.1.1)

-- other entries have other slab keys
pub away_from : (s : Slab Filed) (k c : ℕ) (f : Filed) → get s k ≡ Some f → f.row.entry ≡ c → (es : Entries) → AreRows s es → Each (λ e. c ≢ e.0) es → Each (λ e. e.1 ≢ k) es
away_from s k c f is of [] rows others = tt
away_from s k c f is of (e ∷ es) rows others =
    let h = held (get s e.1) (IsFiled e.0) rows.0 in
    (λ at. others.0 (sym of ∙ ap (λ (g : Filed). g.row.entry) (some_is f h.0 (sym is ∙ ap (get s) (sym at) ∙ h.1)) ∙ h.2.entry), away_from s k c f is of es rows.1.1 others.1)

-- where no challenge is of an entry, the index does not have it
pub none_of : (s : Slab Filed) (c : ℕ) (es : Entries) → AreRows s es → find (is_of_entry c) (rows_in s es) ≡ None → Each (λ e. e.0 ≢ c) es
none_of s c [] rows none = tt
none_of s c (e ∷ es) rows none =
    let h = held (get s e.1) (IsFiled e.0) rows.0 in
    let there : cond (nat_eq c h.0.row.entry) (Some h.0.row) (find (is_of_entry c) (rows_in s es)) ≡ None = ap (find (is_of_entry c)) (sym (head_row s e es h.0 h.1)) ∙ none in
    elim (eqb_tells c h.0.row.entry) [
      | inl y ↦ absurd (hit (nat_eq c h.0.row.entry) h.0.row (find (is_of_entry c) (rows_in s es)) y.0 there)
      | inr n ↦ (λ at. n.1 (sym at ∙ sym h.2.entry), none_of s c es rows.1.1 (miss (nat_eq c h.0.row.entry) h.0.row (find (is_of_entry c) (rows_in s es)) n.0 there))
    ]
  where
    hit : (b : Bool) (x : Pending) (o : Option Pending) → b ≡ true → cond b (Some x) o ≡ None → ⊥
    hit true x o e h = cc
    hit false x o e h = true≢false (sym e)

    miss : (b : Bool) (x : Pending) (o : Option Pending) → b ≡ false → cond b (Some x) o ≡ None → o ≡ None
    miss true x o e h = absurd (true≢false e)
    miss false x o e h = h

-- an entry that differs from those of a list and from a last one differs from all of them
one_more : (c : ℕ) (last : ℕ × ℕ) → c ≢ last.0 → (fs : Entries) → Each (λ f. c ≢ f.0) fs → Each (λ f. c ≢ f.0) (fs ++ last ∷ [])
one_more c last differs [] o = (differs, tt)
one_more c last differs (f ∷ fs) o = (o.0, one_more c last differs fs o.1)

-- a challenge that is put in at a vacant slab key, and its entry at the end of the index, stands at the end
pub pushed : (s s' : Slab Filed) (k : ℕ) (f : Filed) → string_bytes f.cookie_text ≡ cookie_text f.row.cookie → get s k ≡ None → Updates s s' k (Some f) → (es : Entries) → AreRows s es → Each (λ e. e.0 ≢ f.row.entry) es
    → AreRows s' (es ++ (f.row.entry, k) ∷ []) × (rows_in s' (es ++ (f.row.entry, k) ∷ []) ≡ rows_in s es ++ f.row ∷ [])
pushed s s' k f text none u [] rows others =
    let new : IsFiled f.row.entry f = record { entry = refl; text = text } in
    ((subst (λ o. IsSomeAnd o (IsFiled f.row.entry)) (sym u.changed) new, (tt, tt)), ap (λ o. option_to_list (option_map row_of o) ++ []) u.changed)
pushed s s' k f text none u (e ∷ es) rows others =
    let away = away_from_vacant s k none (e ∷ es) rows in
    let same : get s' e.1 ≡ get s e.1 = u.others e.1 away.0 in
    let rest = pushed s s' k f text none u es rows.1.1 others.1 in
    let h = held (get s e.1) (IsFiled e.0) rows.0 in (
      (subst (λ o. IsSomeAnd o (IsFiled e.0)) (sym same) rows.0, (one_more e.0 (f.row.entry, k) others.0 es rows.1.0, rest.0)),
      ap (λ o. option_to_list (option_map row_of o) ++ rows_in s' (es ++ (f.row.entry, k) ∷ [])) (same ∙ h.1) ∙ ap (λ xs. h.0.row ∷ xs) rest.1 ∙ ap (λ xs. xs ++ f.row ∷ []) (sym (head_row s e es h.0 h.1)),
    )

-- numbers that differ do not pass the test of equality
pub ne_test : (a b : ℕ) → a ≢ b → nat_eq a b ≡ false
ne_test a b n = elim (eqb_tells a b) [ inl y ↦ absurd (n y.1) | inr z ↦ z.0 ]

-- where the index does not have an entry, no challenge is of that entry
without_none : (s : Slab Filed) (c : ℕ) (es : Entries) → AreRows s es → Each (λ e. c ≢ e.0) es → without c (rows_in s es) ≡ rows_in s es
without_none s c [] rows others = refl
without_none s c (e ∷ es) rows others =
    let h = held (get s e.1) (IsFiled e.0) rows.0 in
    let differs : nat_eq c h.0.row.entry ≡ false = ne_test c h.0.row.entry (λ is. others.0 (is ∙ h.2.entry)) in
    ap (without c) (head_row s e es h.0 h.1)
    ∙ ap (λ b. cond (not b) (h.0.row ∷ without c (rows_in s es)) (without c (rows_in s es))) differs
    ∙ ap (λ xs. h.0.row ∷ xs) (without_none s c es rows.1.1 others.1)
    ∙ sym (head_row s e es h.0 h.1)

-- an entry that differs from those of an index differs from those that are left where one is taken out
fewer : (d c : ℕ) (fs : Entries) → Each (λ f. d ≢ f.0) fs → Each (λ f. d ≢ f.0) (remove_entry (nat_eq c) fs)
fewer d c [] o = tt
fewer d c (f ∷ fs) o = by (nat_eq c f.0) (fewer d c fs o.1)
  where
    by : (b : Bool) → Each (λ g. d ≢ g.0) (remove_entry (nat_eq c) fs) → Each (λ g. d ≢ g.0) (cond b fs (f ∷ remove_entry (nat_eq c) fs))
    by true rest = o.1
    by false rest = (o.0, rest)

-- where an entry is taken out of the index, and its challenge out of the slab, the others stay
pub taken : (s s' : Slab Filed) (c k : ℕ) → Updates s s' k None → (es : Entries) → AreRows s es → lookup (nat_eq c) es ≡ Some k
    → AreRows s' (remove_entry (nat_eq c) es) × (rows_in s' (remove_entry (nat_eq c) es) ≡ without c (rows_in s es))
taken s s' c k u [] rows is = cc
taken s s' c k u (e ∷ es) rows is =
    let h = held (get s e.1) (IsFiled e.0) rows.0 in
    elim (eqb_tells c e.0) [
      | inl y ↦
          let at : e.1 ≡ k = some_is e.1 k (ap (λ b. cond b (Some e.1) (lookup (nat_eq c) es)) (sym y.0) ∙ is) in
          let others : Each (λ f. c ≢ f.0) es = subst (λ n. Each (λ f. n ≢ f.0) es) (sym y.1) rows.1.0 in
          let rest = stay s s' k None u es rows.1.1 (away_from s k c h.0 (ap (get s) (sym at) ∙ h.1) (h.2.entry ∙ sym y.1) es rows.1.1 others) in
          let goes : remove_entry (nat_eq c) (e ∷ es) ≡ es = ap (λ b. cond b es (e ∷ remove_entry (nat_eq c) es)) y.0 in (
            subst (AreRows s') (sym goes) rest.0,
            ap (rows_in s') goes ∙ rest.1 ∙ sym (without_none s c es rows.1.1 others)
                ∙ ap (λ b. cond (not b) (h.0.row ∷ without c (rows_in s es)) (without c (rows_in s es))) (sym (ap (nat_eq c) h.2.entry ∙ y.0)) ∙ ap (without c) (sym (head_row s e es h.0 h.1)),
          )
      | inr n ↦
          let below : lookup (nat_eq c) es ≡ Some k = ap (λ b. cond b (Some e.1) (lookup (nat_eq c) es)) (sym n.0) ∙ is in
          let rest = taken s s' c k u es rows.1.1 below in
          let r = held (get s k) (IsFiled c) (at_key s c k es rows.1.1 below) in
          let away : e.1 ≢ k = λ at. n.1 (sym r.2.entry ∙ ap (λ (f : Filed). f.row.entry) (some_is r.0 h.0 (sym r.1 ∙ ap (get s) (sym at) ∙ h.1)) ∙ h.2.entry) in
          let same : get s' e.1 ≡ get s e.1 = u.others e.1 away in
          let stays : remove_entry (nat_eq c) (e ∷ es) ≡ e ∷ remove_entry (nat_eq c) es = ap (λ b. cond b es (e ∷ remove_entry (nat_eq c) es)) n.0 in (
            subst (AreRows s') (sym stays) (subst (λ o. IsSomeAnd o (IsFiled e.0)) (sym same) rows.0, (fewer e.0 c es rows.1.0, rest.0)),
            ap (rows_in s') stays ∙ ap (λ o. option_to_list (option_map row_of o) ++ rows_in s' (remove_entry (nat_eq c) es)) (same ∙ h.1) ∙ ap (λ xs. h.0.row ∷ xs) rest.1
                ∙ ap (λ b. cond (not b) (h.0.row ∷ without c (rows_in s es)) (without c (rows_in s es))) (sym (ap (nat_eq c) h.2.entry ∙ n.0)) ∙ ap (without c) (sym (head_row s e es h.0 h.1)),
          )
    ]

-- an entry that a look-up does not find differs from those of the index
pub unfound : (c : ℕ) (fs : Entries) → lookup (nat_eq c) fs ≡ None → Each (λ e. c ≢ e.0) fs
unfound c [] none = tt
unfound c (f ∷ fs) none = elim (eqb_tells c f.0) [
  | inl y ↦ absurd (hit (nat_eq c f.0) f.1 (lookup (nat_eq c) fs) y.0 none)
  | inr n ↦ (n.1, unfound c fs (ap (λ b. cond b (Some f.1) (lookup (nat_eq c) fs)) (sym n.0) ∙ none))
]
  where
    hit : (b : Bool) (x : ℕ) (o : Option ℕ) → b ≡ true → cond b (Some x) o ≡ None → ⊥
    hit true x o e h = cc
    hit false x o e h = true≢false (sym e)

-- where the index does not have an entry, taking its challenge out changes nothing
pub taken_none : (s : Slab Filed) (c : ℕ) (es : Entries) → AreRows s es → lookup (nat_eq c) es ≡ None → without c (rows_in s es) ≡ rows_in s es
taken_none s c es rows none = without_none s c es rows (unfound c es none)

-- an entry that differs from those of the index is not found
pub unlisted : (c : ℕ) (es : Entries) → Each (λ e. e.0 ≢ c) es → lookup (nat_eq c) es ≡ None
unlisted c [] others = refl
unlisted c (e ∷ es) others = elim (eqb_tells c e.0) [
  | inl y ↦ absurd (others.0 (sym y.1))
  | inr n ↦ ap (λ b. cond b (Some e.1) (lookup (nat_eq c) es)) n.0 ∙ unlisted c es others.1
]

-- where each slab key has what it had, as after taking room, the challenges stay
pub as_before : (s s' : Slab Filed) → ((k : ℕ) → get s' k ≡ get s k) → (es : Entries) → AreRows s es → AreRows s' es × (rows_in s' es ≡ rows_in s es)
as_before s s' same [] rows = (tt, refl)
as_before s s' same (e ∷ es) rows =
    let rest = as_before s s' same es rows.1.1 in
    ((subst (λ o. IsSomeAnd o (IsFiled e.0)) (sym (same e.1)) rows.0, (rows.1.0, rest.0)), ap (λ o. option_to_list (option_map row_of o) ++ rows_in s' es) (same e.1) ∙ ap (λ xs. option_to_list (option_map row_of (get s e.1)) ++ xs) rest.1)
