-- No two pending challenges could be mistaken for each other, and one that is opened for none of them.
use Rattle.std.proofs.Common.{◌≡◌, ℕ, ◌<◌, ◌^◌, Bool, true, false, ◌&&◌, not, List, [], ◌∷◌, ◌++◌, refl, ap, sym, ◌∙◌, Some, length, subst, arith}
use Rattle.std.proofs.lemmas.Bool.{or_from}
use Rattle.std.proofs.lemmas.Bool.Decides.{Decides-eqb}
use Rattle.std.proofs.lemmas.Slice.Eq.{bytes_eq-Decides}
use Rattle.pk_types.specs.Decimals.{is_empty}
use Rattle.entry_changes.specs.declared.change.ChallengeChange.{ChallengeChange}
use Rattle.authority_model.specs.declared.journal.Item.{Item}
use Rattle.authority_model.specs.declared.pending.Pending.{Pending}
use Rattle.authority_model.specs.Words.{Bytes}
use Rattle.authority_model.specs.Lists.{Has, Each, AtMostOne}
use Rattle.authority_model.specs.Cookies.{cookie_text}
use Rattle.authority_model.specs.Challenges.{pending, opened}
use Rattle.entry_changes.specs.Finding.{is_sent, has_id}
use Rattle.entry_changes.specs.Changes.{is_of_entry, clash, IsFresh, AreApart, after_challenges, challenge_change}
use Rattle.authority_model.specs.Legal.{Legal, Follows}
use Rattle.authority_model.proofs.Cases.{Each-from}
use Rattle.authority_laws.proofs.CookieTexts.{one_cookie_text}
use Rattle.authority_laws.proofs.OnePending.{one_serial, one_cancel}
use Rattle.authority_laws.proofs.OnlyOne.{none_passes}
use Rattle.change_laws.proofs.ChallengeEntries.{one_entry}
use Rattle.change_laws.proofs.ChallengeRespond.{has_text}
use Rattle.change_laws.proofs.ChallengesAfter.{challenges_after}
use Rattle.change_laws.proofs.OpeningBegun.{begun_opens, opens_begun}

-- at most one of these challenges has an entry, a cookie's text, a place at an agent, and an asker's id that is not empty
record OneOfEach (items : List Pending) : Type 0 where
  entry : (n : ℕ) → AtMostOne (is_of_entry n) items
  text : (text : Bytes) → AtMostOne (has_text text) items
  place : (c s : ℕ) → AtMostOne (is_sent c s) items
  id : (c : ℕ) (id : Bytes) → is_empty id ≡ false → AtMostOne (has_id c id) items

-- what passes a test that at most one passes leaves no other
not_later : (test : Pending → Bool) (x : Pending) (xs : List Pending) → AtMostOne test (x ∷ xs) → test x ≡ true → (y : Pending) → Has xs y → test y ≡ false
not_later test x xs one t = none_passes test xs (one.0 t)

-- such challenges are apart
apart_from : (items : List Pending) → OneOfEach items → AreApart items
apart_from [] one = tt
apart_from (x ∷ xs) one = (Each-from (λ y. clash x y ≡ false) xs away, apart_from xs (record { entry = λ n. (one.entry n).1; text = λ t. (one.text t).1; place = λ c s. (one.place c s).1; id = λ c i some. (one.id c i some).1 }))
  where
    no_id : (y : Pending) → Has xs y → (b : Bool) → is_empty x.cancel ≡ b → (not b && has_id x.asker x.cancel y) ≡ false
    no_id y h true is = refl
    no_id y h false is = not_later (has_id x.asker x.cancel) x xs (one.id x.asker x.cancel is) (rw ((Decides-eqb x.asker x.asker).1 refl) ((bytes_eq-Decides x.cancel x.cancel).1 refl)) y h

    away : (y : Pending) → Has xs y → clash x y ≡ false
    away y h =
        let entry = not_later (is_of_entry x.entry) x xs (one.entry x.entry) ((Decides-eqb x.entry x.entry).1 refl) y h in
        let text = not_later (has_text (cookie_text x.cookie)) x xs (one.text (cookie_text x.cookie)) ((bytes_eq-Decides (cookie_text x.cookie) (cookie_text x.cookie)).1 refl) y h in
        let place = not_later (is_sent x.agent x.agent_serial) x xs (one.place x.agent x.agent_serial) (rw ((Decides-eqb x.agent x.agent).1 refl) ((Decides-eqb x.agent_serial x.agent_serial).1 refl)) y h in
        or_from _ _ (or_from _ _ (or_from _ _ entry text) place) (no_id y h (is_empty x.cancel) refl)

-- No two pending challenges could be mistaken for each other.
pub challenges_apart : (past : List Item) → Legal past → length past < 2 ^ 63 → AreApart (pending past)
challenges_apart past legal short = apart_from (pending past) (record { entry = one_entry past legal; text = one_cookie_text past legal short; place = one_serial past legal; id = one_cancel past legal })

-- the last of a list whose elements are apart
apart_last : (xs : List Pending) (y : Pending) → AreApart (xs ++ y ∷ []) → IsFresh y xs
apart_last [] y apart = tt
apart_last (x ∷ xs) y apart = (last xs apart.0, apart_last xs y apart.1)
  where
    last : (zs : List Pending) → Each (λ z. clash x z ≡ false) (zs ++ y ∷ []) → clash x y ≡ false
    last [] h = h.0
    last (z ∷ zs) h = last zs h.1

-- A challenge that an item opens could be mistaken for none that is pending.
pub opened_is_fresh : (past : List Item) → Legal past → (i : Item) → Follows past i → length (i ∷ past) < 2 ^ 63 → (row : Pending) → opened past i ≡ Some row → IsFresh row (pending past)
opened_is_fresh past legal i follows short row opens =
    let grown : pending past ++ row ∷ [] ≡ pending (i ∷ past) = sym (ap (λ x. after_challenges x (pending past)) (opens_begun past i follows row opens)) ∙ challenges_after past legal i follows (omega (arith, short)) in
    apart_last (pending past) row (subst AreApart (sym grown) (challenges_apart (i ∷ past) (follows, legal) short))

-- The same of one that the change of an event begins.
pub begun_is_fresh : (past : List Item) → Legal past → (i : Item) → Follows past i → length (i ∷ past) < 2 ^ 63 → (row : Pending)
    → challenge_change past i.entry.caller i.entry.moment i.entry.salt i.entry.event i.loaded ≡ ChallengeChange.Begun row → IsFresh row (pending past)
begun_is_fresh past legal i follows short row begins = opened_is_fresh past legal i follows short row (begun_opens past i follows row begins)
