-- How many challenges are counted for each user, as challenges are opened, closed and answered.
use Rattle.std.proofs.Common.{◌≡◌, ◌≢◌, ◌<◌, ◌≤◌, inl, inr, ℕ, ◌+◌, Bool, true, false, cond, not, List, [], ◌∷◌, ◌++◌, refl, sym, ap, ◌∙◌, Option, Some, filter, length, arith}
use Rattle.std.specs.Prelude.{◌==◌, find, map}
use Rattle.std.specs.Map.{lookup}
use Rattle.std.proofs.lemmas.Bool.{eq-eqb}
use Rattle.std.proofs.lemmas.List.Sums.{length-filter, count_by-le-length}
use Rattle.pk_types.specs.declared.values.Identity.{Identity}
use Rattle.authority_model.specs.declared.pending.Pending.{Pending}
use Rattle.entry_changes.specs.Finding.{is_of_user}
use Rattle.entry_changes.specs.Changes.{is_of_entry, AreApart, without, answered_by}
use Rattle.challenge_book.specs.Users.{count_at, HaveSome, IsOneMore, AreCounted}
use Rattle.challenge_book.proofs.Finding.{tells, first_out}
use Rattle.challenge_book.proofs.Indexing.{answered_test}

-- each user that is listed has some where one user is listed with some, or not any more
pub have_some : (k : ℕ) (count : Option ℕ) (users users' : List (ℕ × ℕ)) → count ≢ Some 0 → HaveSome users → ((uid : ℕ) → lookup (λ q. uid == q) users' ≡ cond (k == uid) count (lookup (λ q. uid == q) users)) → HaveSome users'
have_some k count users users' some have sets uid none = by (k == uid) (sym (sets uid) ∙ none)
  where
    by : (b : Bool) → cond b count (lookup (λ q. uid == q) users) ≡ Some 0 → ⊥
    by true is = some is
    by false is = have uid is

-- a count above 0 is not 0
pub not_none : (n : ℕ) → 0 < n → Some n ≢ Some 0
not_none n above is = let zero : n ≡ 0 = cc in absurd (omega arith)

-- the first challenge counts for one where it passes the test
first_counts : (p : Pending → Bool) (x : Pending) (xs : List Pending) → length (filter p (x ∷ xs)) ≡ length (filter p xs) + cond (p x) 1 0
first_counts p x xs = by (p x)
  where
    by : (b : Bool) → length (cond b (x ∷ filter p xs) (filter p xs)) ≡ length (filter p xs) + cond b 1 0
    by true = omega arith
    by false = omega arith

-- the last challenge counts for one where it passes the test
last_counts : (p : Pending → Bool) (row : Pending) (xs : List Pending) → length (filter p (xs ++ row ∷ [])) ≡ length (filter p xs) + cond (p row) 1 0
last_counts p row [] = first_counts p row []
last_counts p row (x ∷ xs) = omega (arith, first_counts p x (xs ++ row ∷ []), first_counts p x xs, last_counts p row xs)

-- a challenge that is taken out counted for one where it passes the test
taken_counts : (p : Pending → Bool) (e : ℕ) (row : Pending) (xs : List Pending) → AreApart xs → find (is_of_entry e) xs ≡ Some row → length (filter p xs) ≡ length (filter p (without e xs)) + cond (p row) 1 0
taken_counts p e row [] apart is = cc
taken_counts p e row (x ∷ xs) apart is =
    elim (tells (is_of_entry e x)) [
      | inl here ↦
          let one : x ≡ row = same x row (ap (λ b. cond b (Some x) (find (is_of_entry e) xs)) (sym here) ∙ is) in
          first_counts p x xs
          ∙ ap (λ ys. length (filter p ys) + cond (p x) 1 0) (sym (first_out e x xs apart here))
          ∙ ap (λ y. length (filter p (without e (x ∷ xs))) + cond (p y) 1 0) one
      | inr there ↦
          let below : find (is_of_entry e) xs ≡ Some row = ap (λ b. cond b (Some x) (find (is_of_entry e) xs)) (sym there) ∙ is in
          let stays : length (filter p (without e (x ∷ xs))) ≡ length (filter p (x ∷ without e xs)) = ap (λ b. length (filter p (cond (not b) (x ∷ without e xs) (without e xs)))) there in
          omega (arith, stays, first_counts p x xs, first_counts p x (without e xs), taken_counts p e row xs apart.1 below)
    ]
  where
    same : (x y : Pending) → Some x ≡ Some y → x ≡ y
    same x y e = cc

-- a user has no more challenges than there are
pub few_counted : (uid : ℕ) (items : List Pending) (users : List (ℕ × ℕ)) → AreCounted users items → count_at users uid ≤ length items
few_counted uid items users are = omega (arith, are uid, length-filter (is_of_user uid) items, count_by-le-length (is_of_user uid) items)

-- the user of a challenge has one
pub some_counted : (e : ℕ) (row : Pending) (items : List Pending) (users : List (ℕ × ℕ)) → AreApart items → find (is_of_entry e) items ≡ Some row → AreCounted users items → 0 < count_at users row.asker_uid
some_counted e row items users apart found are =
    let own : ◌≡◌ {A = ℕ} (cond (row.asker_uid == row.asker_uid) 1 0) 1 = ap (λ b. cond b 1 0) (eq-eqb row.asker_uid row.asker_uid refl) in
    omega (arith, are row.asker_uid, taken_counts (is_of_user row.asker_uid) e row items apart found, own)

-- the counts with one more challenge at the end
pub counted_more : (row : Pending) (items : List Pending) (users users' : List (ℕ × ℕ)) → AreCounted users items → IsOneMore row.asker_uid users users' → AreCounted users' (items ++ row ∷ [])
counted_more row items users users' are more uid = omega (arith, are uid, more uid, last_counts (is_of_user uid) row items)

-- the counts without one of the challenges
pub counted_less : (e : ℕ) (row : Pending) (items : List Pending) (users users' : List (ℕ × ℕ)) → AreApart items → find (is_of_entry e) items ≡ Some row → AreCounted users items → IsOneMore row.asker_uid users' users → AreCounted users' (without e items)
counted_less e row items users users' apart found are more uid = omega (arith, are uid, more uid, taken_counts (is_of_user uid) e row items apart found)

-- an answer leaves a challenge with its user
answered_counts : (uid e : ℕ) (identity : Identity) (xs : List Pending) → length (filter (is_of_user uid) (map (answered_by e identity) xs)) ≡ length (filter (is_of_user uid) xs)
answered_counts uid e identity [] = refl
answered_counts uid e identity (x ∷ xs) =
    let same : ◌≡◌ {A = ℕ} (cond (is_of_user uid (answered_by e identity x)) 1 0) (cond (is_of_user uid x) 1 0) = ap (λ b. cond b 1 0) (answered_test is_of_user e identity (λ q y i. refl) uid x) in
    omega (arith, same, first_counts (is_of_user uid) (answered_by e identity x) (map (answered_by e identity) xs), first_counts (is_of_user uid) x xs, answered_counts uid e identity xs)

-- the counts after an answer
pub counted_answered : (e : ℕ) (identity : Identity) (items : List Pending) (users : List (ℕ × ℕ)) → AreCounted users items → AreCounted users (map (answered_by e identity) items)
counted_answered e identity items users are uid = are uid ∙ sym (answered_counts uid e identity items)
