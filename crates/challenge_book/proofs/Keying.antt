-- The indexes of the challenges together, as a challenge is opened, closed and answered.
use Rattle.std.proofs.Common.{◌≡◌, ◌<◌, ◌+◌, ◌-◌, ℕ, Bool, true, false, true≢false, cond, not, ◌&&◌, ◌||◌, List, [], ◌∷◌, ◌++◌, refl, sym, ap, ◌∙◌, Some, None, length, arith}
use Rattle.std.specs.Prelude.{◌==◌, find, map, min, bytes_eq}
use Rattle.std.specs.Option.{option_map}
use Rattle.std.specs.Cow.{cow_slice_items}
use Rattle.std.proofs.lemmas.Bool.Decides.{Decides-eqb}
use Rattle.std.proofs.lemmas.List.{length-append, length-map}
use Rattle.std.proofs.lemmas.Slice.Eq.{bytes_eq-Decides}
use Rattle.pk_types.specs.declared.values.Identity.{Identity}
use Rattle.pk_types.specs.Decimals.{is_empty}
use Rattle.authority_model.specs.declared.pending.Pending.{Pending}
use Rattle.authority_model.specs.Cookies.{cookie_text}
use Rattle.entry_changes.specs.Finding.{is_sent, has_id, named}
use Rattle.entry_changes.specs.Changes.{is_of_entry, IsFresh, without, answered_by}
use Rattle.challenge_book.specs.declared.indexed.TheConstants.{MAX_CHALLENGES}
use Rattle.challenge_book.specs.Keys.{KeyText, entry_of_cookie, entry_at, entry_named, has_cookie, is_asked, is_named, AreIndexed}
use Rattle.challenge_book.specs.Users.{IsOneMore}
use Rattle.challenge_book.proofs.Finding.{both, TellsApart}
use Rattle.challenge_book.proofs.Indexing.{apart_with, apart_without, apart_answered, fewer, index_more, index_less, index_answered}
use Rattle.challenge_book.proofs.Counting.{counted_more, counted_less, counted_answered}

-- where the second of four tests is passed, one of them is
second : (a b c d : Bool) → b ≡ true → (a || b || c || d) ≡ true
second true b c d is = refl
second false true c d is = refl
second false false c d is = absurd (true≢false (sym is))

-- where the third of four tests is passed, one of them is
third : (a b c d : Bool) → c ≡ true → (a || b || c || d) ≡ true
third true b c d is = refl
third false true c d is = refl
third false false true d is = refl
third false false false d is = absurd (true≢false (sym is))

-- where the last of four tests is passed, one of them is
last : (a b c d : Bool) → d ≡ true → (a || b || c || d) ≡ true
last true b c d is = refl
last false true c d is = refl
last false false true d is = refl
last false false false d is = is

-- two challenges with one cookie text can be mistaken for each other
cookie_tells : (q : KeyText) → TellsApart (has_cookie q)
cookie_tells q x y hit too =
    second (is_of_entry x.entry y) (bytes_eq (cookie_text y.cookie) (cookie_text x.cookie)) (is_sent x.agent x.agent_serial y) (not (is_empty x.cancel) && has_id x.asker x.cancel y)
    (ap (bytes_eq (cookie_text y.cookie)) ((bytes_eq-Decides (cookie_text x.cookie) (cow_slice_items q)).0 hit) ∙ too)

-- two challenges that one agent was asked with one serial can be mistaken for each other
asked_tells : (q : ℕ × ℕ) → TellsApart (is_asked q)
asked_tells q x y hit too =
    let h = both (x.agent == q.0) (x.agent_serial == q.1) hit in
    third (is_of_entry x.entry y) (bytes_eq (cookie_text y.cookie) (cookie_text x.cookie)) (is_sent x.agent x.agent_serial y) (not (is_empty x.cancel) && has_id x.asker x.cancel y)
    (ap (λ n. (y.agent == n) && (y.agent_serial == x.agent_serial)) ((Decides-eqb x.agent q.0).0 h.0) ∙ ap (λ n. (y.agent == q.0) && (y.agent_serial == n)) ((Decides-eqb x.agent_serial q.1).0 h.1) ∙ too)

-- two challenges of one connection with one cancellation id, which is not empty, can be mistaken for each other
named_tells : (q : ℕ × KeyText) → TellsApart (is_named q)
named_tells q x y hit too =
    let h = both (x.asker == q.0) (bytes_eq x.cancel (cow_slice_items q.1)) (both (not (is_empty (cow_slice_items q.1))) (has_id q.0 (cow_slice_items q.1) x) hit).1 in
    last (is_of_entry x.entry y) (bytes_eq (cookie_text y.cookie) (cookie_text x.cookie)) (is_sent x.agent x.agent_serial y) (not (is_empty x.cancel) && has_id x.asker x.cancel y)
    (ap (λ n. not (is_empty x.cancel) && has_id n x.cancel y) ((Decides-eqb x.asker q.0).0 h.0)
    ∙ ap (λ (z : List ℕ). not (is_empty z) && has_id q.0 z y) ((bytes_eq-Decides x.cancel (cow_slice_items q.1)).0 h.1) ∙ too)

-- a test that never passes finds nothing
never : (items : List Pending) → find (λ (ch : Pending). false) items ≡ None
never [] = refl
never (x ∷ xs) = never xs

-- the test of a cancellation id finds the challenge that is named by it
pub named_is : (q : ℕ × KeyText) (items : List Pending) → find (is_named q) items ≡ named q.0 (cow_slice_items q.1) items
named_is q items = by (is_empty (cow_slice_items q.1))
  where
    by : (b : Bool) → find (λ ch. not b && has_id q.0 (cow_slice_items q.1) ch) items ≡ cond b None (find (has_id q.0 (cow_slice_items q.1)) items)
    by true = never items
    by false = refl

-- a cancellation id that is the same as one that is not empty is not empty
alike_empty : (b : Bool) (xs ys : List ℕ) → (not (is_empty xs) && (b && bytes_eq xs ys)) ≡ (not (is_empty ys) && (b && bytes_eq xs ys))
alike_empty true [] [] = refl
alike_empty true [] (y ∷ ys) = refl
alike_empty true (x ∷ xs) [] = refl
alike_empty true (x ∷ xs) (y ∷ ys) = refl
alike_empty false [] [] = refl
alike_empty false [] (y ∷ ys) = refl
alike_empty false (x ∷ xs) [] = refl
alike_empty false (x ∷ xs) (y ∷ ys) = refl

-- the indexes after a challenge is opened, whose keys are put in
pub opened : (items : List Pending) (row : Pending) (cookies cookies' : List (KeyText × ℕ)) (agents agents' : List ((ℕ × ℕ) × ℕ)) (ids ids' : List ((ℕ × KeyText) × ℕ)) (users users' : List (ℕ × ℕ)) → AreIndexed items cookies agents ids users → IsFresh row items → length items < MAX_CHALLENGES
    → ((q : KeyText) → entry_of_cookie cookies' q ≡ cond (has_cookie q row) (Some row.entry) (entry_of_cookie cookies q))
    → ((q : ℕ × ℕ) → entry_at agents' q ≡ cond (is_asked q row) (Some row.entry) (entry_at agents q))
    → ((q : ℕ × KeyText) → entry_named ids' q ≡ cond (not (is_empty row.cancel) && has_id q.0 (cow_slice_items q.1) row) (Some row.entry) (entry_named ids q))
    → IsOneMore row.asker_uid users users'
    → AreIndexed (items ++ row ∷ []) cookies' agents' ids' users'
opened items row cookies cookies' agents agents' ids ids' users users' is fresh room cookie asked id user =
    let long : length (items ++ row ∷ []) ≡ length items + 1 = length-append items (row ∷ []) in record {
      apart = apart_with row items fresh is.apart;
      few = omega (arith, long, room);
      cookies_are = index_more has_cookie (entry_of_cookie cookies) (entry_of_cookie cookies') items row cookie_tells fresh is.cookies_are cookie;
      agents_are = index_more is_asked (entry_at agents) (entry_at agents') items row asked_tells fresh is.agents_are asked;
      ids_are = index_more is_named (entry_named ids) (entry_named ids') items row named_tells fresh is.ids_are (λ q. id q ∙ ap (λ b. cond b (Some row.entry) (entry_named ids q)) (alike_empty (row.asker == q.0) row.cancel (cow_slice_items q.1)));
      users_are = counted_more row items users users' is.users_are user;
    }

-- the indexes after a challenge is closed, whose keys are taken out
pub closed : (items : List Pending) (e : ℕ) (row : Pending) (cookies cookies' : List (KeyText × ℕ)) (agents agents' : List ((ℕ × ℕ) × ℕ)) (ids ids' : List ((ℕ × KeyText) × ℕ)) (users users' : List (ℕ × ℕ)) → AreIndexed items cookies agents ids users → find (is_of_entry e) items ≡ Some row
    → ((q : KeyText) → entry_of_cookie cookies' q ≡ cond (has_cookie q row) None (entry_of_cookie cookies q))
    → ((q : ℕ × ℕ) → entry_at agents' q ≡ cond (is_asked q row) None (entry_at agents q))
    → ((q : ℕ × KeyText) → entry_named ids' q ≡ cond (has_id q.0 (cow_slice_items q.1) row) None (entry_named ids q))
    → IsOneMore row.asker_uid users' users
    → AreIndexed (without e items) cookies' agents' ids' users'
closed items e row cookies cookies' agents agents' ids ids' users users' is found cookie asked id user =
    let less = fewer e items in record {
      apart = apart_without e items is.apart;
      few = omega (arith, less, is.few);
      cookies_are = index_less has_cookie (entry_of_cookie cookies) (entry_of_cookie cookies') items e row cookie_tells is.apart found is.cookies_are cookie;
      agents_are = index_less is_asked (entry_at agents) (entry_at agents') items e row asked_tells is.apart found is.agents_are asked;
      ids_are = index_less is_named (entry_named ids) (entry_named ids') items e row named_tells is.apart found is.ids_are (λ q. id q ∙ empty_too q);
      users_are = counted_less e row items users users' is.apart found is.users_are user;
    }
  where
    -- nothing stands at an empty id, so that taking it out changes nothing
    empty_too : (q : ℕ × KeyText) → cond (has_id q.0 (cow_slice_items q.1) row) None (entry_named ids q) ≡ cond (is_named q row) None (entry_named ids q)
    empty_too q = by (is_empty (cow_slice_items q.1)) (has_id q.0 (cow_slice_items q.1) row) (is.ids_are q ∙ ap (option_map (λ (ch : Pending). ch.entry)) (named_is q items))
      where
        by : (b c : Bool) → entry_named ids q ≡ option_map (λ (ch : Pending). ch.entry) (cond b None (find (has_id q.0 (cow_slice_items q.1)) items)) → cond c None (entry_named ids q) ≡ cond (not b && c) None (entry_named ids q)
        by true true none = sym none
        by true false none = refl
        by false c none = refl

-- the indexes after a challenge is answered
pub noted : (items : List Pending) (e : ℕ) (identity : Identity) (cookies : List (KeyText × ℕ)) (agents : List ((ℕ × ℕ) × ℕ)) (ids : List ((ℕ × KeyText) × ℕ)) (users : List (ℕ × ℕ)) → AreIndexed items cookies agents ids users → AreIndexed (map (answered_by e identity) items) cookies agents ids users
noted items e identity cookies agents ids users is =
    let long : length (map (answered_by e identity) items) ≡ length items = length-map items (answered_by e identity) in record {
      apart = apart_answered e identity items is.apart;
      few = omega (arith, long, is.few);
      cookies_are = index_answered has_cookie (entry_of_cookie cookies) items e identity (λ q x i. refl) is.cookies_are;
      agents_are = index_answered is_asked (entry_at agents) items e identity (λ q x i. refl) is.agents_are;
      ids_are = index_answered is_named (entry_named ids) items e identity (λ q x i. refl) is.ids_are;
      users_are = counted_answered e identity items users is.users_are;
    }

-- where there is room for one more challenge, there are fewer than may be
pub has_room : (most count rest : ℕ) → 0 < min (most - count) rest → count < most
has_room most count rest room = omega (arith, room)
