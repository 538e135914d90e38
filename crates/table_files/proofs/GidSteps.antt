-- One more member, row, gid or user.
use Rattle.std.proofs.Common.{◌≡◌, ℕ, ◌+◌, ◌<◌, ◌==◌, ◌||◌, Bool, true, false, not, cond, List, [], ◌∷◌, ◌++◌, length, get_or, take, map, fold, Bor, ap, sym, ◌∙◌, append_assoc}
use Rattle.std.specs.Prelude.{bytes_eq}
use Rattle.std.specs.List.{list_any}
use Rattle.std.proofs.lemmas.List.{map-append, append-nil, take_more}
use Rattle.std.proofs.lemmas.List.Folds.{list_any-append, list_any_at}
use Rattle.std.proofs.lemmas.List.Sums.{fold-append}
use Rattle.indexmap.specs.IndexSet.{insert_key}
use Rattle.authority_model.specs.declared.world.User.{User}
use Rattle.table_files.specs.declared.kept.GroupRow.{GroupRow}
use Rattle.table_files.specs.Groups.{Listing, with_gid, member_of}
use Rattle.table_files.specs.Kept.{listing_in, gid_of_each, gids_of_each}
use Rattle.table_files.proofs.Keys.{now_of, same_number, bytes_eq-same}
use Rattle.table_files.proofs.Joining.{gid_of_each-append, gids_of_each-append, fold-gids_of_each}

-- a list up to one more element
pub take_step : {A : Type 0} (xs : List A) (i : ℕ) (x : A) → i < length xs → x ≡ get_or xs i x → take i xs ++ x ∷ [] ≡ take (i + 1) xs
take_step xs i x less is = ap (λ y. take i xs ++ y ∷ []) is ∙ sym (take_more xs i x less)

pub map_step : {A B : Type 0} (f : A → B) (xs : List A) (i : ℕ) (x : A) → i < length xs → x ≡ get_or xs i x → map f (take i xs) ++ f x ∷ [] ≡ map f (take (i + 1) xs)
map_step f xs i x less is = sym (map-append f (take i xs) (x ∷ [])) ∙ ap (map f) (take_step xs i x less is)

-- the gids with those of one more member
pub member_step : (name : List ℕ) (gid : ℕ) (kept : List ℕ) (members : List (Bor (List ℕ))) (i : ℕ) (d : Bor (List ℕ)) → i < length members
    → (kept ++ gid_of_each name gid (map now_of (take i members))) ++ gid_of_each name gid ((get_or members i d).now ∷ []) ≡ kept ++ gid_of_each name gid (map now_of (take (i + 1) members))
member_step name gid kept members i d less =
    append_assoc kept (gid_of_each name gid (map now_of (take i members))) (gid_of_each name gid ((get_or members i d).now ∷ []))
    ∙ ap (λ gids. kept ++ gids) (sym (gid_of_each-append name gid (map now_of (take i members)) ((get_or members i d).now ∷ [])))
    ∙ ap (λ ms. kept ++ gid_of_each name gid ms) (sym (map-append now_of (take i members) (get_or members i d ∷ [])) ∙ ap (map now_of) (sym (take_more members i d less)))

-- and with those of one more row
pub row_step : (name : List ℕ) (rows : List GroupRow) (i : ℕ) (row : GroupRow) → i < length rows → row ≡ get_or rows i row
    → gids_of_each name (map listing_in (take i rows)) ++ gid_of_each name (listing_in row).group.gid (listing_in row).members ≡ gids_of_each name (map listing_in (take (i + 1) rows))
row_step name rows i row less is =
    ap (λ gids. gids_of_each name (map listing_in (take i rows)) ++ gids) (sym (append-nil (gid_of_each name (listing_in row).group.gid (listing_in row).members)))
    ∙ sym (gids_of_each-append name (map listing_in (take i rows)) (listing_in row ∷ []))
    ∙ ap (gids_of_each name) (map_step listing_in rows i row less is)

not_true : (t : Bool) → not t ≡ true → t ≡ false
not_true true e = sym e
not_true false e = sym (ap not e)

not_false : (t : Bool) → not t ≡ false → t ≡ true
not_false true e = sym (ap not e)
not_false false e = sym e

-- a set and a list that have the same gids
abbrev pub SameGids : List ℕ → List ℕ → Type 0
SameGids keys gids = (gid : ℕ) → list_any (λ n. gid == n) keys ≡ list_any (λ n. gid == n) gids

module _ (keys new gids : List ℕ) (gid : ℕ) (added : Bool) (same : SameGids keys gids) (put : new ≡ insert_key same_number keys gid) (was : added ≡ not (list_any (λ n. gid == n) keys)) where
  -- a gid that is new goes last in both
  pub gid_added : added ≡ true → SameGids new (gids ++ gid ∷ [])
  gid_added is_new g =
      let none = not_true (list_any (λ n. gid == n) keys) (sym was ∙ is_new) in
      ap (list_any (λ n. g == n)) (put ∙ ap (λ t. cond t keys (keys ++ gid ∷ [])) none)
      ∙ list_any-append (λ n. g == n) keys (gid ∷ [])
      ∙ ap (λ t. t || ((g == gid) || false)) (same g)
      ∙ sym (list_any-append (λ n. g == n) gids (gid ∷ []))

  pub gid_pushed : added ≡ true → gids ++ gid ∷ [] ≡ with_gid gids gid
  gid_pushed is_new =
      let none = not_true (list_any (λ n. gid == n) keys) (sym was ∙ is_new) in
      sym (ap (λ t. cond t gids (gids ++ gid ∷ [])) (sym (same gid) ∙ none))

  -- another one goes nowhere
  pub gid_passed_over : added ≡ false → SameGids new gids
  gid_passed_over is_old g =
      let there = not_false (list_any (λ n. gid == n) keys) (sym was ∙ is_old) in
      ap (list_any (λ n. g == n)) (put ∙ ap (λ t. cond t keys (keys ++ gid ∷ [])) there) ∙ same g

  pub gids_stay : added ≡ false → gids ≡ with_gid gids gid
  gids_stay is_old =
      let there = not_false (list_any (λ n. gid == n) keys) (sym was ∙ is_old) in
      sym (ap (λ t. cond t gids (gids ++ gid ∷ [])) (sym (same gid) ∙ there))

-- the fold with one more gid
pub fold_step : (own more gids : List ℕ) (i gid : ℕ) → i < length more → gid ≡ get_or more i gid → gids ≡ fold with_gid own (take i more) → with_gid gids gid ≡ fold with_gid own (take (i + 1) more)
fold_step own more gids i gid less is e =
    ap (λ g. with_gid g gid) e
    ∙ sym (fold-append with_gid own (take i more) (gid ∷ []))
    ∙ ap (fold with_gid own) (take_step more i gid less is)

-- a user with the gids that are kept for its name is the user in the groups of the rows
pub user_step : (rows : List Listing) (users : List User) (i : ℕ) (user copy : User) (gids : List ℕ) → i < length users → user ≡ get_or users i user
    → (list_any (λ u. bytes_eq user.name u.name) users ≡ true → gids ≡ gids_of_each user.name rows)
    → copy ≡ record user { gids = fold with_gid user.gids gids }
    → map (member_of rows) (take i users) ++ copy ∷ [] ≡ map (member_of rows) (take (i + 1) users)
user_step rows users i user copy gids less is kept e =
    let there = list_any_at (λ u. bytes_eq user.name u.name) users i user less (ap (λ u. bytes_eq user.name u.name) (sym is) ∙ bytes_eq-same user.name) in
    ap (λ c. map (member_of rows) (take i users) ++ c ∷ [])
    (e
    ∙ ap (λ g. record user { gids = fold with_gid user.gids g }) (kept there)
    ∙ ap (λ g. record user { gids = g }) (fold-gids_of_each user.name rows user.gids))
    ∙ map_step (member_of rows) users i user less is
