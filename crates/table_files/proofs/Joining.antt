-- The gids that rows add to a user.
use Rattle.std.proofs.Common.{◌≡◌, ◌≢◌, ℕ, ◌<◌, ◌==◌, ◌||◌, Bool, true, false, cond, List, [], ◌∷◌, ◌++◌, length, get_or, map, fold, Bor, Option, Some, None, refl, ap, sym, ◌∙◌, arith, append_assoc}
use Rattle.std.specs.Prelude.{bytes_eq, filter, position}
use Rattle.std.specs.List.{list_any}
use Rattle.std.proofs.Math.ListN.{set}
use Rattle.std.proofs.lemmas.List.{map-append, append-nil, get_or-set_same, get_or-set_other}
use Rattle.std.proofs.lemmas.List.Elements.{filter-append}
use Rattle.std.proofs.lemmas.List.Folds.{list_any-append}
use Rattle.std.proofs.lemmas.List.Quantifiers.{position-Some}
use Rattle.std.proofs.lemmas.List.Sums.{fold-append}
use Rattle.table_files.specs.Groups.{Listing, lists_member, gids_of_member, with_gid}
use Rattle.table_files.specs.Kept.{gids_at, gid_of_each, gids_of_each}
use Rattle.table_files.proofs.Keys.{is_same, bytes_eq-same}

pub gid_of_each-append : (name : List ℕ) (gid : ℕ) (xs ys : List (List ℕ)) → gid_of_each name gid (xs ++ ys) ≡ gid_of_each name gid xs ++ gid_of_each name gid ys
gid_of_each-append name gid xs ys =
    ap (map (λ (_ : List ℕ). gid)) (filter-append (λ member. bytes_eq name member) xs ys)
    ∙ map-append (λ (_ : List ℕ). gid) (filter (λ member. bytes_eq name member) xs) (filter (λ member. bytes_eq name member) ys)

pub gids_of_each-append : (name : List ℕ) (xs ys : List Listing) → gids_of_each name (xs ++ ys) ≡ gids_of_each name xs ++ gids_of_each name ys
gids_of_each-append name [] ys = refl
gids_of_each-append name (row ∷ xs) ys =
    ap (λ gids. gid_of_each name row.group.gid row.members ++ gids) (gids_of_each-append name xs ys)
    ∙ sym (append_assoc (gid_of_each name row.group.gid row.members) (gids_of_each name xs) (gids_of_each name ys))

or_true : (t : Bool) → (t || true) ≡ true
or_true true = refl
or_true false = refl

same_number : (n : ℕ) → (n == n) ≡ true
same_number n = search (arith)

-- a gid that was added is there
gid_there : (gids : List ℕ) (gid : ℕ) → list_any (λ g. gid == g) (with_gid gids gid) ≡ true
gid_there gids gid = of (list_any (λ g. gid == g) gids) refl
  where
    of : (there : Bool) → list_any (λ g. gid == g) gids ≡ there → list_any (λ g. gid == g) (cond there gids (gids ++ gid ∷ [])) ≡ true
    of true e = e
    of false e =
        list_any-append (λ g. gid == g) gids (gid ∷ [])
        ∙ ap (λ t. list_any (λ g. gid == g) gids || (t || false)) (same_number gid)
        ∙ or_true (list_any (λ g. gid == g) gids)

-- and it is added once
added_once : (gids : List ℕ) (gid : ℕ) → with_gid (with_gid gids gid) gid ≡ with_gid gids gid
added_once gids gid = ap (λ t. cond t (with_gid gids gid) (with_gid gids gid ++ gid ∷ [])) (gid_there gids gid)

either_way : {A : Type 0} (t : Bool) (x y : A) → x ≡ y → cond t x y ≡ y
either_way true x y e = e
either_way false x y e = refl

-- a gid once for each member of a name is the gid where the name is a member
fold-gid_of_each : (name : List ℕ) (gid : ℕ) (members : List (List ℕ)) (gids : List ℕ)
    → fold with_gid gids (gid_of_each name gid members) ≡ cond (list_any (λ member. bytes_eq name member) members) (with_gid gids gid) gids
fold-gid_of_each name gid [] gids = refl
fold-gid_of_each name gid (m ∷ members) gids = of (bytes_eq name m) (λ g. fold-gid_of_each name gid members g)
  where
    of : (t : Bool) → ((g : List ℕ) → fold with_gid g (gid_of_each name gid members) ≡ cond (list_any (λ member. bytes_eq name member) members) (with_gid g gid) g)
        → fold with_gid gids (map (λ (_ : List ℕ). gid) (cond t (m ∷ filter (λ member. bytes_eq name member) members) (filter (λ member. bytes_eq name member) members)))
        ≡ cond (t || list_any (λ member. bytes_eq name member) members) (with_gid gids gid) gids
    of true rest =
        rest (with_gid gids gid)
        ∙ either_way (list_any (λ member. bytes_eq name member) members) (with_gid (with_gid gids gid) gid) (with_gid gids gid) (added_once gids gid)
    of false rest = rest gids

pub fold-gids_of_each : (name : List ℕ) (rows : List Listing) (gids : List ℕ) → fold with_gid gids (gids_of_each name rows) ≡ fold with_gid gids (gids_of_member name rows)
fold-gids_of_each name [] gids = refl
fold-gids_of_each name (row ∷ rows) gids =
    fold-append with_gid gids (gid_of_each name row.group.gid row.members) (gids_of_each name rows)
    ∙ ap (λ g. fold with_gid g (gids_of_each name rows)) (fold-gid_of_each name row.group.gid row.members gids)
    ∙ fold-gids_of_each name rows (cond (lists_member name row) (with_gid gids row.group.gid) gids)
    ∙ of (lists_member name row)
  where
    of : (t : Bool) → fold with_gid (cond t (with_gid gids row.group.gid) gids) (gids_of_member name rows)
        ≡ fold with_gid gids (map (λ (r : Listing). r.group.gid) (cond t (row ∷ filter (lists_member name) rows) (filter (lists_member name) rows)))
    of true = refl
    of false = refl

-- what is kept for each name, where the gids at a member's place get one more
pub joined_here : (keys : List (Bor (List ℕ))) (lists new : List (List ℕ)) (member : List ℕ) (gid i : ℕ) → position (λ n. bytes_eq member n.now) keys ≡ Some i → i < length lists
    → new ≡ set lists i (get_or lists i [] ++ gid ∷ []) → (name : List ℕ)
    → gids_at new (position (λ n. bytes_eq name n.now) keys) ≡ gids_at lists (position (λ n. bytes_eq name n.now) keys) ++ gid_of_each name gid (member ∷ [])
joined_here keys lists new member gid i here less e name = of (bytes_eq name member) refl
  where
    d : Bor (List ℕ)
    d = record { ref_ptr = (0, 0); now = [] }

    apart : bytes_eq name member ≡ false → (j : ℕ) → position (λ n. bytes_eq name n.now) keys ≡ Some j → j ≢ i
    apart differ j there same =
        let at_j = is_same name (get_or keys j d).now (position-Some (λ n. bytes_eq name n.now) keys j d there).1 in
        let at_i = is_same member (get_or keys i d).now (position-Some (λ n. bytes_eq member n.now) keys i d here).1 in
        let equal : name ≡ member = at_j ∙ ap (λ k. (get_or keys k d).now) same ∙ sym at_i in
        let is : bytes_eq name member ≡ true = ap (bytes_eq name) (sym equal) ∙ bytes_eq-same name in
        absurd (cc)

    elsewhere : bytes_eq name member ≡ false → (o : Option ℕ) → position (λ n. bytes_eq name n.now) keys ≡ o → gids_at new o ≡ gids_at lists o ++ []
    elsewhere differ None there = refl
    elsewhere differ (Some j) there =
        ap (λ ls. get_or ls j []) e
        ∙ get_or-set_other lists i j (get_or lists i [] ++ gid ∷ []) [] (apart differ j there)
        ∙ sym (append-nil (get_or lists j []))

    of : (t : Bool) → bytes_eq name member ≡ t
        → gids_at new (position (λ n. bytes_eq name n.now) keys) ≡ gids_at lists (position (λ n. bytes_eq name n.now) keys) ++ map (λ (_ : List ℕ). gid) (cond t (member ∷ []) [])
    of true is =
        let at : position (λ n. bytes_eq name n.now) keys ≡ Some i = ap (λ x. position (λ (n : Bor (List ℕ)). bytes_eq x n.now) keys) (is_same name member is) ∙ here in
        ap (gids_at new) at
        ∙ ap (λ ls. get_or ls i []) e
        ∙ get_or-set_same lists i (get_or lists i [] ++ gid ∷ []) [] less
        ∙ ap (λ o. gids_at lists o ++ gid ∷ []) (sym at)
    of false differ = elsewhere differ (position (λ n. bytes_eq name n.now) keys) refl
