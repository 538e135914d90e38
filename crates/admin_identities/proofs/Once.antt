-- Adding in turn leaves each once.
use Rattle.std.proofs.Common.{◌≡◌, ℕ, Bool, true, false, not, List, [], ◌∷◌, ◌++◌, refl, ap, sym, ◌∙◌}
use Rattle.std.specs.Prelude.{◌==◌, ◌&&◌, ◌||◌, if◌then◌else◌, filter, flat_map, map, fold, OnOk, Result, Ok, Err}
use Rattle.std.proofs.lemmas.Bool.{eqb-true}
use Rattle.std.proofs.lemmas.List.{append_assoc, append-nil}
use Rattle.pk_types.specs.declared.values.Identity.{Identity}
use Rattle.authority_model.specs.declared.world.User.{User as UserRow}
use Rattle.authority_model.specs.Lists.{any_of, without_repeats}
use Rattle.authority_model.specs.Values.{same_identity}
use Rattle.admin_identities.specs.Adding.{added, member_of}

-- two identities are one only where they are equal
pub same-equal : (x y : Identity) → same_identity x y ≡ true → x ≡ y
same-equal (Identity.User a) (Identity.User b) same = ap Identity.User (eqb-true a b same)
same-equal (Identity.Group a) (Identity.Group b) same = ap Identity.Group (eqb-true a b same)
same-equal (Identity.User a) (Identity.Group b) same = absurd (cc)
same-equal (Identity.Group a) (Identity.User b) same = absurd (cc)

-- the identities that are not this one
abbrev others : Identity → List Identity → List Identity
others x xs = filter (λ z. not (same_identity x z)) xs

-- whether an identity is in a list
abbrev stands : Identity → List Identity → Bool
stands y xs = any_of (λ i. same_identity i y) xs

-- what is left without one still has another
pub stands-others : (x y : Identity) (xs : List Identity) → same_identity x y ≡ false → stands y (others x xs) ≡ stands y xs
stands-others x y [] other = refl
stands-others x y (z ∷ zs) other = go (same_identity x z) (same_identity z y) refl refl (stands-others x y zs other)
  where
    go : (a b : Bool) → same_identity x z ≡ a → same_identity z y ≡ b → stands y (others x zs) ≡ stands y zs → stands y (if not a then z ∷ others x zs else others x zs) ≡ (b || stands y zs)
    go true true first second rest = let same : z ≡ y = same-equal z y second in absurd (let both : same_identity x z ≡ same_identity x y = ap (same_identity x) same in cc)
    go true false first second rest = rest
    go false true first second rest = ap (λ b. b || stands y (others x zs)) second
    go false false first second rest = ap (λ b. b || stands y (others x zs)) second ∙ rest

-- the others of a list with one more at its end
pub others-more : (x y : Identity) (xs : List Identity) → others x (xs ++ y ∷ []) ≡ others x xs ++ others x (y ∷ [])
others-more x y [] = refl
others-more x y (z ∷ zs) = go (same_identity x z) (others-more x y zs)
  where
    go : (a : Bool) → others x (zs ++ y ∷ []) ≡ others x zs ++ others x (y ∷ []) → (if not a then z ∷ others x (zs ++ y ∷ []) else others x (zs ++ y ∷ [])) ≡ (if not a then z ∷ others x zs else others x zs) ++ others x (y ∷ [])
    go true rest = rest
    go false rest = ap (λ xs. z ∷ xs) rest

-- one identity alone, without those that are another
pub others-one : (x y : Identity) (a : Bool) → same_identity x y ≡ a → others x (y ∷ []) ≡ (if not a then y ∷ [] else [])
others-one x y a is = ap (λ t. if not t then y ∷ [] else []) is

-- one more identity, added after another one
pub added-behind : (x y : Identity) (found : List Identity) → added (x ∷ others x found) y ≡ x ∷ others x (added found y)
added-behind x y found = go (same_identity x y) (stands y found) refl refl
  where
    go : (a b : Bool) → same_identity x y ≡ a → stands y found ≡ b
        → (if same_identity x y || stands y (others x found) then x ∷ others x found else x ∷ others x found ++ y ∷ []) ≡ x ∷ others x (if stands y found then found else found ++ y ∷ [])
    go true true first second = rw (first, second) refl
    go true false first second = rw (first, second) (ap (λ xs. x ∷ xs) (sym (others-more x y found ∙ ap (λ xs. others x found ++ xs) (others-one x y true first) ∙ append-nil (others x found))))
    go false true first second = rw (stands-others x y found first, second, first) refl
    go false false first second = rw (stands-others x y found first, second, first) (ap (λ xs. x ∷ xs) (sym (others-more x y found ∙ ap (λ xs. others x found ++ xs) (others-one x y false first))))

-- one more identity, added to a list that has each once
pub added-once : (xs : List Identity) (y : Identity) → added (without_repeats same_identity xs) y ≡ without_repeats same_identity (xs ++ y ∷ [])
added-once [] y = refl
added-once (x ∷ xs) y = added-behind x y (without_repeats same_identity xs) ∙ ap (λ found. x ∷ others x found) (added-once xs y)

-- adding in turn
pub fold-added : (before xs : List Identity) → fold added (without_repeats same_identity before) xs ≡ without_repeats same_identity (before ++ xs)
fold-added before [] = ap (without_repeats same_identity) (sym (append-nil before))
fold-added before (x ∷ xs) =
    ap (λ found. fold added found xs) (added-once before x)
    ∙ fold-added (before ++ x ∷ []) xs
    ∙ ap (without_repeats same_identity) (append_assoc before (x ∷ []) xs)

-- the users for whom a group stands
pub flat_map-member_of : (gid : ℕ) (users : List UserRow) → flat_map (member_of gid) users ≡ map (λ u. Identity.User u.uid) (filter (λ u. not (u.uid == 0) && any_of (λ g. g == gid) u.gids) users)
flat_map-member_of gid [] = refl
flat_map-member_of gid (u ∷ us) = go (not (u.uid == 0) && any_of (λ g. g == gid) u.gids) (flat_map-member_of gid us)
  where
    rest : List Identity
    rest = map (λ v. Identity.User v.uid) (filter (λ v. not (v.uid == 0) && any_of (λ g. g == gid) v.gids) us)

    go : (t : Bool) → flat_map (member_of gid) us ≡ map (λ v. Identity.User v.uid) (filter (λ v. not (v.uid == 0) && any_of (λ g. g == gid) v.gids) us)
        → (if t then Identity.User u.uid ∷ [] else []) ++ flat_map (member_of gid) us ≡ map (λ v. Identity.User v.uid) (if t then u ∷ filter (λ v. not (v.uid == 0) && any_of (λ g. g == gid) v.gids) us else filter (λ v. not (v.uid == 0) && any_of (λ g. g == gid) v.gids) us)
    go true more = ap (λ is. Identity.User u.uid ∷ is) more
    go false more = more

-- a fact of a value holds of any equal one
pub ok_alike : {A T E : Type 0} (r : Result T E) (x y z : A) → OnOk r (x ≡ y) → y ≡ z → OnOk r (x ≡ z)
ok_alike (Ok v) x y z holds same = holds ∙ same
ok_alike (Err e) x y z holds same = holds
