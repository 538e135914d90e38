-- Places that hold structures alone.
use Rattle.std.proofs.Common.{◌≡◌, ℕ, zero, suc, ◌+◌, ◌-◌, ◌<◌, ◌≤◌, List, Bool, length, get_or, true, false, Some, refl, sym, ap, subst, ◌∙◌, arith, inl, inr, ◌⊎◌, ◌≢◌}
use Rattle.std.proofs.Math.ListN.{set, replicate}
use Rattle.std.proofs.lemmas.Bool.{cases_eq}
use Rattle.std.proofs.lemmas.List.{get_or-set_other, get_or-set_same, get_or-replicate, get_or_default}
use Rattle.dbus_values.specs.declared.frames.Frame.{Frame}
use Rattle.dbus_values.specs.declared.frames.Frame.TheVariants as frame
use Rattle.dbus_values.specs.Opened.{Open, opened, is_structure, with_members, seen, AllMembers}
use Rattle.dbus_values.specs.Opened as open_part
use Rattle.dbus_values.proofs.Stack.{structure_is, members_kept, with_none}

pub no_members : (from : ℕ) (xs : List Frame) → AllMembers from (from + 0) xs
no_members from xs i d at_least below = absurd (omega (arith, at_least, below))

pub members_new : (n from : ℕ) → AllMembers from n (replicate n frame.Members)
members_new n from i d at_least below = ap opened (get_or-replicate n i frame.Members d below)

-- one more place that holds a structure
pub members_more : (from i : ℕ) (xs : List Frame) (e : Frame) → AllMembers from (from + i) xs → opened (get_or xs (from + i) e) ≡ open_part.Members → from + i < length xs → AllMembers from (from + (i + 1)) xs
members_more from i xs e all last lt j d at_least below = go (cases_eq j (from + i)) where
  go : (j ≡ from + i) ⊎ (j ≢ from + i) → opened (get_or xs j d) ≡ open_part.Members
  go (inl same) = ap opened (ap (λ (k : ℕ). get_or xs k d) same ∙ get_or_default xs (from + i) d e lt) ∙ last
  go (inr other) = all j d at_least (omega (arith, below, other))

-- a place is put anew
pub members_put : (from to from2 to2 place : ℕ) (xs : List Frame) (f : Frame) → AllMembers from to xs → place < length xs → ((other : ℕ) → from2 ≤ other → other < to2 → other ≢ place → (from ≤ other) × (other < to)) → (from2 ≤ place → opened f ≡ open_part.Members) → AllMembers from2 to2 (set xs place f)
members_put from to from2 to2 place xs f all lt others own j d at_least below = go (cases_eq j place) where
  go : (j ≡ place) ⊎ (j ≢ place) → opened (get_or (set xs place f) j d) ≡ open_part.Members
  go (inl same) = ap opened (ap (λ (k : ℕ). get_or (set xs place f) k d) same ∙ get_or-set_same xs place f d lt) ∙ own (omega (arith, at_least, same))
  go (inr other) =
      let within = others j at_least below other in
      ap opened (get_or-set_other xs place j f d other) ∙ all j d within.0 within.1

pub members_put_next : (from i : ℕ) (xs : List Frame) → AllMembers from (from + i) xs → from + i < length xs → AllMembers from (from + (i + 1)) (set xs (from + i) frame.Members)
members_put_next from i xs all lt = members_put from (from + i) from (from + (i + 1)) (from + i) xs frame.Members all lt (λ other at_least below apart. (at_least, omega (arith, below, apart))) (λ at_least. refl)

-- one that is left out where it is no structure
pub structure_put : (o : Open) (good : Bool) (place from : ℕ) → good ≡ is_structure (Some o) → (good ≡ false → place < from) → from ≤ place → o ≡ open_part.Members
structure_put o true place from is left_out at_least = structure_is o (sym is)
structure_put o false place from is left_out at_least = absurd (omega (arith, left_out refl, at_least))

-- what is seen where all from one place on are structures
pub members_seen : (from n : ℕ) (xs : List Frame) → AllMembers from (from + n) xs → from + n ≤ length xs → seen (from + n) xs ≡ with_members n (seen from xs)
members_seen from zero xs all le = let k : from + 0 ≡ from = omega arith in rw (k, with_none (seen from xs)) refl
members_seen from (suc n) xs all le =
    let e : suc n ≡ n + 1 = omega arith in
    let before = members_seen from n xs (λ j d at_least below. all j d at_least (omega (arith, below))) (omega (arith, le)) in
    rw e (members_kept from n xs frame.Members (seen from xs) (all (from + n) frame.Members (omega arith) (omega arith)) (omega (arith, le)) before)

-- so many of the innermost, where these places hold structures alone
pub members_inside : (from to len n : ℕ) (xs : List Frame) → AllMembers from to xs → from ≤ len - n → len ≤ to → n ≤ len → len ≤ length xs → seen len xs ≡ with_members n (seen (len - n) xs)
members_inside from to len n xs all low high le within =
    let k : len - n + n ≡ len = omega (arith, le) in
    let e : seen (len - n + n) xs ≡ with_members n (seen (len - n) xs) = members_seen (len - n) n xs (λ j d at_least below. all j d (omega (arith, low, at_least)) (omega (arith, below, k, high))) (omega (arith, k, within)) in
    subst (λ (m : ℕ). seen m xs ≡ with_members n (seen (len - n) xs)) k e
