-- Each entry has at most one pending challenge.
use Rattle.std.proofs.Common.{◌≡◌, ℕ, ◌<◌, Bool, true, false, List, ◌∷◌, refl, sym, ◌∙◌, Some, length, subst, arith}
use Rattle.std.proofs.lemmas.Bool.{ne_eqb}
use Rattle.std.proofs.lemmas.Bool.Decides.{Decides-eqb}
use Rattle.std.specs.Prelude.{find}
use Rattle.authority_model.specs.declared.journal.Item.{Item}
use Rattle.authority_model.specs.declared.pending.Pending.{Pending}
use Rattle.authority_model.specs.Lists.{Has, AtMostOne}
use Rattle.authority_model.specs.Challenges.{pending, opened, closes}
use Rattle.entry_changes.specs.Changes.{is_of_entry}
use Rattle.authority_model.specs.Legal.{Legal}
use Rattle.authority_laws.proofs.OnlyOne.{find_only}
use Rattle.authority_laws.proofs.OnePending.{each_pending, one_pending}
use Rattle.authority_laws.proofs.Opening.{opening}
use Rattle.change_laws.proofs.ChallengeLists.{OneEach}

-- a challenge is of the entry that opened it
pub new_entry : (past : List Item) (i : Item) (ch : Pending) → opened past i ≡ Some ch → ch.entry ≡ length past
new_entry past i ch e = subst (λ (ch : Pending). ch.entry ≡ length past) (opening past i ch e).whole refl

-- a pending challenge is of an entry of the history
pub entry_below : (past : List Item) → Legal past → (ch : Pending) → Has (pending past) ch → ch.entry < length past
entry_below = each_pending (λ past ch. ch.entry < length past) opens stays
  where
    opens : (past : List Item) (i : Item) (ch : Pending) → Legal (i ∷ past) → opened past i ≡ Some ch → ch.entry < length (i ∷ past)
    opens past i ch legal e = let new = new_entry past i ch e in omega (arith, new)

    stays : (past : List Item) (i : Item) (ch : Pending) → Legal (i ∷ past) → ch.entry < length past → closes past ch i ≡ false → ch.entry < length (i ∷ past)
    stays past i ch legal h open' = omega (arith, h)

-- at most one pending challenge is of an entry
pub one_entry : (past : List Item) → Legal past → (n : ℕ) → AtMostOne (is_of_entry n) (pending past)
one_entry past legal n = one_pending (is_of_entry n) (λ past i ch. refl) fresh past legal
  where
    fresh : (past : List Item) (i : Item) (ch : Pending) → Legal (i ∷ past) → opened past i ≡ Some ch → is_of_entry n ch ≡ true → (d : Pending) → Has (pending past) d → is_of_entry n d ≡ false
    fresh past i ch legal e t d h =
        let new = new_entry past i ch e in
        let old = entry_below past legal.1 d h in
        let same : n ≡ ch.entry = (Decides-eqb n ch.entry).0 t in
        ne_eqb n d.entry (λ other. omega (arith, new, old, same, other))

-- pending challenges of one entry are one
pub one_each : (past : List Item) → Legal past → OneEach (pending past)
one_each past legal x y hx hy same =
    let test : Pending → Bool = is_of_entry x.entry in
    let first : find (is_of_entry x.entry) (pending past) ≡ Some x = find_only (is_of_entry x.entry) (pending past) (one_entry past legal x.entry) x hx ((Decides-eqb x.entry x.entry).1 refl) in
    let second : find (is_of_entry x.entry) (pending past) ≡ Some y = find_only (is_of_entry x.entry) (pending past) (one_entry past legal x.entry) y hy ((Decides-eqb x.entry y.entry).1 same) in
    let both : Some x ≡ Some y = sym first ∙ second in
    cc both
