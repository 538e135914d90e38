-- The list of a journal that grows by an entry.
use Rattle.std.proofs.Common.{◌≡◌, ℕ, ◌<◌, ◌≤◌, Bool, true, false, ◌||◌, List, [], ◌∷◌, ◌++◌, refl, ap, sym, ◌∙◌, ◌⊎◌, inl, inr, subst, length, Ok, Err, arith}
use Rattle.std.specs.Prelude.{Result, OnOk, OnErr, nat_le, reverse}
use Rattle.std.proofs.lemmas.List.{reverse-reverse, reverse-append, length-reverse, length-append}
use Rattle.std.proofs.lemmas.Bool.Decides.{nat_tests}
use Rattle.authority_model.specs.declared.journal.TheConstants.{MAX_ENTRIES}
use Rattle.authority_model.specs.declared.journal.History.{History}
use Rattle.authority_model.specs.declared.journal.Item.{Item}
use Rattle.authority_model.specs.declared.journal.Limits.{Limits}
use Rattle.authority_model.specs.Entering.{counted_bytes, is_full}
use Rattle.authority_model.specs.Items.{items_of}
use Rattle.authority_model.specs.Legal.{IsLegal}
use Rattle.authority_model.specs.Given.{Given, next, Grows}
use Rattle.authority_model.proofs.Pairing.{length_items}
use Rattle.authority_laws.specs.Batches.{in_order}
use Rattle.authority_laws.proofs.Standing.{neither}
use Rattle.authority_core.specs.Journal.{Journal}
use Rattle.authority_core.specs.Refusals.{IsFullAt}
use Rattle.shared_authority.specs.Journals.{IsJournal, IsFullWith}

-- the list of a journal that has grown
pub order_grows : (h h' : History) (g : Given) → Grows h h' g → in_order h' ≡ in_order h ++ next (items_of h) g ∷ []
order_grows h h' g grows = sym (reverse-reverse (in_order h')) ∙ ap reverse grows ∙ reverse-append (next (items_of h) g ∷ []) (items_of h) ∙ ap (λ (l : List Item). l ++ next (items_of h) g ∷ []) (reverse-reverse (in_order h))

-- it is as long as the journal
pub order_length : (h : History) → length (in_order h) ≡ length h.entries
order_length h = sym (length-reverse (in_order h)) ∙ length_items h

-- a journal that is not full has room for an entry
pub has_room : (limits : Limits) (h : History) → is_full limits (items_of h) ≡ false → length h.entries < limits.entries
has_room limits h room =
    let test = (neither (nat_le limits.entries (length (items_of h))) (nat_le limits.bytes (counted_bytes (items_of h))) room).0 in
    let less : length (items_of h) < limits.entries = grind (arith, nat_tests) in
    let same = length_items h in
    omega (arith, less, same)

-- a journal stays within its limit of entries
pub stays_within : {T E : Type 0} (r : Result T E) (old new : Journal) (g : Given) → OnOk r (Grows old.history new.history g) → OnErr r (new ≡ old) → OnOk r (is_full old.limits (items_of old.history) ≡ false)
    → (limits : Limits) → old.limits ≡ limits → length old.history.entries ≤ limits.entries → length new.history.entries ≤ limits.entries
stays_within (Ok value) old new g grows err room limits named within =
    let longer = ap length (order_grows old.history new.history g grows) ∙ length-append (in_order old.history) (next (items_of old.history) g ∷ []) in
    let before = order_length old.history in
    let after = order_length new.history in
    let less = has_room old.limits old.history room in
    let limit = ap (λ (l : Limits). l.entries) named in
    omega (arith, longer, before, after, less, limit)
stays_within (Err refused) old new g grows err room limits named within = subst (λ (j : Journal). length j.history.entries ≤ limits.entries) (sym err) within

-- the list of a journal that has grown is a journal
pub order_journal : (h h' : History) (g : Given) (limits : Limits) → Grows h h' g → IsLegal h' → is_full limits (items_of h) ≡ false → limits.entries ≤ MAX_ENTRIES → IsJournal (in_order h')
order_journal h h' g limits grows legal room few = record {
  history = legal.items;
  few =
      let longer = ap length (order_grows h h' g grows) ∙ length-append (in_order h) (next (items_of h) g ∷ []) in
      let less = has_room limits h room in
      let same = order_length h in
      omega (arith, longer, less, same, few);
}

-- which limit a full journal reaches
reaches : (limits : Limits) (entries bytes : ℕ) → (nat_le limits.entries entries || nat_le limits.bytes bytes) ≡ true → entries ≤ limits.entries → (entries ≡ limits.entries) ⊎ (limits.bytes ≤ bytes)
reaches limits entries bytes full within = of (nat_le limits.entries entries) refl full
  where
    of : (b : Bool) → nat_le limits.entries entries ≡ b → (b || nat_le limits.bytes bytes) ≡ true → (entries ≡ limits.entries) ⊎ (limits.bytes ≤ bytes)
    of true is e = inl (let many : limits.entries ≤ entries = grind (arith, nat_tests) in omega (arith, many, within))
    of false is e = inr (grind (arith, nat_tests))

-- a journal that the authority says to be full
pub full_with : (journal : Journal) (limits : Limits) (entries bytes : ℕ) → IsFullAt journal entries bytes → journal.limits ≡ limits → length journal.history.entries ≤ limits.entries → IsFullWith limits (in_order journal.history) entries bytes
full_with journal limits entries bytes full named within =
    let h = journal.history in
    let same = length_items h in
    record {
      entries_are = full.entries_are ∙ length-reverse (in_order h);
      bytes_are = full.bytes_are;
      limit = reaches limits entries bytes
          (ap (λ (n : ℕ). nat_le limits.entries n || nat_le limits.bytes bytes) full.entries_are ∙ ap (λ (n : ℕ). nat_le limits.entries (length (items_of h)) || nat_le limits.bytes n) full.bytes_are ∙ ap (λ (l : Limits). is_full l (items_of h)) (sym named) ∙ full.full)
          (omega (arith, full.entries_are, same, within));
    }
