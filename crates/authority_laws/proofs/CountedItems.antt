-- A journal is full exactly where its items are.
use Rattle.std.proofs.Common.{refl, ◌≡◌, Bool, true, false, ◌||◌, ◌⊎◌, inl, inr, sym, length, arith}
use Rattle.std.specs.Prelude.{nat_le, ◌↔◌}
use Rattle.std.proofs.lemmas.Bool.Decides.{nat_tests}
use Rattle.authority_model.specs.declared.journal.History.{History}
use Rattle.authority_model.specs.declared.journal.Limits.{Limits}
use Rattle.authority_model.specs.Costs.{bytes_of, IsFull}
use Rattle.authority_model.specs.Entering.{counted_bytes, is_full}
use Rattle.authority_model.specs.Items.{items_of}
use Rattle.authority_model.specs.Legal.{IsLegal}
use Rattle.authority_model.proofs.Counting.{counted_is}
use Rattle.authority_model.proofs.Pairing.{length_items}

pub bytes_are_counted : (h : History) → IsLegal h → bytes_of h ≡ counted_bytes (items_of h)
bytes_are_counted h legal = sym (counted_is h legal.loads)

-- one of two tests passes
either : (a b : Bool) → (a || b) ≡ true → (a ≡ true) ⊎ (b ≡ true)
either true b e = inl refl
either false b e = inr e

full_then : (limits : Limits) (h : History) → IsLegal h → IsFull limits h → is_full limits (items_of h) ≡ true
full_then limits h legal (inl entries) =
    let many : nat_le limits.entries (length (items_of h)) ≡ true = let n = length_items h in grind (arith, nat_tests) in
    rw many refl
full_then limits h legal (inr bytes) =
    let many : nat_le limits.bytes (counted_bytes (items_of h)) ≡ true = let n = bytes_are_counted h legal in grind (arith, nat_tests) in
    second (nat_le limits.entries (length (items_of h))) (nat_le limits.bytes (counted_bytes (items_of h))) many
  where
    second : (a b : Bool) → b ≡ true → (a || b) ≡ true
    second true b e = refl
    second false b e = e

full_from : (limits : Limits) (h : History) → IsLegal h → is_full limits (items_of h) ≡ true → IsFull limits h
full_from limits h legal e = of (either (nat_le limits.entries (length (items_of h))) (nat_le limits.bytes (counted_bytes (items_of h))) e)
  where
    of : (nat_le limits.entries (length (items_of h)) ≡ true) ⊎ (nat_le limits.bytes (counted_bytes (items_of h)) ≡ true) → IsFull limits h
    of (inl many) = inl (let n = length_items h in grind (arith, nat_tests))
    of (inr many) = inr (let n = bytes_are_counted h legal in grind (arith, nat_tests))

pub full_is : (limits : Limits) (h : History) → IsLegal h → (IsFull limits h ↔ (is_full limits (items_of h) ≡ true))
full_is limits h legal = (full_then limits h legal, full_from limits h legal)
