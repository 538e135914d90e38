-- One of several values, by its name.
use Rattle.std.proofs.Common.{◌≡◌, ℕ, Bool, true, ◌&&◌, List, [], ◌∷◌, Option, Some, refl, sym, ap, ◌∙◌, inl, inr}
use Rattle.std.specs.Str.{bytes_eq}
use Rattle.audit_words.specs.Codecs.{named_in, name_among}
use Rattle.audit_words.specs.Faults.{Lawful}
use Rattle.audit_words.proofs.Basics.{one_lawful}
use Rattle.audit_words.proofs.Tests.{same_bytes, chosen}
use Rattle.audit_words.proofs.Cleaning.{is_clean, clean_word, both_true}

-- each value of the table stands beside its name, which has no space and no LF
abbrev pub are_names : {V : Type 0} → (V → List ℕ) → List (List ℕ × V) → Bool
are_names name [] = true
are_names name (x ∷ xs) = bytes_eq (name x.1) x.0 && (is_clean x.0 && are_names name xs)

some_is : {V : Type 0} (u v : V) (o : Option V) → o ≡ Some u → o ≡ Some v → u ≡ v
some_is u v o d e = cc

names_only : {V : Type 0} (name : V → List ℕ) (all : List (List ℕ × V)) → are_names name all ≡ true
    → (w : List ℕ) (v : V) → named_in all w ≡ Some v → (w ≡ name v) × (is_clean w ≡ true)
names_only name [] is w v e = absurd cc
names_only {V} name (x ∷ xs) is w v e =
    let p = both_true (bytes_eq (name x.1) x.0) (is_clean x.0 && are_names name xs) is in
    let q = both_true (is_clean x.0) (are_names name xs) p.1 in
    elim (chosen (bytes_eq w x.0) (Some x.1) (named_in xs w) (Some v) e) [
      | inl h ↦
          let same : w ≡ x.0 = same_bytes w x.0 h.0 in
          let value : x.1 ≡ v = some_is x.1 v (Some x.1) refl h.1 in
          (same ∙ sym (same_bytes (name x.1) x.0 p.0) ∙ ap name value, ap is_clean same ∙ q.0)
      | inr h ↦ names_only name xs q.1 w v h.1
    ]

-- where each value is found by its name, and stands beside it
pub name_among_lawful : {V : Type 0} (name : V → List ℕ) (all : List (List ℕ × V)) (some : V)
    → are_names name all ≡ true → ((v : V) → named_in all (name v) ≡ Some v) → Lawful (name_among name all)
name_among_lawful name all some is back = one_lawful (record {
  some = some;
  some_fits = tt;
  back = λ v f. back v;
  only = λ w v e. ((names_only name all is w v e).0, tt);
  due = λ v. refl;
  clean = λ v f. clean_word (name v) (names_only name all is (name v) v (back v)).1;
})
