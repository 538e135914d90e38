-- The derived comparison of the keys of an index.
use Rattle.std.proofs.Common.{◌≡◌, ℕ, ◌==◌, Bool, true, false, ◌&&◌, List, refl, sym, ap, ◌∙◌}
use Rattle.std.specs.Prelude.{bytes_eq}
use Rattle.std.specs.Cow.{cow_slice_items}
use Rattle.std.proofs.lemmas.Bool.Decides.{Decides-eqb}
use Rattle.std.proofs.lemmas.Slice.Eq.{bytes_eq-Decides}
use Rattle.authority_model.specs.Keys.{same_key}
use Rattle.key_index.specs.declared.keys.KeyOf.{KeyOf}
use Rattle.key_index.specs.declared.keys.KeyOf.TheVariants.{Process, Session}
use Rattle.key_index.specs.Held.{key_held}
use Rattle.key_index.specs.contracts.keys.KeyOfPartialEq.TheImpl as derived

-- two answers of which each implies the other are one
alike : (b c : Bool) → (b ≡ true → c ≡ true) → (c ≡ true → b ≡ true) → b ≡ c
alike true c to from = sym (to refl)
alike false true to from = from refl
alike false false to from = refl

-- numbers are compared either way round
pub turned : (m n : ℕ) → (m == n) ≡ (n == m)
turned m n = alike (m == n) (n == m) (λ e. (Decides-eqb n m).1 (sym ((Decides-eqb m n).0 e))) (λ e. (Decides-eqb m n).1 (sym ((Decides-eqb n m).0 e)))

-- and so are bytes
bytes_turned : (xs ys : List ℕ) → bytes_eq xs ys ≡ bytes_eq ys xs
bytes_turned xs ys = alike (bytes_eq xs ys) (bytes_eq ys xs) (λ e. (bytes_eq-Decides ys xs).1 (sym ((bytes_eq-Decides xs ys).0 e))) (λ e. (bytes_eq-Decides xs ys).1 (sym ((bytes_eq-Decides ys xs).0 e)))

-- three tests, however they are grouped
grouped : (a b c : Bool) → (a && (b && c)) ≡ (a && b && c)
grouped true b c = refl
grouped false b c = refl

-- the derived comparison says whether the keys that the two stand for are one
pub held_same : (q k : KeyOf) → derived.ghosts.eq q k ≡ same_key (key_held k) (key_held q)
held_same (Process pid start uid) (Process p s u) =
    ap (λ b. b && ((start == s) && (uid == u))) (turned pid p) ∙ ap (λ b. (p == pid) && (b && (uid == u))) (turned start s) ∙ ap (λ b. (p == pid) && ((s == start) && b)) (turned uid u)
    ∙ grouped (p == pid) (s == start) (u == uid)
held_same (Process pid start uid) (Session i u) = refl
held_same (Session id uid) (Process p s u) = refl
held_same (Session id uid) (Session i u) =
    ap (λ b. b && (uid == u)) (bytes_turned (cow_slice_items id) (cow_slice_items i)) ∙ ap (λ b. bytes_eq (cow_slice_items i) (cow_slice_items id) && b) (turned uid u)
