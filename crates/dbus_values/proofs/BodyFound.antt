-- A body that was read has the parts of values of its signature.
use Rattle.std.proofs.Common.{◌≡◌, ℕ, ◌+◌, ◌≤◌, List, [], ◌∷◌, ◌++◌, length, Bool, true, cond, eqb, Ok, refl, sym, ap, ◌∙◌, arith}
use Rattle.std.proofs.lemmas.Bool.{eqb-true}
use Rattle.std.proofs.lemmas.List.{append-nil}
use Rattle.dbus_values.specs.declared.codes.TheConstants.{MAX_MESSAGE}
use Rattle.dbus_values.specs.declared.fault.FaultKind.TheVariants as fault
use Rattle.dbus_values.specs.Reading.{bad, spot_at}
use Rattle.dbus_values.specs.Walk.{Walked, walked, state, parts, values_at, most_parts}
use Rattle.dbus_values.specs.Messages.{body_at}
use Rattle.dbus_values.specs.Trees.{Trees, types_of, all_marshalled, all_pieces, AllFit}
use Rattle.dbus_values.proofs.Numbers.{IsBytes, bind_ok, held_ok, ok_is}
use Rattle.dbus_values.proofs.Counting.{values_again}
use Rattle.dbus_values.proofs.Finding.{row_found}
use Rattle.dbus_values.proofs.Whole.{body_parts}

no_rest : (bytes : List ℕ) → eqb (length bytes) 0 ≡ true → bytes ≡ []
no_rest [] e = refl
no_rest (b ∷ bytes) e = let k : length (b ∷ bytes) ≡ 0 = eqb-true _ _ e in absurd (omega arith)

pub body_values : (big : Bool) (sig : List ℕ) (at n : ℕ) (bytes : List ℕ) → IsBytes bytes → at + length bytes ≤ MAX_MESSAGE → body_at big sig at bytes ≡ Ok n
    → (ts : Trees) × AllFit 64 ts × (sig ≡ types_of ts) × (parts n 64 big (state [] sig at bytes) ≡ all_pieces ts)
unfolding body_at
body_values big sig at n bytes fits short e =
    let b = bind_ok (values_at 64 big sig at bytes) (λ w. cond (eqb (length w.rest) 0) (Ok w.parts) (bad fault.Length w.at)) n e in
    let h = held_ok (eqb (length b.0.rest) 0) (record { kind = fault.Length; at = b.0.at }) (Ok b.0.parts) n b.2 in
    let r = row_found most_parts 64 most_parts 0 64 big sig at bytes b.0 (omega arith) refl fits b.1 in
    let ts = r.trees in
    let m = all_marshalled big at ts in
    let bytes_are : bytes ≡ m = r.bytes_are ∙ ap (λ (y : List ℕ). m ++ y) (no_rest b.0.rest h.0) ∙ append-nil m in
    let small : length m ≤ MAX_MESSAGE = omega (arith, ap length bytes_are, short) in
    let again = values_again 64 big ts at [] (omega arith) r.fit small in
    let same : values_at 64 big sig at bytes ≡ Ok (walked (length (all_pieces ts)) (spot_at (at + length m) [])) =
    ap (λ (s : List ℕ). values_at 64 big s at bytes) r.sig_is ∙ ap (λ (x : List ℕ). values_at 64 big (types_of ts) at x) (bytes_are ∙ sym (append-nil m)) ∙ again in
    let w_is : b.0 ≡ walked (length (all_pieces ts)) (spot_at (at + length m) []) = ok_is _ _ (sym b.1 ∙ same) in
    let n_is : n ≡ length (all_pieces ts) = sym (ok_is _ _ h.1) ∙ ap (λ (w : Walked). w.parts) w_is in
    let shown : parts n 64 big (state [] sig at bytes) ≡ all_pieces ts =
    ap (λ (k : ℕ). parts k 64 big (state [] sig at bytes)) n_is ∙ ap (λ (s : List ℕ). parts (length (all_pieces ts)) 64 big (state [] s at bytes)) r.sig_is ∙ ap (λ (x : List ℕ). parts (length (all_pieces ts)) 64 big (state [] (types_of ts) at x)) bytes_are ∙ body_parts big ts at r.fit (omega (arith, small)) in
    (ts, r.fit, r.sig_is, shown)
