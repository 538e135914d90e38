-- Padding, numbers and texts that were marshalled are read again, and what is read was marshalled so.
use Rattle.std.proofs.Common.{◌≡◌, ℕ, zero, suc, ◌+◌, ◌<◌, ◌≤◌, ◌^◌, List, [], ◌∷◌, ◌++◌, length, get_or, take, drop, Bool, true, false, cond, eqb, ltb, Result, Ok, Err, refl, sym, ap, subst, ◌∙◌, arith, append_assoc, inl, inr}
use Rattle.std.specs.Int.{Width, w16, w32, w64, byte_len}
use Rattle.std.proofs.lemmas.Bool.{cases_lt, ltb-false, ltb-true, le-ltb, lt-ltb, eqb-true}
use Rattle.std.proofs.lemmas.List.{take_at, drop_at, take-append-drop, length-append, length-take, get_or-drop, get_or-take, get_or_past}
use Rattle.std.proofs.lemmas.Nat.{le_bytes_2, le_bytes_4, le_bytes_8, be_bytes_2, be_bytes_4, be_bytes_8, from_be_bytes-to_be_bytes_2, from_be_bytes-to_be_bytes_4, from_be_bytes-to_be_bytes_8, from_le_bytes-to_le_bytes_2, from_le_bytes-to_le_bytes_4, from_le_bytes-to_le_bytes_8}
use Rattle.dbus_values.specs.declared.fault.Fault.{Fault}
use Rattle.dbus_values.specs.declared.fault.FaultKind.TheVariants as fault
use Rattle.dbus_values.specs.Reading.{◌>>=◌, bad, Spot, spot_at}
use Rattle.dbus_values.specs.Signatures.{is_signature}
use Rattle.dbus_values.specs.Basics.{zeros, number, number_at, ended, is_text, text_at, signature_at, byte_at}
use Rattle.dbus_values.specs.Trees.{bytes_of, padding}

abbrev pub IsBytes : List ℕ → Type 0
IsBytes bytes = (i : ℕ) → get_or bytes i 0 < 256

pub IsBytes-drop : (n : ℕ) (bytes : List ℕ) → IsBytes bytes → IsBytes (drop n bytes)
IsBytes-drop n bytes h i = rw get_or-drop (h (n + i))

pub IsBytes-take : (n : ℕ) (bytes : List ℕ) → IsBytes bytes → IsBytes (take n bytes)
IsBytes-take n bytes h i =
    elim (cases_lt i n) [
      | inl lt ↦ rw (get_or-take n bytes i 0 lt) (h i)
      | inr le ↦ rw (get_or_past (take n bytes) i 0 (omega (arith, length-take n bytes))) (omega arith)
    ]

pub IsBytes-rest : (front rest : List ℕ) → IsBytes (front ++ rest) → IsBytes rest
IsBytes-rest [] rest h = h
IsBytes-rest (b ∷ front) rest h = IsBytes-rest front rest (λ i. h (suc i))

-- the value of a step that did not fail
pub bind_ok : {A B E : Type 0} (r : Result A E) (f : A → Result B E) (y : B) → (r >>= f) ≡ Ok y → (x : A) × (r ≡ Ok x) × (f x ≡ Ok y)
bind_ok (Ok x) f y e = (x, refl, e)
bind_ok (Err d) f y e = absurd cc

-- a test that did not fail, or that held
pub guard_ok : {A E : Type 0} (b : Bool) (d : E) (r : Result A E) (y : A) → cond b (Err d) r ≡ Ok y → (b ≡ false) × (r ≡ Ok y)
guard_ok true d r y e = absurd cc
guard_ok false d r y e = (refl, e)

pub held_ok : {A E : Type 0} (b : Bool) (d : E) (r : Result A E) (y : A) → cond b r (Err d) ≡ Ok y → (b ≡ true) × (r ≡ Ok y)
held_ok true d r y e = (refl, e)
held_ok false d r y e = absurd cc

pub ok_is : {A E : Type 0} (x y : A) → ◌≡◌ {A = Result A E} (Ok x) (Ok y) → x ≡ y
ok_is x y e = cc

pub length-padding : (n : ℕ) → length (padding n) ≡ n
unfolding padding
length-padding zero = refl
length-padding (suc n) = ap suc (length-padding n)

pub zeros_again : (n at : ℕ) (rest : List ℕ) → zeros n at (padding n ++ rest) ≡ Ok (spot_at (at + n) rest)
unfolding zeros padding
zeros_again zero at rest = let k : at + 0 ≡ at = omega arith in rw k refl
zeros_again (suc n) at rest = let k : at + suc n ≡ at + 1 + n = omega arith in rw k (zeros_again n (at + 1) rest)

pub zeros_takes : (n at : ℕ) (bytes : List ℕ) (p : Spot) → zeros n at bytes ≡ Ok p → (bytes ≡ padding n ++ p.rest) × (p.at ≡ at + n)
unfolding zeros padding
zeros_takes zero at bytes p e = let s : spot_at at bytes ≡ p = ok_is (spot_at at bytes) p e in (ap (λ (q : Spot). q.rest) s, sym (ap (λ (q : Spot). q.at) s) ∙ omega arith)
zeros_takes (suc n) at [] p e = absurd cc
zeros_takes (suc n) at (b ∷ bytes) p e =
    let h = held_ok (eqb b 0) (record { kind = fault.Padding; at = at }) (zeros n (at + 1) bytes) p e in
    let zero_is : b ≡ 0 = eqb-true b 0 h.0 in
    let t = zeros_takes n (at + 1) bytes p h.1 in
    (rw zero_is (ap (λ (x : List ℕ). 0 ∷ x) t.0), omega (arith, t.1))

pub record IsWide (w : Width) (limit : ℕ) : Type 0 where
  pub len : (big : Bool) (n : ℕ) → length (bytes_of big w n) ≡ byte_len w
  pub again : (big : Bool) (n : ℕ) → n < limit → number big w (bytes_of big w n) ≡ n
  pub back : (big : Bool) (bytes : List ℕ) → length bytes ≡ byte_len w → IsBytes bytes → bytes_of big w (number big w bytes) ≡ bytes
  pub below : (big : Bool) (bytes : List ℕ) → IsBytes bytes → number big w bytes < limit

len_16 : (big : Bool) (n : ℕ) → length (bytes_of big w16 n) ≡ 2
len_16 true n = refl
len_16 false n = refl

again_16 : (big : Bool) (n : ℕ) → n < 2 ^ 16 → number big w16 (bytes_of big w16 n) ≡ n
again_16 true n lt = from_be_bytes-to_be_bytes_2 n lt
again_16 false n lt = from_le_bytes-to_le_bytes_2 n lt

back_16 : (big : Bool) (bytes : List ℕ) → length bytes ≡ 2 → IsBytes bytes → bytes_of big w16 (number big w16 bytes) ≡ bytes
back_16 true bytes len fits = be_bytes_2 bytes _ len fits refl
back_16 false bytes len fits = le_bytes_2 bytes _ len fits refl

below_16 : (big : Bool) (bytes : List ℕ) → IsBytes bytes → number big w16 bytes < 2 ^ 16
below_16 true bytes fits = omega (arith, fits 0, fits 1)
below_16 false bytes fits = omega (arith, fits 0, fits 1)

len_32 : (big : Bool) (n : ℕ) → length (bytes_of big w32 n) ≡ 4
len_32 true n = refl
len_32 false n = refl

again_32 : (big : Bool) (n : ℕ) → n < 2 ^ 32 → number big w32 (bytes_of big w32 n) ≡ n
again_32 true n lt = from_be_bytes-to_be_bytes_4 n lt
again_32 false n lt = from_le_bytes-to_le_bytes_4 n lt

back_32 : (big : Bool) (bytes : List ℕ) → length bytes ≡ 4 → IsBytes bytes → bytes_of big w32 (number big w32 bytes) ≡ bytes
back_32 true bytes len fits = be_bytes_4 bytes _ len fits refl
back_32 false bytes len fits = le_bytes_4 bytes _ len fits refl

below_32 : (big : Bool) (bytes : List ℕ) → IsBytes bytes → number big w32 bytes < 2 ^ 32
below_32 true bytes fits = omega (arith, fits 0, fits 1, fits 2, fits 3)
below_32 false bytes fits = omega (arith, fits 0, fits 1, fits 2, fits 3)

len_64 : (big : Bool) (n : ℕ) → length (bytes_of big w64 n) ≡ 8
len_64 true n = refl
len_64 false n = refl

again_64 : (big : Bool) (n : ℕ) → n < 2 ^ 64 → number big w64 (bytes_of big w64 n) ≡ n
again_64 true n lt = from_be_bytes-to_be_bytes_8 n lt
again_64 false n lt = from_le_bytes-to_le_bytes_8 n lt

back_64 : (big : Bool) (bytes : List ℕ) → length bytes ≡ 8 → IsBytes bytes → bytes_of big w64 (number big w64 bytes) ≡ bytes
back_64 true bytes len fits = be_bytes_8 bytes _ len fits refl
back_64 false bytes len fits = le_bytes_8 bytes _ len fits refl

below_64 : (big : Bool) (bytes : List ℕ) → IsBytes bytes → number big w64 bytes < 2 ^ 64
below_64 true bytes fits = omega (arith, fits 0, fits 1, fits 2, fits 3, fits 4, fits 5, fits 6, fits 7)
below_64 false bytes fits = omega (arith, fits 0, fits 1, fits 2, fits 3, fits 4, fits 5, fits 6, fits 7)

pub wide16 : IsWide w16 (2 ^ 16)
wide16 = record { len = len_16; again = again_16; back = back_16; below = below_16 }

pub wide32 : IsWide w32 (2 ^ 32)
wide32 = record { len = len_32; again = again_32; back = back_32; below = below_32 }

pub wide64 : IsWide w64 (2 ^ 64)
wide64 = record { len = len_64; again = again_64; back = back_64; below = below_64 }

pub number_again : (big : Bool) (w : Width) (limit : ℕ) (wide : IsWide w limit) (n at : ℕ) (rest : List ℕ) → n < limit → number_at big w at (bytes_of big w n ++ rest) ≡ Ok (n, spot_at (at + byte_len w) rest)
unfolding number_at
number_again big w limit wide n at rest lt =
    let len = wide.len big n in
    let long : ltb (length (bytes_of big w n ++ rest)) (byte_len w) ≡ false = le-ltb _ _ (omega (arith, length-append (bytes_of big w n) rest)) in
    rw (long, take_at (bytes_of big w n) rest (byte_len w) len, drop_at (bytes_of big w n) rest (byte_len w) len, wide.again big n lt) refl

-- what a reader took from the front: these bytes, of this many
pub record Takes (at : ℕ) (bytes text : List ℕ) (to : Spot) : Type 0 where
  pub split : bytes ≡ text ++ to.rest
  pub place : to.at ≡ at + length text

pub number_takes : (big : Bool) (w : Width) (limit : ℕ) (wide : IsWide w limit) (at : ℕ) (bytes : List ℕ) (x : ℕ × Spot) → IsBytes bytes → number_at big w at bytes ≡ Ok x → Takes at bytes (bytes_of big w x.0) x.1 × (x.0 < limit)
unfolding number_at
number_takes big w limit wide at bytes x fits e =
    let front = take (byte_len w) bytes in
    let rest = drop (byte_len w) bytes in
    let g = guard_ok (ltb (length bytes) (byte_len w)) (record { kind = fault.Length; at = at }) (Ok (number big w front, spot_at (at + byte_len w) rest)) x e in
    let long : byte_len w ≤ length bytes = ltb-false _ _ g.0 in
    let same : (number big w front, spot_at (at + byte_len w) rest) ≡ x = ok_is {E = Fault} (number big w front, spot_at (at + byte_len w) rest) x g.1 in
    let back : bytes_of big w (number big w front) ≡ front = wide.back big front (omega (arith, length-take (byte_len w) bytes)) (IsBytes-take (byte_len w) bytes fits) in
    let taken : Takes at bytes (bytes_of big w (number big w front)) (spot_at (at + byte_len w) rest) = record {
      split = rw back (sym (take-append-drop (byte_len w) bytes));
      place = omega (arith, wide.len big (number big w front));
    } in
    subst (λ (y : ℕ × Spot). Takes at bytes (bytes_of big w y.0) y.1 × (y.0 < limit)) same (taken, wide.below big front (IsBytes-take (byte_len w) bytes fits))

at_end : (text rest : List ℕ) → get_or (text ++ 0 ∷ rest) (length text) 0 ≡ 0
at_end [] rest = refl
at_end (b ∷ text) rest = at_end text rest

drop_end : (text rest : List ℕ) → drop (suc (length text)) (text ++ 0 ∷ rest) ≡ rest
drop_end [] rest = refl
drop_end (b ∷ text) rest = drop_end text rest

pub ended_again : (at here : ℕ) (text rest : List ℕ) → ended at (length text) here (text ++ 0 ∷ rest) ≡ Ok (text, spot_at (here + length text + 1) rest)
unfolding ended
ended_again at here text rest =
    let long : ltb (length text) (length (text ++ 0 ∷ rest)) ≡ true = lt-ltb _ _ (omega (arith, length-append text (0 ∷ rest))) in
    let k : length text + 1 ≡ suc (length text) = omega arith in
    rw (long, at_end text rest, take_at text (0 ∷ rest) (length text) refl, k, drop_end text rest) refl

split_end : (n : ℕ) (bytes : List ℕ) → n < length bytes → get_or bytes n 0 ≡ 0 → bytes ≡ take n bytes ++ 0 ∷ drop (suc n) bytes
split_end n [] lt is = absurd (omega arith)
split_end zero (b ∷ bytes) lt is = ap (λ (x : ℕ). x ∷ bytes) is
split_end (suc n) (b ∷ bytes) lt is = ap (λ (x : List ℕ). b ∷ x) (split_end n bytes (omega arith) is)

pub ended_takes : (at n here : ℕ) (bytes : List ℕ) (x : List ℕ × Spot) → ended at n here bytes ≡ Ok x → Takes here bytes (x.0 ++ 0 ∷ []) x.1 × (length x.0 ≡ n)
unfolding ended
ended_takes at n here bytes x e =
    let g = held_ok (ltb n (length bytes)) (record { kind = fault.Length; at = at }) (cond (eqb (get_or bytes n 0) 0) (Ok (take n bytes, spot_at (here + n + 1) (drop (n + 1) bytes))) (bad fault.Text at)) x e in
    let h = held_ok (eqb (get_or bytes n 0) 0) (record { kind = fault.Text; at = at }) (Ok (take n bytes, spot_at (here + n + 1) (drop (n + 1) bytes))) x g.1 in
    let lt : n < length bytes = ltb-true _ _ g.0 in
    let is : get_or bytes n 0 ≡ 0 = eqb-true _ _ h.0 in
    let same : (take n bytes, spot_at (here + n + 1) (drop (n + 1) bytes)) ≡ x = ok_is {E = Fault} (take n bytes, spot_at (here + n + 1) (drop (n + 1) bytes)) x h.1 in
    let len : length (take n bytes) ≡ n = omega (arith, length-take n bytes) in
    let k : n + 1 ≡ suc n = omega arith in
    let taken : Takes here bytes (take n bytes ++ 0 ∷ []) (spot_at (here + n + 1) (drop (n + 1) bytes)) = record {
      split = rw k (split_end n bytes lt is ∙ sym (append_assoc (take n bytes) (0 ∷ []) (drop (suc n) bytes)));
      place = omega (arith, length-append (take n bytes) (0 ∷ []));
    } in
    subst (λ (y : List ℕ × Spot). Takes here bytes (y.0 ++ 0 ∷ []) y.1 × (length y.0 ≡ n)) same (taken, len)

pub takes_then : (at : ℕ) (a x : List ℕ) (b : Spot) (y : List ℕ) (c : Spot) → Takes at a x b → Takes b.at b.rest y c → Takes at a (x ++ y) c
takes_then at a x b y c p q = record {
  split = p.split ∙ ap (λ (t : List ℕ). x ++ t) q.split ∙ sym (append_assoc x y c.rest);
  place = omega (arith, p.place, q.place, length-append x y);
}

pub text_again : (big : Bool) (text : List ℕ) (at : ℕ) (rest : List ℕ) → length text < 2 ^ 32 → is_text text ≡ true → text_at big at (bytes_of big w32 (length text) ++ (text ++ 0 ∷ rest)) ≡ Ok (text, spot_at (at + 4 + length text + 1) rest)
unfolding text_at
text_again big text at rest lt is =
    rw (number_again big w32 (2 ^ 32) wide32 (length text) at (text ++ 0 ∷ rest) lt, ended_again at (at + 4) text rest, is) refl

pub text_takes : (big : Bool) (at : ℕ) (bytes : List ℕ) (x : List ℕ × Spot) → IsBytes bytes → text_at big at bytes ≡ Ok x → Takes at bytes (bytes_of big w32 (length x.0) ++ (x.0 ++ 0 ∷ [])) x.1 × (is_text x.0 ≡ true)
unfolding text_at
text_takes big at bytes x fits e =
    let b = bind_ok (number_at big w32 at bytes) (λ n. ended at n.0 n.1.at n.1.rest >>= λ t. cond (is_text t.0) (Ok t) (bad fault.Text at)) x e in
    let n = number_takes big w32 (2 ^ 32) wide32 at bytes b.0 fits b.1 in
    let c = bind_ok (ended at b.0.0 b.0.1.at b.0.1.rest) (λ t. cond (is_text t.0) (Ok t) (bad fault.Text at)) x b.2 in
    let t = ended_takes at b.0.0 b.0.1.at b.0.1.rest c.0 c.1 in
    let h = held_ok (is_text c.0.0) (record { kind = fault.Text; at = at }) (Ok c.0) x c.2 in
    let same : c.0 ≡ x = ok_is {E = Fault} c.0 x h.1 in
    let both = takes_then at bytes (bytes_of big w32 b.0.0) b.0.1 (c.0.0 ++ 0 ∷ []) c.0.1 n.0 t.0 in
    let whole : Takes at bytes (bytes_of big w32 (length c.0.0) ++ (c.0.0 ++ 0 ∷ [])) c.0.1 = subst (λ (k : ℕ). Takes at bytes (bytes_of big w32 k ++ (c.0.0 ++ 0 ∷ [])) c.0.1) (sym t.1) both in
    subst (λ (y : List ℕ × Spot). Takes at bytes (bytes_of big w32 (length y.0) ++ (y.0 ++ 0 ∷ [])) y.1 × (is_text y.0 ≡ true)) same (whole, h.0)

pub sig_again : (sig rest : List ℕ) (at : ℕ) → is_signature sig ≡ true → signature_at at (length sig ∷ (sig ++ 0 ∷ rest)) ≡ Ok (sig, spot_at (at + 1 + length sig + 1) rest)
unfolding signature_at byte_at
sig_again sig rest at is = rw (ended_again at (at + 1) sig rest, is) refl

pub byte_takes : (at : ℕ) (bytes : List ℕ) (x : ℕ × Spot) → byte_at at bytes ≡ Ok x → Takes at bytes (x.0 ∷ []) x.1
unfolding byte_at
byte_takes at [] x e = absurd cc
byte_takes at (b ∷ bytes) x e =
    let same : (b, spot_at (at + 1) bytes) ≡ x = ok_is {E = Fault} (b, spot_at (at + 1) bytes) x e in
    subst (λ (y : ℕ × Spot). Takes at (b ∷ bytes) (y.0 ∷ []) y.1) same (record { split = refl; place = refl })

pub sig_takes : (at : ℕ) (bytes : List ℕ) (x : List ℕ × Spot) → signature_at at bytes ≡ Ok x → Takes at bytes (length x.0 ∷ (x.0 ++ 0 ∷ [])) x.1 × (is_signature x.0 ≡ true)
unfolding signature_at
sig_takes at bytes x e =
    let b = bind_ok (byte_at at bytes) (λ n. ended at n.0 n.1.at n.1.rest >>= λ t. cond (is_signature t.0) (Ok t) (bad fault.Text at)) x e in
    let n = byte_takes at bytes b.0 b.1 in
    let c = bind_ok (ended at b.0.0 b.0.1.at b.0.1.rest) (λ t. cond (is_signature t.0) (Ok t) (bad fault.Text at)) x b.2 in
    let t = ended_takes at b.0.0 b.0.1.at b.0.1.rest c.0 c.1 in
    let h = held_ok (is_signature c.0.0) (record { kind = fault.Text; at = at }) (Ok c.0) x c.2 in
    let same : c.0 ≡ x = ok_is {E = Fault} c.0 x h.1 in
    let both = takes_then at bytes (b.0.0 ∷ []) b.0.1 (c.0.0 ++ 0 ∷ []) c.0.1 n t.0 in
    let whole : Takes at bytes (length c.0.0 ∷ (c.0.0 ++ 0 ∷ [])) c.0.1 = subst (λ (k : ℕ). Takes at bytes (k ∷ (c.0.0 ++ 0 ∷ [])) c.0.1) (sym t.1) both in
    subst (λ (y : List ℕ × Spot). Takes at bytes (length y.0 ∷ (y.0 ++ 0 ∷ [])) y.1 × (is_signature y.0 ≡ true)) same (whole, h.0)
