-- Items written and read one after the other, as loops do.
use Rattle.std.proofs.Common.{◌≡◌, ℕ, suc, ◌-◌, ◌+◌, ◌≤◌, ◌<◌, List, [], ◌∷◌, ◌++◌, Ok, Err, refl, sym, ap, ◌∙◌, append_assoc, append-nil, arith}
use Rattle.audit_words.specs.declared.fault.Stop.{Stop}
use Rattle.audit_words.specs.declared.fault.Stop.TheVariants as stops
use Rattle.audit_words.specs.Codecs.{Codec, Reading, ◌>>=◌, take_items}
use Rattle.audit_words.specs.Reads.{Fails}

abbrev pub with_front : {A : Type 0} → List A → Reading (List A) → Reading (List A)
with_front front read = read >>= λ x. Ok (front ++ x.0, x.1)

pub starts : {A : Type 0} (read : Reading (List A)) → with_front [] read ≡ read
starts (Ok x) = refl
starts (Err k) = refl

regroup_front : (A : Type 0) (front : List A) (v : A) (read : Reading (List A)) → with_front front (read >>= λ x. Ok (v ∷ x.0, x.1)) ≡ with_front (front ++ v ∷ []) read
regroup_front A front v (Ok x) = ap (λ (vs : List A). Ok (vs, x.1)) (sym (append_assoc front (v ∷ []) x.0))
regroup_front A front v (Err k) = refl

one_more : (A : Type 0) (c : Codec A) (count i : ℕ) (ws : List (List ℕ)) → i < count
    → take_items c (count - i) ws ≡ (c.take ws >>= λ x. take_items c (count - (i + 1)) x.1 >>= λ y. Ok (x.0 ∷ y.0, y.1))
one_more A c count i ws lt = let k : count - i ≡ suc (count - (i + 1)) = omega arith in ap (λ (n : ℕ). take_items c n ws) k

pub goes_on : (A : Type 0) (c : Codec A) (front : List A) (count i : ℕ) (ws : List (List ℕ)) (v : A) (after : List (List ℕ)) (total : Reading (List A)) → i < count → c.take ws ≡ Ok (v, after)
    → with_front front (take_items c (count - i) ws) ≡ total → with_front (front ++ v ∷ []) (take_items c (count - (i + 1)) after) ≡ total
goes_on A c front count i ws v after total lt e so_far =
    sym (ap (with_front front) (one_more A c count i ws lt ∙ ap (λ (r : Reading A). r >>= λ x. take_items c (count - (i + 1)) x.1 >>= λ y. Ok (x.0 ∷ y.0, y.1)) e)
    ∙ regroup_front A front v (take_items c (count - (i + 1)) after)) ∙ so_far

pub ends : (A : Type 0) (c : Codec A) (e : Stop) (front : List A) (count i : ℕ) (ws : List (List ℕ)) (total : Reading (List A)) → i < count → Fails e (c.take ws)
    → with_front front (take_items c (count - i) ws) ≡ total → Fails e total
ends A c stops.Memory front count i ws total lt h so_far = tt
ends A c (stops.Fault f) front count i ws total lt h so_far =
    sym so_far ∙ ap (with_front front) (one_more A c count i ws lt ∙ ap (λ (r : Reading A). r >>= λ x. take_items c (count - (i + 1)) x.1 >>= λ y. Ok (x.0 ∷ y.0, y.1)) h)

pub is_done : (A : Type 0) (c : Codec A) (front : List A) (count i : ℕ) (ws : List (List ℕ)) (total : Reading (List A)) → count ≤ i
    → with_front front (take_items c (count - i) ws) ≡ total → total ≡ Ok (front, ws)
is_done A c front count i ws total le so_far =
    let k : count - i ≡ 0 = omega arith in
    sym so_far ∙ ap (λ (n : ℕ). with_front front (take_items c n ws)) k ∙ ap (λ (vs : List A). Ok (vs, ws)) (append-nil front)
