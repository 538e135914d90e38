-- How details are put together.
use Rattle.std.proofs.Common.{◌≡◌, ℕ, ◌+◌, ◌<◌, List, [], ◌∷◌, ◌++◌, length, take, get_or, Result, Ok, Err, OnOk, ap, sym, ◌∙◌, append_assoc}
use Rattle.std.proofs.lemmas.List.{take_more}
use Rattle.pk_types.specs.declared.values.Pair.{Pair}
use Rattle.authority_model.specs.Words.{Bytes}
use Rattle.authority_model.specs.Details.{detail}

pub detail_ok : {T E : Type 0} (r : Result T E) (old new : List Pair) (key value told : Bytes) (want : List Pair) → value ≡ told → want ≡ detail key told → OnOk r (new ≡ old ++ detail key value) → OnOk r (new ≡ old ++ want)
detail_ok (Ok x) old new key value told want value-is want-is added = added ∙ ap (λ (v : Bytes). old ++ detail key v) value-is ∙ ap (λ (d : List Pair). old ++ d) (sym want-is)
detail_ok (Err e) old new key value told want value-is want-is added = tt

pub pairs_more : (old now new pairs : List Pair) (i : ℕ) (item copy : Pair) → i < length pairs → get_or pairs i item ≡ item → copy ≡ item → now ≡ old ++ take i pairs → new ≡ now ++ copy ∷ [] → new ≡ old ++ take (i + 1) pairs
pairs_more old now new pairs i item copy lt at copy-is now-is new-is =
    let one : take i pairs ++ copy ∷ [] ≡ take (i + 1) pairs = ap (λ (p : Pair). take i pairs ++ p ∷ []) (copy-is ∙ sym at) ∙ sym (take_more pairs i item lt) in
    new-is ∙ ap (λ (ps : List Pair). ps ++ copy ∷ []) now-is ∙ append_assoc old (take i pairs) (copy ∷ []) ∙ ap (λ (ps : List Pair). old ++ ps) one
