-- With fewer bytes than are awaited there is less than a message.
use Rattle.std.proofs.Common.{◌≡◌, ℕ, ◌+◌, ◌<◌, List, [], ◌∷◌, ◌++◌, length, Bool, true, false, cond, ltb, Result, Ok, Err, refl, ap, ◌∙◌, arith, append-nil}
use Rattle.std.proofs.lemmas.Bool.{ltb-true, lt-ltb}
use Rattle.std.proofs.lemmas.List.{length-append}
use Rattle.dbus_values.specs.declared.fault.Stop.{Stop}
use Rattle.dbus_values.specs.declared.fault.Stop.TheVariants as stop
use Rattle.dbus_values.specs.Awaiting.{awaited, awaited_after}
use Rattle.dbus_values.specs.Messages.{Start, total, start_of, message_of}
use Rattle.dbus_values.specs.Next.{Partial, Bad, message_on, start_on, next_of}
use Rattle.dbus_values.proofs.Prefixes.{Stays, start_stays}

nothing_more : (bytes more : List ℕ) → length (bytes ++ more) < length bytes + 1 → bytes ++ more ≡ bytes
nothing_more bytes [] lt = append-nil bytes
nothing_more bytes (x ∷ more) lt = absurd (omega (arith, length-append bytes (x ∷ more), lt))

pub below_awaited : (bytes more : List ℕ) → next_of bytes ≡ Partial → length (bytes ++ more) < awaited bytes → next_of (bytes ++ more) ≡ Partial
below_awaited bytes more partial lt = go (start_of bytes) refl (start_stays bytes more) partial lt where
  go : (r : Result Start Stop) → start_of bytes ≡ r → Stays r (start_of (bytes ++ more)) → start_on bytes r ≡ Partial → length (bytes ++ more) < awaited_after (length bytes) r → next_of (bytes ++ more) ≡ Partial
  go (Ok s) is stays at lt =
      let short : ltb (length (bytes ++ more)) (total s) ≡ true = lt-ltb _ _ lt in
      ap (λ (r : Result Start Stop). start_on (bytes ++ more) r) stays ∙ rw short refl
  go (Err stop.Partial) is stays at lt = ap next_of (nothing_more bytes more lt) ∙ partial
  go (Err (stop.Bad e)) is stays at lt = absurd (faulty at) where
    faulty : Bad e.kind e.at ≡ Partial → ⊥
    faulty h = cc

pub above_partial : (bytes : List ℕ) → next_of bytes ≡ Partial → length bytes < awaited bytes
above_partial bytes partial = go (start_of bytes) partial where
  read : (s : Start) (r : _) → message_on s r ≡ Partial → ⊥
  read s (Ok x) h = cc
  read s (Err f) h = faulty f.kind f.at h where
    faulty : (k : _) (n : ℕ) → Bad k n ≡ Partial → ⊥
    faulty k n h = cc

  sized : (s : Start) (b : Bool) → ltb (length bytes) (total s) ≡ b → cond b Partial (message_on s (message_of s bytes)) ≡ Partial → length bytes < total s
  sized s true lt h = ltb-true _ _ lt
  sized s false lt h = absurd (read s (message_of s bytes) h)

  go : (r : Result Start Stop) → start_on bytes r ≡ Partial → length bytes < awaited_after (length bytes) r
  go (Ok s) h = sized s (ltb (length bytes) (total s)) refl h
  go (Err why) h = omega arith
