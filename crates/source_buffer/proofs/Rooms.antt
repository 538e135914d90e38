-- What stands in the buffer behind a move to its front and behind a read.
use Rattle.std.proofs.Common.{◌≡◌, ◌++◌, ◌+◌, ◌-◌, ◌≤◌, List, ℕ, sym, ◌∙◌, ap, take, drop, length, arith, subst}
use Rattle.std.proofs.Math.Seq.{take-add}
use Rattle.std.proofs.lemmas.Grind.{common_steps}
use Rattle.std.proofs.lemmas.List.{take-append-le, take-take, drop-append-le, length-take-le}

-- What a call left at the front of the buffer.
pub front_of_buffer : (n len : ℕ) (b xs : List ℕ) → n ≤ length b → n ≤ len → take n (take len (b ++ drop (length b) xs)) ≡ take n b
front_of_buffer n len b xs inside small = grind (arith, common_steps, take-take {A = ℕ}, take-append-le {A = ℕ})

-- The bytes that were read were moved.
pub moved_front : (bytes read moved rest : List ℕ) (start end : ℕ) → read ≡ take end bytes → length read ≡ end → length moved ≡ length read → take (length read - start) moved ≡ drop start read
    → take (end - start) (moved ++ rest) ≡ drop start (take end bytes)
moved_front bytes read moved rest start end front size same is =
    let inside : end - start ≤ length moved = omega (arith, same, size) in
    take-append-le (end - start) moved rest inside ∙ ap (λ n. take (n - start) moved) (sym size) ∙ is ∙ ap (λ r. drop start r) front

-- A read put a piece behind them.
pub read_behind : (items now old : List ℕ) (start end n : ℕ) → take (end + n) items ≡ take (end + n) now → take end now ≡ take end old → start ≤ end → end ≤ length now
    → drop start (take (end + n) items) ≡ drop start (take end old) ++ take n (drop end now)
read_behind items now old start end n same kept small inside =
    let size : length (take end old) ≡ end = ap length (sym kept) ∙ length-take-le end now inside in
    ap (λ t. drop start t) (same ∙ take-add end n now ∙ ap (λ t. t ++ take n (drop end now)) kept)
    ∙ drop-append-le start (take end old) (take n (drop end now)) (subst (λ k. start ≤ k) (sym size) small)
