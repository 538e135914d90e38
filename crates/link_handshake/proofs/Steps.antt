-- What a byte brings about behind an open line.
use Rattle.std.proofs.Common.{◌≡◌, ◌≢◌, ℕ, zero, suc, ◌-◌, ◌<◌, List, [], ◌∷◌, ◌++◌, length, refl, ap, ◌∙◌, arith, append-nil}
use Rattle.link_handshake.specs.Lines.{front, IsOpenLine}
use Rattle.link_handshake.specs.Answers.{line_answer}
use Rattle.std.specs.Prelude.{if◌then◌else◌}
use Rattle.link_handshake.specs.Clients.{awaited, at_reply, is_ok_line}
use Rattle.link_handshake.specs.Shakes.{Open, Begun, Failed, silent, answers, at_front, at_end, then_answers}
use Rattle.link_handshake.specs.declared.server.ShakeFault.TheVariants as fault
use Rattle.link_handshake.specs.declared.answer.Phase.{Phase}
use Rattle.link_handshake.proofs.Fronts.{front-part, front-over, front-line}

pub answers-nil : (door left : ℕ) (phase : Phase) → answers door left phase [] ≡ silent Open
unfolding answers front
answers-nil door zero phase = refl
answers-nil door (suc left) phase = refl

pub answers-too_many : (door left : ℕ) (phase : Phase) (line more : List ℕ) (b : ℕ) → left ≡ 0 → answers door left phase (line ++ b ∷ more) ≡ silent (Failed fault.TooMany)
unfolding answers
answers-too_many door left phase line more b e = ap (λ n. answers door n phase (line ++ b ∷ more)) e ∙ end line
  where
    end : (line : List ℕ) → at_end (line ++ b ∷ more) ≡ silent (Failed fault.TooMany)
    end [] = refl
    end (c ∷ line) = refl

by_front : (door left : ℕ) (phase : Phase) (bytes : List ℕ) → left ≢ 0 → answers door left phase bytes ≡ at_front door phase (answers door (left - 1)) (front bytes)
unfolding answers
by_front door zero phase bytes some = absurd (some refl)
by_front door (suc left) phase bytes some = let e : left ≡ suc left - 1 = omega arith in ap (λ n. at_front door phase (answers door n) (front bytes)) e

pub answers-too_long : (door left : ℕ) (phase : Phase) (line more : List ℕ) (b : ℕ) → left ≢ 0 → IsOpenLine line → length line ≡ 512
    → answers door left phase (line ++ b ∷ more) ≡ silent (Failed fault.TooLong)
answers-too_long door left phase line more b some is full =
    by_front door left phase (line ++ b ∷ more) some ∙ ap (at_front door phase (answers door (left - 1))) (front-over line more b is full)

pub answers-open : (door left : ℕ) (phase : Phase) (line : List ℕ) → left ≢ 0 → IsOpenLine line → answers door left phase (line ++ []) ≡ silent Open
answers-open door left phase line some is =
    ap (answers door left phase) (append-nil line) ∙ by_front door left phase line some ∙ ap (at_front door phase (answers door (left - 1))) (front-part line is)

pub answers-line : (door left : ℕ) (phase : Phase) (line more : List ℕ) → left ≢ 0 → IsOpenLine line → length line < 512
    → answers door left phase (line ++ 10 ∷ more) ≡ then_answers (answers door (left - 1)) more (line_answer door phase line)
answers-line door left phase line more some is fits =
    by_front door left phase (line ++ 10 ∷ more) some ∙ ap (at_front door phase (answers door (left - 1))) (front-line line more is fits)

pub awaited-too_long : (line more : List ℕ) (b : ℕ) → IsOpenLine line → length line ≡ 512 → awaited (line ++ b ∷ more) ≡ Failed fault.TooLong
awaited-too_long line more b is full = ap at_reply (front-over line more b is full)

pub awaited-open : (line : List ℕ) → IsOpenLine line → awaited (line ++ []) ≡ Open
awaited-open line is = ap awaited (append-nil line) ∙ ap at_reply (front-part line is)

pub awaited-line : (line more : List ℕ) → IsOpenLine line → length line < 512 → awaited (line ++ 10 ∷ more) ≡ (if is_ok_line line then Begun more else Failed fault.BadLine)
awaited-line line more is fits = ap at_reply (front-line line more is fits)
