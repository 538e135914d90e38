-- The first line of bytes.
use Rattle.std.proofs.Common.{◌≡◌, ℕ, ◌==◌, List, [], ◌∷◌, length, take, drop, false, ap, sym, ◌∙◌, arith}
use Rattle.std.proofs.lemmas.List.{take_all, drop_all}
use Rattle.pk_types.specs.Pieces.{Lacks, IsCut, lines_of}
use Rattle.pk_types.proofs.Cuts.{lines_of-cut, lines_of-last, some_bytes}

pub first_line : (bytes line behind : List ℕ) → IsCut 10 bytes line behind → lines_of bytes ≡ line ∷ lines_of behind
first_line bytes line behind cut = ap lines_of cut.whole ∙ lines_of-cut line behind cut.first

-- the last line, which the end of the bytes ends
pub last_line : (bytes line behind : List ℕ) → Lacks 10 bytes → (false ≡ (length bytes == 0)) → line ≡ take (length bytes) bytes → behind ≡ drop (length bytes) bytes
    → lines_of bytes ≡ line ∷ lines_of behind
last_line bytes line behind lacks some l b =
    lines_of-last bytes lacks (some_bytes bytes some)
    ∙ ap (λ x. x ∷ []) (sym (take_all (length bytes) bytes (omega arith)) ∙ sym l)
    ∙ ap (λ r. line ∷ lines_of r) (sym (drop_all (length bytes) bytes (omega arith)) ∙ sym b)
