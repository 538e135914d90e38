-- The parts of a text that is cut at `=` (61).
use Rattle.std.proofs.Common.{◌≡◌, ℕ, ◌+◌, ◌≤◌, ◌==◌, false, List, ◌∷◌, ◌++◌, length, Some, None, ap, sym, ◌∙◌, arith, length-append}
use Rattle.std.specs.Prelude.{if◌then◌else◌, option_and_then}
use Rattle.pk_types.specs.Pieces.{Lacks, IsCut}
use Rattle.pk_types.specs.Text.{IsText}
use Rattle.pk_types.specs.declared.values.Pair.{Pair}
use Rattle.keyfile_text.proofs.Cleans.{clean-cut, text_is, text_of_clean}
use Rattle.keyfile_text.proofs.Cutting.{cut_at-none, cut_at-found}
use Rattle.keyfile_text.specs.Bytes.{cut_at}
use Rattle.pkla_files.specs.Returned.{pair_of, pair_of_parts}

-- both parts are texts
pub cut_texts : (bytes item key value : List ℕ) → bytes ≡ item → IsText item → IsCut 61 bytes key value → IsText key × IsText value
cut_texts bytes item key value same text cut =
    let both = text_is item text in
    let whole : item ≡ key ++ 61 ∷ value = sym same ∙ cut.whole in
    let parts = clean-cut item key value 61 whole (omega arith) both.0 in
    let fits : length item ≤ 65535 = both.1 in
    let size : length item ≡ length key + (length value + 1) = ap length whole ∙ length-append key (61 ∷ value) ∙ omega arith in (
      text_of_clean key parts.0 (omega arith),
      text_of_clean value parts.1 (omega arith),
    )

abbrev pair_at : List ℕ → List ℕ → Pair
pair_at key value = record { key = key; value = value }

-- no `=` stands there
pub no_pair : (bytes item : List ℕ) → bytes ≡ item → Lacks 61 bytes → pair_of item ≡ None
no_pair bytes item same lacks = ap (option_and_then pair_of_parts) (ap (cut_at 61) (sym same) ∙ cut_at-none 61 bytes lacks)

-- a key that is not empty
pub pair_found : (bytes item key value new_key new_value : List ℕ) → bytes ≡ item → IsCut 61 bytes key value → (length key == 0) ≡ false → new_key ≡ key → new_value ≡ value → pair_of item ≡ Some (pair_at new_key new_value)
pair_found bytes item key value new_key new_value same cut some key_same value_same =
    ap (option_and_then pair_of_parts) (ap (cut_at 61) (sym same) ∙ cut_at-found 61 bytes key value cut)
    ∙ ap (λ t. if t then None else Some (pair_at key value)) some
    ∙ ap (λ k. Some (pair_at k value)) (sym key_same)
    ∙ ap (λ v. Some (pair_at new_key v)) (sym value_same)
