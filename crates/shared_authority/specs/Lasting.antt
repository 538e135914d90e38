-- What the lock asks of journals and of causes.
use Rattle.std.proofs.Common.{◌≡◌, ℕ, ◌+◌, ◌^◌, ◌≤◌, List, [], ◌++◌, ap, sym, ◌∙◌, length, arith}
use Rattle.std.specs.Prelude.{reverse}
use Rattle.std.proofs.lemmas.List.{length-append, reverse-append}
use Rattle.std.proofs.lemmas.List.Sums.{sum_by-append}
use mathlib.Core.List.{IsPrefix}
use Rattle.history_lock.specs.declared.machine.EndCause.{EndCause}
use Rattle.history_lock.specs.declared.machine.EndCause.TheVariants.{JournalFull, NoMemory, Admissions}
use Rattle.authority_model.specs.declared.journal.Item.{Item}
use Rattle.authority_model.specs.declared.journal.Limits.{Limits}
use Rattle.authority_model.specs.Entering.{cost_of_item, counted_bytes}
use Rattle.shared_authority.specs.Journals.{IsJournal, Fits, past_of}
use Rattle.history_lock.specs.declared.machine.TheConstants.{MOST_PASSES}

-- no item at all is a journal
pub empty_journal : IsJournal []
empty_journal = record { history = tt; few = omega arith }

-- a journal is short
pub journals_short : (list : List Item) → IsJournal list → length list ≤ 2 ^ 32
journals_short list journal = omega (arith, journal.few)

-- the counted bytes of a list that goes on
pub bytes_grow : (list more : List Item) → counted_bytes (past_of (list ++ more)) ≡ counted_bytes (past_of list) + counted_bytes (past_of more)
bytes_grow list more =
    let turned = ap counted_bytes (reverse-append list more) in
    let parts = sum_by-append cost_of_item (reverse more) (reverse list) in
    omega (arith, turned, parts)

-- a cause that fits goes on to fit
pub fits_lasts : (limits : Limits) (cause : EndCause) (list more : List Item) (m n : ℕ) → Fits limits cause list m → IsJournal more → IsPrefix list more → m ≤ n → n ≤ MOST_PASSES → Fits limits cause more n
fits_lasts limits (JournalFull entries bytes) list more m n fits journal begins le top =
    let (added, goes_on) = begins in
    let longer = sym (ap length goes_on) ∙ length-append list added in
    let counted = ap (λ (l : List Item). counted_bytes (past_of l)) (sym goes_on) ∙ bytes_grow list added in
    record {
      entries_are = omega (arith, fits.entries_are, longer);
      bytes_are = omega (arith, fits.bytes_are, counted);
      limit = fits.limit;
    }
fits_lasts limits NoMemory list more m n fits journal begins le top = tt
fits_lasts limits (Admissions admitted) list more m n fits journal begins le top = record { number = fits.number; all = omega (arith, fits.all, le, top) }
