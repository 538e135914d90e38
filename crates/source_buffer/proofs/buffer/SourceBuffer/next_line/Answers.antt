use Rattle.std.proofs.Common.{◌≡◌, ◌++◌, [], ◌∙◌, ap, sym, arith, append-nil, refl, length}
use Rattle.std.proofs.lemmas.List.{nil_from_length}
use Rattle.pk_outside.proofs.Written.{Gave-none, Gave-more}
use Rattle.pk_types.proofs.Cuts.{some_bytes}
use Rattle.source_buffer.proofs.Takings.{longer_whole, longer_all, longer_lacks, read_alone, read_on}
use Rattle.source_buffer.proofs.buffer.SourceBuffer.next_line.Goals as goal

pub pieces-init : goal.pieces-init
pieces-init g c = record {
  taken = ([], Gave-none _, rw c.clear.ensures.items (append-nil c.args.self.now));
  lacks = rw c.clear.ensures.items tt;
  short = omega (arith, c.clear.ensures.len);
  quiet = refl;
  fewer = omega arith;
}

pub returns-in-Ok-Ended-clause-takes : goal.returns-in-Ok-Ended-clause-takes
returns-in-Ok-Ended-clause-takes g c =
    let so_far = c.pieces.invariant in
    let piece = rw c.in-Ok-Ended.field-0-is at c.in-Ok-Ended.ensures.taken in (
      so_far.taken.0,
      so_far.taken.1,
      record { whole = longer_whole _ _ _ _ _ so_far.taken.2 piece.0; lacks = longer_lacks _ _ _ _ so_far.lacks piece.0; short = piece.1 },
    )

pub returns-in-Ok-TooLong-clause-takes : goal.returns-in-Ok-TooLong-clause-takes
returns-in-Ok-TooLong-clause-takes g c =
    let so_far = c.pieces.invariant in
    let piece = rw c.in-Ok-TooLong.field-0-is at c.in-Ok-TooLong.ensures.taken in (
      so_far.taken.0,
      so_far.taken.1,
      record { whole = longer_whole _ _ _ _ _ so_far.taken.2 piece.0; lacks = longer_lacks _ _ _ _ so_far.lacks piece.0; long = piece.1 },
    )

pub returns-in-Err-Failed-clause-takes : goal.returns-in-Err-Failed-clause-takes
returns-in-Err-Failed-clause-takes g c =
    let so_far = c.pieces.invariant in
    let read = so_far.taken.0 in
    let piece = rw c.in-Ok-Open.field-0-is at c.in-Ok-Open.ensures.taken in
    let all = longer_all _ _ _ _ _ so_far.taken.2 piece.0 piece.2 in
    let brings = c.in-Err-Failed.ensures.brings in
    let unread = rw c.in-Err-Failed.field-0-is at brings.2 in
    let none : c.read_once.new.self ≡ [] = unread.0 ∙ piece.2 in
    let nothing : c.read_once.new.self ≡ brings.0 = none ∙ sym unread.1 in (
      read ++ c.read_once.new.self,
      Gave-more _ _ _ read _ so_far.taken.1 (rw nothing brings.1),
      (record { whole = read_on _ read _ _ all; lacks = longer_lacks _ _ _ _ so_far.lacks piece.0; short = piece.1 }, none),
    )

pub returns-in-Err-NoMemory-clause-takes : goal.returns-in-Err-NoMemory-clause-takes
returns-in-Err-NoMemory-clause-takes g c =
    let so_far = c.pieces.invariant in
    let read = so_far.taken.0 in
    let piece = rw c.in-Ok-Open.field-0-is at c.in-Ok-Open.ensures.taken in
    let all = longer_all _ _ _ _ _ so_far.taken.2 piece.0 piece.2 in
    let brings = c.in-Err-NoMemory.ensures.brings in
    let unread = rw c.in-Err-NoMemory.field-0-is at brings.2 in
    let none : c.read_once.new.self ≡ [] = unread.0 ∙ piece.2 in
    let nothing : c.read_once.new.self ≡ brings.0 = none ∙ sym unread.1 in (
      read ++ c.read_once.new.self,
      Gave-more _ _ _ read _ so_far.taken.1 (rw nothing brings.1),
      record { whole = read_on _ read _ _ all; lacks = longer_lacks _ _ _ _ so_far.lacks piece.0; short = piece.1 },
    )

pub returns-else-is_empty-clause-takes : goal.returns-else-is_empty-clause-takes
returns-else-is_empty-clause-takes g c =
    let so_far = c.pieces.invariant in
    let read = so_far.taken.0 in
    let piece = rw c.in-Ok-Open.field-0-is at c.in-Ok-Open.ensures.taken in
    let all = longer_all _ _ _ _ _ so_far.taken.2 piece.0 piece.2 in
    let brings = c.in-Ok-eq0.ensures.brings in
    let alone : c.read_once.new.self ≡ brings.0 = read_alone _ _ _ piece.2 brings.2.0 in
    let none : c.read_once.new.self ≡ [] = alone ∙ nil_from_length _ (brings.2.1 ∙ c.in-Ok-eq0.field-0-test) in (
      read ++ c.read_once.new.self,
      Gave-more _ _ _ read _ so_far.taken.1 (rw alone brings.1),
      record {
        whole = read_on _ read _ _ all ∙ ap (λ b. c.take_piece.new.line.items ++ b) none ∙ append-nil _;
        lacks = longer_lacks _ _ _ _ so_far.lacks piece.0;
        short = piece.1;
        some = rw c.as_slice-taken.ensures.value at (some_bytes c.as_slice-taken.result.now c.if-is_empty.ensures);
        none_kept = none;
        at_end = c.in-Ok-eq0.ensures.end c.in-Ok-eq0.field-0-test;
      },
    )

pub pieces-preserved : goal.pieces-preserved
pieces-preserved g c =
    let so_far = c.pieces.invariant in
    let read = so_far.taken.0 in
    let piece = rw c.in-Ok-Open.field-0-is at c.in-Ok-Open.ensures.taken in
    let all = longer_all _ _ _ _ _ so_far.taken.2 piece.0 piece.2 in
    let brings = c.in-Ok.ensures.brings in
    let alone : c.read_once.new.self ≡ brings.0 = read_alone _ _ _ piece.2 brings.2.0 in
    let count = ap length alone ∙ brings.2.1 in
    record {
      taken = (read ++ c.read_once.new.self, Gave-more _ _ _ read _ so_far.taken.1 (rw alone brings.1), read_on _ read _ _ all);
      lacks = longer_lacks _ _ _ _ so_far.lacks piece.0;
      short = piece.1;
      quiet = c.in-Ok.ensures.faults ∙ so_far.quiet;
      fewer = omega (arith, c.in-Ok.ensures.fewer, count, so_far.fewer);
    }
