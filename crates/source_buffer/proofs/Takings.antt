-- How a line grows by pieces of the bytes that were read.
use Rattle.std.proofs.Common.{◌≡◌, ◌++◌, [], ◌∷◌, ◌+◌, ◌≤◌, List, ℕ, sym, ◌∙◌, ap, take, drop, length, arith, append_assoc, append-nil}
use Rattle.std.proofs.Math.Seq.{drop-append-add}
use Rattle.std.proofs.lemmas.List.{take-append-drop, length-append}
use Rattle.pk_types.specs.Pieces.{Lacks, IsCut}
use Rattle.pk_types.proofs.Cuts.{lacks_append}
use Rattle.source_buffer.specs.Reading.{Grows}

-- Behind a cut.
after_cut : (piece after : List ℕ) → drop (length piece + 1) (piece ++ 10 ∷ after) ≡ after
after_cut piece after = drop-append-add piece (10 ∷ after) 1

-- A cut of the front of the bytes at hand is a cut of all of them.
wider_cut : (pending window piece after : List ℕ) (w : ℕ) → window ≡ take w pending → IsCut 10 window piece after → pending ≡ piece ++ 10 ∷ (after ++ drop w pending)
wider_cut pending window piece after w front cut =
    sym (take-append-drop w pending) ∙ ap (λ f. f ++ drop w pending) (sym front ∙ cut.whole) ∙ append_assoc piece (10 ∷ after) (drop w pending)

-- The LF was found in the front of the bytes at hand.
pub piece_ended : (pending shown window piece after line longer : List ℕ) (w : ℕ) → shown ≡ pending → window ≡ take w shown → IsCut 10 window piece after
    → longer ≡ line ++ piece → Grows pending (10 ∷ drop (length piece + 1) pending) line longer
piece_ended pending shown window piece after line longer w is front cut grown =
    let whole : pending ≡ piece ++ 10 ∷ (after ++ drop w pending) = wider_cut pending window piece after w (front ∙ ap (λ p. take w p) is) cut in
    let rest : drop (length piece + 1) pending ≡ after ++ drop w pending = ap (λ b. drop (length piece + 1) b) whole ∙ after_cut piece (after ++ drop w pending) in
    record {
      piece = piece;
      whole = whole ∙ ap (λ r. piece ++ 10 ∷ r) (sym rest);
      grown = grown;
      lacks = cut.first;
    }

-- A cut leaves less than there was before it.
pub cut_shorter : (bytes front after : List ℕ) → IsCut 10 bytes front after → length front + 1 ≤ length bytes
cut_shorter bytes front after cut =
    let size : length bytes ≡ length front + length (10 ∷ after) = ap length cut.whole ∙ length-append front (10 ∷ after) in omega (arith, size)

-- It was not found there.
pub piece_open : (pending window line longer : List ℕ) (w : ℕ) → window ≡ take w pending → length window ≡ w → Lacks 10 window
    → longer ≡ line ++ window → Grows pending (drop (length window) pending) line longer
piece_open pending window line longer w front size lacks grown = record {
  piece = window;
  whole =
      sym (take-append-drop w pending) ∙ ap (λ f. f ++ drop w pending) (sym front)
      ∙ ap (λ n. window ++ drop n pending) (sym size);
  grown = grown;
  lacks = lacks;
}

-- All bytes so far are the longer line and what stands behind it.
pub longer_whole : (all line pending behind longer : List ℕ) → all ≡ line ++ pending → Grows pending behind line longer → all ≡ longer ++ behind
longer_whole all line pending behind longer whole g =
    whole ∙ ap (λ p. line ++ p) g.whole ∙ sym (append_assoc line g.piece behind) ∙ ap (λ l. l ++ behind) (sym g.grown)

-- All bytes so far are the longer line, which took all that stood behind the shorter one.
pub longer_all : (all line pending behind longer : List ℕ) → all ≡ line ++ pending → Grows pending behind line longer → behind ≡ [] → all ≡ longer
longer_all all line pending behind longer whole g none =
    longer_whole all line pending behind longer whole g ∙ ap (λ b. longer ++ b) none ∙ append-nil longer

-- A longer line has no LF either.
pub longer_lacks : (line pending behind longer : List ℕ) → Lacks 10 line → Grows pending behind line longer → Lacks 10 longer
longer_lacks line pending behind longer lacks g = rw g.grown (lacks_append 10 line g.piece lacks g.lacks)

-- More bytes were read behind a line that took all before.
pub read_on : (before read chunk line : List ℕ) → before ++ read ≡ line → before ++ (read ++ chunk) ≡ line ++ chunk
read_on before read chunk line e = sym (append_assoc before read chunk) ∙ ap (λ l. l ++ chunk) e

-- What was read where nothing was kept is all that is kept.
pub read_alone : (before piece now : List ℕ) → before ≡ [] → now ≡ before ++ piece → now ≡ piece
read_alone before piece now none e = e ∙ ap (λ b. b ++ piece) none
